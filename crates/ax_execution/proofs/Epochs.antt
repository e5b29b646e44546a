-- Nothing is left of an epoch whose marker was sent, marks are of closed epochs, and the mark of a firing stays in front of its key.
use Rattle.std.proofs.Common.{◌≡◌, ℕ, suc, ◌≤◌, ◌<◌, ℤ, List, [], ◌∷◌, ◌++◌, Bool, true, false, cond, Option, Some, None, refl, sym, ap, arith, subst}
use Rattle.ax_text.specs.declared.vocabulary.Handler.{Handler}
use Rattle.ax_text.specs.declared.vocabulary.Handler.TheVariants as handler
use Rattle.ax_text.specs.Functions.{upd}
use Rattle.ax_text.specs.Exprs.{Facts}
use Rattle.ax_text.specs.Programs.{Program}
use Rattle.ax_text.specs.Controls.{is_done}
use Rattle.ax_text.specs.Silent.{unanswered}
use Rattle.ax_machine.specs.Entries.{Key}
use Rattle.ax_machine.specs.Firings.{most_firings}
use Rattle.ax_machine.specs.KeySync.{Said}
use Rattle.ax_execution.specs.Groups.{row_facts}
use Rattle.ax_execution.specs.Contexts.{Running, running_group, Begun, Context, Waiting, Row, Mark, Part, rows_in, may_fire}
use Rattle.ax_execution.specs.Turns.{handed, closed_with, left_by, staged, called_back, begins, gives, Effects, admit, mark, fire, start, serve, deliver}
use Rattle.ax_execution.specs.Machine.{Closing, ByWatermark, ByBarrier, Closed, Machine, Happening, Admit, Close, Fire, Start, Serve, Deliver, Send, Rules, part_at, send_first, happens, after_all, taken, machine_from, machine_of}
use Rattle.ax_execution.specs.Origins.{Origin, IsOrigin}
use Rattle.ax_execution.specs.Allowed.{OwnedLater, WaitLater, IsFinished, FirstIsFinished, Allowed, IsRun}
use Rattle.ax_execution.proofs.Handles.{Handles}
use Rattle.ax_execution.proofs.Upto.{part_of}
use Rattle.ax_execution.proofs.Alone.{Alone, on_part, event_alone, start_alone}
use Rattle.ax_execution.proofs.Orderly.{IsOrderly, keys_rise, event_orderly, start_orderly}
use Rattle.ax_execution.proofs.Cases.{start_case, deliver_case, serve_case, fire_case, admit_case, mark_case}
use Rattle.ax_machine.specs.Events.{Event}

-- nothing is of an epoch below this one, and the marks are of epochs below that one
unfoldable pub OwnedFrom : ℕ → Option Context → Type 0
OwnedFrom e None = Unit {0}
OwnedFrom e (Some c) = e ≤ c.epoch

unfoldable pub WaitBetween : ℕ → ℕ → List Waiting → Type 0
WaitBetween e now [] = Unit {0}
WaitBetween e now (Row n f facts ∷ is) = (e ≤ f) × WaitBetween e now is
WaitBetween e now (Mark f w more ∷ is) = (e ≤ f) × (f < now) × WaitBetween e now is

-- the mark of a firing stands in front
unfoldable pub FrontIsOf : ℕ → List Waiting → Type 0
FrontIsOf e [] = ⊥
FrontIsOf e (Row n f facts ∷ is) = ⊥
FrontIsOf e (Mark f w more ∷ is) = f ≡ e

unfoldable pub HandlerCovered : Handler → ℕ → List Waiting → Type 0
HandlerCovered handler.Row e is = Unit {0}
HandlerCovered handler.Timer e is = FrontIsOf e is

unfoldable pub OwnerCovered : Option Context → List Waiting → Type 0
OwnerCovered None is = Unit {0}
OwnerCovered (Some c) is = HandlerCovered c.job.handler c.epoch is

pub record IsTimely (e now : ℕ) (q : Part) : Type 0 where
  pub owned : OwnedFrom e q.owner
  pub waits : WaitBetween e now q.waiting
  pub covered : OwnerCovered q.owner q.waiting

-- one key

front_last : (e : ℕ) (is js : List Waiting) → FrontIsOf e is → FrontIsOf e (is ++ js)
unfolding FrontIsOf
front_last e [] js h = absurd h
front_last e (Row n f facts ∷ is) js h = absurd h
front_last e (Mark f w more ∷ is) js h = h

owner_last : (o : Option Context) (is js : List Waiting) → OwnerCovered o is → OwnerCovered o (is ++ js)
unfolding OwnerCovered HandlerCovered
owner_last None is js h = tt
owner_last (Some c) is js h = of c.job.handler h
  where
    of : (x : Handler) → HandlerCovered x c.epoch is → HandlerCovered x c.epoch (is ++ js)
    of handler.Row y = tt
    of handler.Timer y = front_last c.epoch is js y

waits_last : (e now : ℕ) (is : List Waiting) (n f : ℕ) (facts : Facts) → e ≤ f → WaitBetween e now is → WaitBetween e now (is ++ Row n f facts ∷ [])
unfolding WaitBetween
waits_last e now [] n f facts a h = (a, tt)
waits_last e now (Row i d x ∷ is) n f facts a h = (h.0, waits_last e now is n f facts a h.1)
waits_last e now (Mark d w more ∷ is) n f facts a h = (h.0, h.1, waits_last e now is n f facts a h.2)

waits_marked : (e now : ℕ) (is : List Waiting) (f : ℕ) (w : ℤ) (more : ℕ) → e ≤ f → f < now → WaitBetween e now is → WaitBetween e now (is ++ Mark f w more ∷ [])
unfolding WaitBetween
waits_marked e now [] f w more a b h = (a, b, tt)
waits_marked e now (Row i d x ∷ is) f w more a b h = (h.0, waits_marked e now is f w more a b h.1)
waits_marked e now (Mark d v m ∷ is) f w more a b h = (h.0, h.1, waits_marked e now is f w more a b h.2)

-- the current epoch rises
waits_on : (e now next : ℕ) (is : List Waiting) → now ≤ next → WaitBetween e now is → WaitBetween e next is
unfolding WaitBetween
waits_on e now next [] a h = tt
waits_on e now next (Row n f facts ∷ is) a h = (h.0, waits_on e now next is a h.1)
waits_on e now next (Mark f w more ∷ is) a h = (h.0, (let b : f < now = h.1 in omega arith), waits_on e now next is a h.2)

-- an epoch is finished
owned_on : (e : ℕ) (o : Option Context) → OwnedLater e o → OwnedFrom (suc e) o
unfolding OwnedFrom
owned_on e None h = tt
owned_on e (Some c) h = h

waits_later : (e d now : ℕ) (is : List Waiting) → WaitLater e is → WaitBetween d now is → WaitBetween (suc e) now is
unfolding WaitBetween
waits_later e d now [] h b = tt
waits_later e d now (Row n f facts ∷ is) h b = (h.0, waits_later e d now is h.1 b.1)
waits_later e d now (Mark f w more ∷ is) h b = (h.0, b.1, waits_later e d now is h.1 b.2)

module _ (e now : ℕ) where
  timely_on : (next : ℕ) (q : Part) → now ≤ next → IsTimely e now q → IsTimely e next q
  timely_on next q a h = record { owned = h.owned; waits = waits_on e now next q.waiting a h.waits; covered = h.covered }

  handed_timely : (is : List Waiting) (s : Said) → WaitBetween e now is → IsTimely e now (handed is s)
  unfolding WaitBetween OwnedFrom OwnerCovered HandlerCovered
  handed_timely [] s h = record { owned = tt; waits = tt; covered = tt }
  handed_timely (Row n f facts ∷ is) s h = record { owned = h.0; waits = h.1; covered = tt }
  handed_timely (Mark f w more ∷ is) s h = of (may_fire w more s.state.times) (handed_timely is s h.2)
    where
      of : (b : Bool) → IsTimely e now (handed is s) → IsTimely e now (cond b (part_of None (Mark f w more ∷ is) s) (handed is s))
      of true x = record { owned = tt; waits = h; covered = tt }
      of false x = x

  back_timely : (c : Context) (r : Running) (part : Part) (s : Said) → part.owner ≡ Some c → IsTimely e now part → IsTimely e now (called_back c r part.waiting s)
  unfolding OwnedFrom OwnerCovered
  back_timely c r part s x h = of (is_done r.control) (subst (OwnedFrom e) x h.owned) (subst (λ (o : Option Context). OwnerCovered o part.waiting) x h.covered)
    where
      of : (b : Bool) → OwnedFrom e (Some c) → OwnerCovered (Some c) part.waiting → IsTimely e now (cond b (handed part.waiting (closed_with (running_group c.job r) s)) (part_of (Some (staged c (Begun r))) part.waiting s))
      of true a b = handed_timely part.waiting (closed_with (running_group c.job r) s) h.waits
      of false a b = record { owned = a; waits = h.waits; covered = b }

-- the markers that aren't sent are those of the epochs up to the current one
unfoldable pub FollowFrom : ℕ → List Closed → ℕ → Type 0
FollowFrom e [] now = e ≡ now
FollowFrom e (c ∷ cs) now = (c.epoch ≡ e) × FollowFrom (suc e) cs now

follow_below : (e : ℕ) (cs : List Closed) (now : ℕ) → FollowFrom e cs now → e ≤ now
unfolding FollowFrom
follow_below e [] now h = omega (arith, h)
follow_below e (c ∷ cs) now h = omega (arith, follow_below (suc e) cs now h.1)

follow_last : (e : ℕ) (cs : List Closed) (now : ℕ) (c : Closing) → FollowFrom e cs now → FollowFrom e (cs ++ record { epoch = now; closing = c } ∷ []) (suc now)
unfolding FollowFrom
follow_last e [] now c h = (sym h, ap (λ (n : ℕ). suc n) h)
follow_last e (d ∷ cs) now c h = (h.0, follow_last (suc e) cs now c h.1)

pub record IsPunctual (m : Machine) : Type 0 where
  -- the oldest epoch whose marker isn't sent
  pub oldest : ℕ
  pub follow : FollowFrom oldest m.unsent m.epoch
  pub parts : (k : Key) → IsTimely oldest m.epoch (m.parts k)

module _ (r : Rules) (m : Machine) (o : IsOrderly r m) (a : IsPunctual m) (g : ℕ) (p : Program) where
  one_key : (k : Key) (q : Part) → IsTimely a.oldest m.epoch q → (j : Key) → IsTimely a.oldest m.epoch (part_at m.parts k q j)
  one_key k q h = on_part (λ (j : Key) (x : Part). IsTimely a.oldest m.epoch x) m.parts k q h a.parts

  now : a.oldest ≤ m.epoch
  now = follow_below a.oldest m.unsent m.epoch a.follow

  started : (k : Key) → Allowed r (Start k) m → IsTimely a.oldest m.epoch (start p (m.parts k))
  started k h = start_case (λ (q : Part) (e : Effects). IsTimely a.oldest m.epoch q) p (m.parts k)
      (λ c x y. back_timely a.oldest m.epoch c (left_by (begins p c.job) unanswered [] 0) (m.parts k) _ x (a.parts k)) h.1

  delivered : (k : Key) (slot : ℕ) → Allowed r (Deliver k slot) m → IsTimely a.oldest m.epoch (deliver slot (m.parts k))
  delivered k slot h = deliver_case (λ (q : Part) (e : Effects). IsTimely a.oldest m.epoch q) slot (m.parts k)
      (λ c x v y z w. back_timely a.oldest m.epoch c (left_by (gives c.job x slot v) (upd x.answers slot None) x.lines x.served) (m.parts k) _ y (a.parts k)) h.1

  served : (k : Key) (slot : ℕ) → Allowed r (Serve k slot) m → IsTimely a.oldest m.epoch (serve slot (m.parts k))
  unfolding OwnedFrom OwnerCovered
  served k slot h = serve_case (λ (q : Part). IsTimely a.oldest m.epoch q) slot (m.parts k)
      (λ c x q y z w. record {
        owned = (let b : OwnedFrom a.oldest (Some c) = subst (OwnedFrom a.oldest) y (a.parts k).owned in b);
        waits = (a.parts k).waits;
        covered = (let b : OwnerCovered (Some c) (m.parts k).waiting = subst (λ (i : Option Context). OwnerCovered i (m.parts k).waiting) y (a.parts k).covered in b);
      }) h.1

  fired : (k : Key) (n : ℕ) → Allowed r (Fire n k) m → IsTimely a.oldest m.epoch (fire n (m.parts k))
  unfolding OwnedFrom WaitBetween OwnerCovered HandlerCovered FrontIsOf
  fired k n h = fire_case (λ (q : Part). IsTimely a.oldest m.epoch q) n (m.parts k)
      (λ e w more is t x y. let b : WaitBetween a.oldest m.epoch (Mark e w (suc more) ∷ is) = subst (WaitBetween a.oldest m.epoch) y (a.parts k).waits in
      record { owned = b.0; waits = b; covered = refl }) m.must k h.1 (o.sound.ordered k)

  admitted : (k : Key) (n : ℕ) (f : Facts) → IsTimely a.oldest m.epoch (admit n m.epoch f (m.parts k))
  unfolding OwnedFrom WaitBetween OwnerCovered HandlerCovered
  admitted k n f = admit_case (λ (q : Part). IsTimely a.oldest m.epoch q) n m.epoch f (m.parts k).owner (m.parts k).waiting (m.parts k).said
      (λ x y. record { owned = now; waits = tt; covered = tt })
      (record {
        owned = (a.parts k).owned;
        waits = waits_last a.oldest m.epoch (m.parts k).waiting n m.epoch f now (a.parts k).waits;
        covered = owner_last (m.parts k).owner (m.parts k).waiting (Row n m.epoch f ∷ []) (a.parts k).covered;
      })

  marked : (k : Key) (w : ℤ) (more : ℕ) → IsTimely a.oldest (suc m.epoch) (mark m.epoch w more (m.parts k))
  marked k w more = mark_case (λ (q : Part). IsTimely a.oldest (suc m.epoch) q) m.epoch w more (m.parts k).owner (m.parts k).waiting (m.parts k).said
      (record {
        owned = (a.parts k).owned;
        waits = waits_marked a.oldest (suc m.epoch) (m.parts k).waiting m.epoch w more now (omega arith) (timely_on a.oldest m.epoch (suc m.epoch) (m.parts k) (omega arith) (a.parts k)).waits;
        covered = owner_last (m.parts k).owner (m.parts k).waiting (Mark m.epoch w more ∷ []) (a.parts k).covered;
      })
      (timely_on a.oldest m.epoch (suc m.epoch) (m.parts k) (omega arith) (a.parts k))

  sent : (cs : List Closed) → m.unsent ≡ cs → FirstIsFinished cs m → IsPunctual (send_first g p cs m)
  unfolding FollowFrom
  sent [] e h = absurd h
  sent (c ∷ cs) e h =
      let f : FollowFrom a.oldest (c ∷ cs) m.epoch = subst (λ (x : List Closed). FollowFrom a.oldest x m.epoch) e a.follow in
      let done : IsFinished a.oldest m = subst (λ (x : ℕ). IsFinished x m) f.0 h in
      record {
        oldest = suc a.oldest;
        follow = f.1;
        parts = λ k. record {
          owned = owned_on a.oldest (m.parts k).owner (done k).0;
          waits = waits_later a.oldest a.oldest m.epoch (m.parts k).waiting (done k).1 (a.parts k).waits;
          covered = (a.parts k).covered;
        };
      }

  pub event_punctual : (e : Happening) → Allowed r e m → IsPunctual (happens g p e m)
  event_punctual (Admit n k time values) h = record { oldest = a.oldest; follow = a.follow; parts = one_key k (admit n m.epoch (row_facts m.wm time values) (m.parts k)) (admitted k n (row_facts m.wm time values)) }
  event_punctual (Close (ByWatermark w)) h = record { oldest = a.oldest; follow = follow_last a.oldest m.unsent m.epoch (ByWatermark w) a.follow; parts = λ k. marked k w most_firings }
  event_punctual (Close (ByBarrier id)) h = record { oldest = a.oldest; follow = follow_last a.oldest m.unsent m.epoch (ByBarrier id) a.follow; parts = λ k. timely_on a.oldest m.epoch (suc m.epoch) (m.parts k) (omega arith) (a.parts k) }
  event_punctual (Fire n k) h = record { oldest = a.oldest; follow = a.follow; parts = one_key k (fire n (m.parts k)) (fired k n h) }
  event_punctual (Start k) h = record { oldest = a.oldest; follow = a.follow; parts = one_key k (start p (m.parts k)) (started k h) }
  event_punctual (Serve k slot) h = record { oldest = a.oldest; follow = a.follow; parts = one_key k (serve slot (m.parts k)) (served k slot h) }
  event_punctual (Deliver k slot) h = record { oldest = a.oldest; follow = a.follow; parts = one_key k (deliver slot (m.parts k)) (delivered k slot h) }
  event_punctual Send h = sent m.unsent refl h.1

  -- where every marker is sent no mark is left
  no_marks : (is : List Waiting) → m.unsent ≡ [] → WaitBetween a.oldest m.epoch is → rows_in is ≡ 0 → is ≡ []
  unfolding FollowFrom WaitBetween
  no_marks [] e h z = refl
  no_marks (Row n f facts ∷ is) e h z = absurd (omega (arith, z))
  no_marks (Mark f w more ∷ is) e h z =
      let x : a.oldest ≡ m.epoch = subst (λ (cs : List Closed). FollowFrom a.oldest cs m.epoch) e a.follow in
      let y : a.oldest ≤ f = h.0 in let v : f < m.epoch = h.1 in absurd (omega arith)

  pub none_wait : m.unsent ≡ [] → (k : Key) → rows_in (m.parts k).waiting ≡ 0 → (m.parts k).waiting ≡ []
  none_wait e k z = no_marks (m.parts k).waiting e (a.parts k).waits z

start_punctual : (from : Origin) → IsPunctual (machine_from from)
unfolding OwnedFrom WaitBetween OwnerCovered FollowFrom
start_punctual from = record { oldest = 0; follow = refl; parts = λ k. record { owned = tt; waits = tt; covered = tt } }

module _ (g : ℕ) (p : Program) (Good : Running → Type 0) (H : Handles p Good) (from : Origin) (fits : IsOrigin p from) where
  run_punctual : (r : Rules) (es : List Happening) (m : Machine) (done : List Event) → Alone g p Good H from fits m done → IsOrderly r m → IsPunctual m → IsRun r g p es m → IsPunctual (after_all g p es m)
  run_punctual r [] m done a o x h = x
  run_punctual r (e ∷ es) m done a o x h =
      run_punctual r es (happens g p e m) (done ++ taken (e ∷ [])) (event_alone g p Good H from fits r e m done a h.0) (event_orderly r m o (keys_rise g p Good H from fits m done a) g p e h.0) (event_punctual r m o x g p e h.0) h.1

  pub always_punctual : (r : Rules) (es : List Happening) → IsRun r g p es (machine_from from) → IsPunctual (machine_of g p from es)
  always_punctual r es h = run_punctual r es (machine_from from) [] (start_alone g p Good H from fits) (start_orderly r p from fits) (start_punctual from) h
