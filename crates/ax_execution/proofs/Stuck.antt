-- The machine is never stuck.
use Rattle.std.proofs.Common.{◌≡◌, ℕ, ◌+◌, ◌<◌, ℤ, List, [], ◌∷◌, Bool, true, false, cond, Option, Some, None, refl, sym, ap, ap₂, ◌∙◌, arith, subst, ◌⊎◌, inl, inr}
use Rattle.std.specs.Str.{bytes_eq}
use Rattle.std.specs.List.{list_any}
use Rattle.ax_text.specs.declared.vocabulary.Request.{Request}
use Rattle.ax_text.specs.declared.vocabulary.Answer.{Answer}
use Rattle.ax_machine.specs.Entries.{Key}
use Rattle.ax_execution.specs.Sums.{total}
use Rattle.ax_text.specs.Controls.{is_done, request_at}
use Rattle.ax_machine.specs.KeySync.{Said}
use Rattle.ax_execution.specs.Contexts.{Running, running_group, Stage, Unbegun, Begun, Context, Waiting, Row, Mark, Part, contexts_in, owners, rows_in, may_fire, is_idle_with, is_idle}
use Rattle.ax_execution.specs.Turns.{handed, called_back, closed_with, staged}
use Rattle.ax_execution.specs.Machine.{Machine, Closed, Happening, Fire, Start, Serve, Deliver, Send, Rules, must_fire, in_flight, IsAtRest, IsWork}
use Rattle.ax_execution.specs.Allowed.{IsNew, OwnedLater, WaitLater, FirstIsFinished, StageUnbegun, StageAsks, StageHas, OfOwner, MayFireNow, Allowed}
use Rattle.ax_execution.proofs.Upto.{StageGood, OwnerGood}

pub by_cases : {A : Type 0} (b : Bool) → (b ≡ true → A) → (b ≡ false → A) → A
by_cases true p q = p refl
by_cases false p q = q refl

-- a mark in front of a key without owner may fire
unfoldable pub FrontFires : List Waiting → List ℤ → Type 0
FrontFires [] times = Unit {0}
FrontFires (Row n e f ∷ is) times = ⊥
FrontFires (Mark e w more ∷ is) times = may_fire w more times ≡ true

-- what a key waits for where nobody owns it, and whether its rows may have to wait for a firing
unfoldable pub IsOrdered : Option Key → Key → Option Context → List Waiting → List ℤ → Type 0
IsOrdered must k None is times = FrontFires is times × ((rows_in is ≡ 0) ⊎ (must ≡ Some k))
IsOrdered must k (Some c) is times = Unit {0}

unfoldable pub StageWakes : Stage → Type 0
StageWakes Unbegun = Unit {0}
StageWakes (Begun r) = is_done r.control ≡ false

unfoldable pub IsAwake : Option Context → Type 0
IsAwake None = Unit {0}
IsAwake (Some c) = StageWakes c.stage

pub record IsSound (r : Rules) (m : Machine) : Type 0 where
  pub awake : (k : Key) → IsAwake (m.parts k).owner
  pub ordered : (k : Key) → IsOrdered m.must k (m.parts k).owner (m.parts k).waiting (m.parts k).said.state.times
  pub room : (k : Key) → m.must ≡ Some k → (is_idle (m.parts k) ≡ true) × (in_flight m < r.limit)

-- a key that was handed over is in order, where it must fire if it is idle
pub handed_ordered : (k : Key) (is : List Waiting) (s : Said)
    → IsOrdered (must_fire k (handed is s)) k (handed is s).owner (handed is s).waiting (handed is s).said.state.times
unfolding IsOrdered FrontFires
handed_ordered k [] s = (tt, inl refl)
handed_ordered k (Row n e f ∷ is) s = tt
handed_ordered k (Mark e w more ∷ is) s = of (handed_ordered k is s) (may_fire w more s.state.times) refl
  where
    Is : Part → Type 0
    Is q = IsOrdered (must_fire k q) k q.owner q.waiting q.said.state.times

    of : Is (handed is s) → (b : Bool) → may_fire w more s.state.times ≡ b → Is (cond b (record { owner = None; waiting = Mark e w more ∷ is; said = s }) (handed is s))
    of ih true h = (h, inr refl)
    of ih false h = ih

-- behind a callback
pub called_back_ordered : (k : Key) (c : Context) (r : Running) (is : List Waiting) (s : Said)
    → IsOrdered (must_fire k (called_back c r is s)) k (called_back c r is s).owner (called_back c r is s).waiting (called_back c r is s).said.state.times
unfolding IsOrdered
called_back_ordered k c r is s = of (is_done r.control)
  where
    Is : Part → Type 0
    Is q = IsOrdered (must_fire k q) k q.owner q.waiting q.said.state.times

    of : (b : Bool) → Is (cond b (handed is (closed_with (running_group c.job r) s)) (record { owner = Some (staged c (Begun r)); waiting = is; said = s }))
    of true = handed_ordered k is _
    of false = tt

-- a sum changes by the share of one key alone
unfoldable pub IsOnce : Key → List Key → Type 0
IsOnce k [] = ⊥
IsOnce k (j ∷ ks) = ((j ≡ k) × (list_any (bytes_eq k) ks ≡ false)) ⊎ ((bytes_eq k j ≡ false) × IsOnce k ks)

pub others_stay : (k : Key) (f g : Key → ℕ) (ks : List Key) → ((j : Key) → bytes_eq k j ≡ false → g j ≡ f j) → list_any (bytes_eq k) ks ≡ false → total ks g ≡ total ks f
others_stay k f g [] h n = refl
others_stay k f g (j ∷ ks) h n = by_cases (bytes_eq k j)
    (λ x. absurd (true_false (sym (rw x at n))))
    (λ x. ap₂ (λ (a b : ℕ). a + b) (h j x) (others_stay k f g ks h (rw x at n)))
  where
    true_false : false ≡ true → ⊥
    true_false e = cc e

pub total_changes : (k : Key) (f g : Key → ℕ) (ks : List Key) → ((j : Key) → bytes_eq k j ≡ false → g j ≡ f j) → IsOnce k ks → total ks g + f k ≡ total ks f + g k
unfolding IsOnce
total_changes k f g [] h o = absurd o
total_changes k f g (j ∷ ks) h (inl o) =
    let a : f j ≡ f k = ap f o.0 in let b : g j ≡ g k = ap g o.0 in let c : total ks g ≡ total ks f = others_stay k f g ks h o.1 in omega arith
total_changes k f g (j ∷ ks) h (inr o) =
    let a : g j ≡ f j = h j o.0 in let c : total ks g + f k ≡ total ks f + g k = total_changes k f g ks h o.1 in omega arith

pub zeros : (f : Key → ℕ) (ks : List Key) → ((k : Key) → f k ≡ 0) → total ks f ≡ 0
zeros f [] h = refl
zeros f (k ∷ ks) h = let a : f k ≡ 0 = h k in let b : total ks f ≡ 0 = zeros f ks h in omega arith

pub none_some : {A : Type 0} {x : A} → None ≡ Some x → ⊥
none_some h = cc h

module _ (r : Rules) (m : Machine) (sound : IsSound r m) (some_room : 0 < r.limit) (number : ℕ) (new : IsNew number m)
    (Good : Running → Type 0) (good : (k : Key) → OwnerGood Good (m.parts k).owner)
    (waits : (c : Running) → Good c → is_done c.control ≡ false → (slot : ℕ) × (q : Request) × (request_at c.control slot ≡ Some q))
    (none : (e : Happening) → IsWork e → Allowed r e m → ⊥) where
  -- nothing has to fire
  no_must : (o : Option Key) → m.must ≡ o → m.must ≡ None
  no_must None e = e
  no_must (Some k) e = absurd (none (Fire number k) tt (subst (MayFireNow k) (sym e) refl, (sound.room k e).0, (sound.room k e).1, new))

  must_none : m.must ≡ None
  must_none = no_must m.must refl

  stage_moves : (k : Key) (c : Context) (st : Stage) → (m.parts k).owner ≡ Some c → c.stage ≡ st → ⊥
  unfolding IsAwake StageWakes OwnerGood StageGood
  stage_moves k c Unbegun o e = none (Start k) tt (must_none, subst (OfOwner StageUnbegun) (sym o) (subst StageUnbegun (sym e) tt))
  stage_moves k c (Begun x) o e = moves (waits x well awake)
    where
      well : Good x
      well = let w : OwnerGood Good (Some c) = subst (OwnerGood Good) o (good k) in subst (StageGood Good) e w

      awake : is_done x.control ≡ false
      awake = let w : IsAwake (Some c) = subst IsAwake o (sound.awake k) in subst StageWakes e w

      answered : (slot : ℕ) (q : Request) → request_at x.control slot ≡ Some q → (a : Option Answer) → x.answers slot ≡ a → ⊥
      answered slot q h None n = none (Serve k slot) tt (must_none, subst (OfOwner (StageAsks slot)) (sym o) (subst (StageAsks slot) (sym e) ((q, h), n)))
      answered slot q h (Some a) n = none (Deliver k slot) tt (must_none, subst (OfOwner (StageHas slot)) (sym o) (subst (StageHas slot) (sym e) (a, n)))

      moves : ((slot : ℕ) × (q : Request) × (request_at x.control slot ≡ Some q)) → ⊥
      moves w = answered w.0 w.1 w.2 (x.answers w.0) refl

  no_owner : (k : Key) (o : Option Context) → (m.parts k).owner ≡ o → (m.parts k).owner ≡ None
  no_owner k None e = e
  no_owner k (Some c) e = absurd (stage_moves k c c.stage e refl)

  owners_none : (k : Key) → (m.parts k).owner ≡ None
  owners_none k = no_owner k (m.parts k).owner refl

  ordered_none : (k : Key) → IsOrdered m.must k None (m.parts k).waiting (m.parts k).said.state.times
  ordered_none k = subst (λ (o : Option Context). IsOrdered m.must k o (m.parts k).waiting (m.parts k).said.state.times) (owners_none k) (sound.ordered k)

  no_rows : (k : Key) → rows_in (m.parts k).waiting ≡ 0
  unfolding IsOrdered
  no_rows k = of (ordered_none k).1
    where
      of : (rows_in (m.parts k).waiting ≡ 0) ⊎ (m.must ≡ Some k) → rows_in (m.parts k).waiting ≡ 0
      of (inl h) = h
      of (inr h) = absurd (none_some (sym must_none ∙ h))

  no_contexts : in_flight m ≡ 0
  no_contexts = zeros (λ k. contexts_in (m.parts k)) m.keys (λ k.
      let a : owners (m.parts k).owner ≡ 0 = ap owners (owners_none k) in let b : rows_in (m.parts k).waiting ≡ 0 = no_rows k in omega arith)

  waiting_none : (k : Key) (is : List Waiting) → (m.parts k).waiting ≡ is → (m.parts k).waiting ≡ []
  waiting_none k [] e = e
  waiting_none k (Row i f facts ∷ is) e = let a : rows_in (m.parts k).waiting ≡ 1 + rows_in is = ap rows_in e in let b : rows_in (m.parts k).waiting ≡ 0 = no_rows k in absurd (omega arith)
  waiting_none k (Mark f w more ∷ is) e = absurd (none (Fire number k) tt (subst (MayFireNow k) (sym must_none) tt, idle, room, new))
    where
      idle : is_idle (m.parts k) ≡ true
      idle = ap₂ is_idle_with (owners_none k) e

      room : in_flight m < r.limit
      room = let z : in_flight m ≡ 0 = no_contexts in omega arith

  nothing_waits : (k : Key) → (m.parts k).waiting ≡ []
  nothing_waits k = waiting_none k (m.parts k).waiting refl

  unsent_none : (cs : List Closed) → m.unsent ≡ cs → m.unsent ≡ []
  unsent_none [] e = e
  unsent_none (c ∷ cs) e = absurd (none Send tt (
    must_none,
    subst (λ (x : List Closed). FirstIsFinished x m) (sym e)
        (λ k. (subst (OwnedLater c.epoch) (sym (owners_none k)) tt, subst (WaitLater c.epoch) (sym (nothing_waits k)) tt)),
  ))

  -- where none of these events is allowed, nothing is left
  pub at_rest : IsAtRest m
  at_rest = record { owners = owners_none; waiting = nothing_waits; unsent = unsent_none m.unsent refl }
