-- What holds of each key's epochs and timers wherever is reached, and goes on with each event of the key.
use Rattle.std.proofs.Common.{◌≡◌, ℕ, suc, ◌≤◌, ◌<◌, ℤ, List, [], ◌∷◌, ◌++◌, Bool, true, false, cond, Option, Some, None, refl, sym, ap, arith, subst, not, int_eq}
use Rattle.std.specs.List.Sorted.{IsStrictlySortedBy}
use Rattle.std.specs.Ordering.{int_cmp, match_ordering}
use Rattle.std.specs.BTreeSet.{insert_key}
use Rattle.std.proofs.lemmas.Cmp.{int_cmp_total}
use Rattle.std.proofs.lemmas.List.Kept.{IsStrictlySortedBy-filter}
use Rattle.ax_text.specs.declared.vocabulary.Handler.{Handler}
use Rattle.ax_text.specs.declared.vocabulary.Handler.TheVariants as handler
use Rattle.ax_text.specs.declared.vocabulary.Answer.{Answer}
use Rattle.ax_text.specs.declared.vocabulary.TimerOp.{TimerOp}
use Rattle.ax_text.specs.declared.vocabulary.TimerOp.TheVariants as timer
use Rattle.ax_text.specs.Functions.{upd}
use Rattle.ax_text.specs.Exprs.{Facts}
use Rattle.ax_text.specs.Times.{insert_time}
use Rattle.ax_text.specs.Run.{time_after, times_after}
use Rattle.ax_text.specs.Programs.{Program}
use Rattle.ax_text.specs.Controls.{Turn, Answers, is_done}
use Rattle.ax_text.specs.Jobs.{firing_job}
use Rattle.ax_text.specs.Silent.{unanswered}
use Rattle.ax_machine.proofs.RisingLemmas.{rising_put}
use Rattle.ax_execution.specs.Contexts.{Begun, Context, new_context, Waiting, Row, Mark, may_fire}
use Rattle.ax_execution.specs.Rest.{silent}
use Rattle.ax_execution.specs.Turns.{staged, begins, gives, Effects}
use Rattle.ax_execution.specs.KeyControls.{KeyControl, owner_keeps, keeps_answer}
use Rattle.ax_execution.specs.ControlTurns.{is_idle_on, handed_on, paused, called_back_on, start_on, deliver_on, fire_on, admit_on, mark_on}
use Rattle.ax_execution.specs.Allowed.{StageUnbegun, StageHas, OfOwner, OwnedLater, WaitLater}
use Rattle.ax_execution.specs.ControlOrder.{FrontMayFire}
use Rattle.ax_execution.specs.Reached.{MarkInFront}
use Rattle.ax_execution.proofs.KeyCases.{start_case, deliver_case, fire_case, admit_case, mark_case}
use Rattle.ax_execution.proofs.SingleKeys.{keyed}

-- the owner is of an open epoch, and so is what waits; marks are of closed ones

unfoldable pub OwnerBetween : ℕ → ℕ → Option Context → Type 0
OwnerBetween e now None = Unit {0}
OwnerBetween e now (Some c) = (e ≤ c.epoch) × (c.epoch ≤ now)

unfoldable pub WaitingBetween : ℕ → ℕ → List Waiting → Type 0
WaitingBetween e now [] = Unit {0}
WaitingBetween e now (Row n f facts ∷ is) = (e ≤ f) × (f ≤ now) × WaitingBetween e now is
WaitingBetween e now (Mark f w more ∷ is) = (e ≤ f) × (f < now) × WaitingBetween e now is

-- the mark of a firing stays in front

unfoldable pub HandlerInFront : Handler → ℕ → List Waiting → Type 0
HandlerInFront handler.Row e is = Unit {0}
HandlerInFront handler.Timer e is = MarkInFront e is

unfoldable pub OwnerInFront : Option Context → List Waiting → Type 0
OwnerInFront None is = Unit {0}
OwnerInFront (Some c) is = HandlerInFront c.job.handler c.epoch is

pub record KeyTimely (oldest now : ℕ) (q : KeyControl) : Type 0 where
  pub owned : OwnerBetween oldest now q.owner
  pub waits : WaitingBetween oldest now q.waiting
  pub front : OwnerInFront q.owner q.waiting
  pub times : IsStrictlySortedBy int_cmp q.times

-- times rise

inserted_time : (t : ℤ) (xs : List ℤ) → insert_time t xs ≡ insert_key int_cmp xs t
inserted_time t [] = refl
inserted_time t (x ∷ xs) = ap (λ (ys : List ℤ). match_ordering (int_cmp t x) (t ∷ x ∷ xs) (x ∷ xs) (x ∷ ys)) (inserted_time t xs)

one_rises : (o : TimerOp) (xs : List ℤ) → IsStrictlySortedBy int_cmp xs → IsStrictlySortedBy int_cmp (time_after o xs)
one_rises (timer.Set t) xs s = subst (λ (ys : List ℤ). IsStrictlySortedBy int_cmp ys) (sym (inserted_time t xs)) (rising_put int_cmp_total t xs s)
one_rises (timer.Unset t) xs s = IsStrictlySortedBy-filter int_cmp (λ x. not (int_eq t x)) xs s

times_rise : (os : List TimerOp) (xs : List ℤ) → IsStrictlySortedBy int_cmp xs → IsStrictlySortedBy int_cmp (times_after os xs)
times_rise [] xs s = s
times_rise (o ∷ os) xs s = times_rise os (time_after o xs) (one_rises o xs s)

rest_rises : (t : ℤ) (ts times : List ℤ) → times ≡ t ∷ ts → IsStrictlySortedBy int_cmp times → IsStrictlySortedBy int_cmp ts
unfolding IsStrictlySortedBy
rest_rises t ts times e s = let a : IsStrictlySortedBy int_cmp (t ∷ ts) = subst (λ (xs : List ℤ). IsStrictlySortedBy int_cmp xs) e s in a.1

-- what comes last

waiting_row : (e now : ℕ) (is : List Waiting) (n f : ℕ) (facts : Facts) → e ≤ f → f ≤ now → WaitingBetween e now is → WaitingBetween e now (is ++ Row n f facts ∷ [])
unfolding WaitingBetween
waiting_row e now [] n f facts a b h = (a, b, tt)
waiting_row e now (Row i d x ∷ is) n f facts a b h = (h.0, h.1, waiting_row e now is n f facts a b h.2)
waiting_row e now (Mark d w more ∷ is) n f facts a b h = (h.0, h.1, waiting_row e now is n f facts a b h.2)

waiting_mark : (e now : ℕ) (is : List Waiting) (f : ℕ) (w : ℤ) (more : ℕ) → e ≤ f → f < now → WaitingBetween e now is → WaitingBetween e now (is ++ Mark f w more ∷ [])
unfolding WaitingBetween
waiting_mark e now [] f w more a b h = (a, b, tt)
waiting_mark e now (Row i d x ∷ is) f w more a b h = (h.0, h.1, waiting_mark e now is f w more a b h.2)
waiting_mark e now (Mark d v m ∷ is) f w more a b h = (h.0, h.1, waiting_mark e now is f w more a b h.2)

front_last : (e : ℕ) (is js : List Waiting) → MarkInFront e is → MarkInFront e (is ++ js)
front_last e [] js h = absurd h
front_last e (Row n f facts ∷ is) js h = absurd h
front_last e (Mark f w more ∷ is) js h = h

owner_last : (o : Option Context) (is js : List Waiting) → OwnerInFront o is → OwnerInFront o (is ++ js)
unfolding OwnerInFront HandlerInFront
owner_last None is js h = tt
owner_last (Some c) is js h = of c.job.handler h
  where
    of : (x : Handler) → HandlerInFront x c.epoch is → HandlerInFront x c.epoch (is ++ js)
    of handler.Row y = tt
    of handler.Timer y = front_last c.epoch is js y

-- the current epoch rises
owner_on : (e now next : ℕ) (o : Option Context) → now ≤ next → OwnerBetween e now o → OwnerBetween e next o
unfolding OwnerBetween
owner_on e now next None a h = tt
owner_on e now next (Some c) a h = (h.0, (let b : c.epoch ≤ now = h.1 in omega arith))

waiting_on : (e now next : ℕ) (is : List Waiting) → now ≤ next → WaitingBetween e now is → WaitingBetween e next is
unfolding WaitingBetween
waiting_on e now next [] a h = tt
waiting_on e now next (Row n f facts ∷ is) a h = (h.0, (let b : f ≤ now = h.1 in omega arith), waiting_on e now next is a h.2)
waiting_on e now next (Mark f w more ∷ is) a h = (h.0, (let b : f < now = h.1 in omega arith), waiting_on e now next is a h.2)

pub timely_on : (e now next : ℕ) (q : KeyControl) → now ≤ next → KeyTimely e now q → KeyTimely e next q
timely_on e now next q a h = record { owned = owner_on e now next q.owner a h.owned; waits = waiting_on e now next q.waiting a h.waits; front = h.front; times = h.times }

-- an epoch is finished
owner_later : (e now : ℕ) (o : Option Context) → OwnedLater e o → OwnerBetween e now o → OwnerBetween (suc e) now o
unfolding OwnerBetween
owner_later e now None h b = tt
owner_later e now (Some c) h b = (h, b.1)

waiting_later : (e now : ℕ) (is : List Waiting) → WaitLater e is → WaitingBetween e now is → WaitingBetween (suc e) now is
unfolding WaitingBetween
waiting_later e now [] h b = tt
waiting_later e now (Row n f facts ∷ is) h b = (h.0, b.1, waiting_later e now is h.1 b.2)
waiting_later e now (Mark f w more ∷ is) h b = (h.0, b.1, waiting_later e now is h.1 b.2)

pub timely_later : (e now : ℕ) (q : KeyControl) → OwnedLater e q.owner → WaitLater e q.waiting → KeyTimely e now q → KeyTimely (suc e) now q
timely_later e now q a b h = record { owned = owner_later e now q.owner a h.owned; waits = waiting_later e now q.waiting b h.waits; front = h.front; times = h.times }

-- a key that was handed over
handed_timely : (e now : ℕ) (is : List Waiting) (times : List ℤ) → WaitingBetween e now is → IsStrictlySortedBy int_cmp times → KeyTimely e now (handed_on is times)
unfolding WaitingBetween OwnerBetween OwnerInFront HandlerInFront
handed_timely e now [] times h s = record { owned = tt; waits = tt; front = tt; times = s }
handed_timely e now (Row n f facts ∷ is) times h s = record { owned = (h.0, h.1); waits = h.2; front = tt; times = s }
handed_timely e now (Mark f w more ∷ is) times h s = of (may_fire w more times) (handed_timely e now is times h.2 s)
  where
    of : (b : Bool) → KeyTimely e now (handed_on is times) → KeyTimely e now (cond b (keyed None (Mark f w more ∷ is) times) (handed_on is times))
    of true x = record { owned = tt; waits = h; front = tt; times = s }
    of false x = x

module _ (e now : ℕ) (q : KeyControl) (h : KeyTimely e now q) where
  -- a callback
  back_timely : (c : Context) (t : Turn) (answers : Answers) (times : List ℤ) → q.owner ≡ Some c → IsStrictlySortedBy int_cmp times → KeyTimely e now (called_back_on c t answers q.waiting times)
  unfolding OwnerBetween OwnerInFront
  back_timely c t answers times x s = of (is_done t.control) (subst (OwnerBetween e now) x h.owned) (subst (λ (o : Option Context). OwnerInFront o q.waiting) x h.front)
    where
      of : (b : Bool) → OwnerBetween e now (Some c) → OwnerInFront (Some c) q.waiting → KeyTimely e now (cond b (handed_on q.waiting times) (keyed (Some (staged c (Begun (paused t answers)))) q.waiting times))
      of true a b = handed_timely e now q.waiting times h.waits s
      of false a b = record { owned = a; waits = h.waits; front = b; times = s }

  pub start_timely : (p : Program) → OfOwner StageUnbegun q.owner → KeyTimely e now (start_on p q)
  start_timely p a = start_case (λ (x : KeyControl) (f : Effects). KeyTimely e now x) p q
      (λ c x y. back_timely c (begins p c.job) unanswered (times_after (begins p c.job).talk.ops q.times) x (times_rise (begins p c.job).talk.ops q.times h.times)) a

  pub deliver_timely : (slot : ℕ) → OfOwner (StageHas slot) q.owner → KeyTimely e now (deliver_on slot q)
  deliver_timely slot a = deliver_case (λ (x : KeyControl) (f : Effects). KeyTimely e now x) slot q
      (λ c r v x y z. back_timely c (gives c.job r slot v) (upd r.answers slot None) (times_after (gives c.job r slot v).talk.ops q.times) x (times_rise (gives c.job r slot v).talk.ops q.times h.times)) a

  -- an answer is kept
  pub kept_timely : (slot : ℕ) (a : Option Answer) → KeyTimely e now (keeps_answer slot a q)
  unfolding OwnerBetween OwnerInFront
  kept_timely slot a = of q.owner h.owned h.front
    where
      of : (o : Option Context) → OwnerBetween e now o → OwnerInFront o q.waiting → KeyTimely e now (keyed (silent (owner_keeps slot a o)) q.waiting q.times)
      of None x y = record { owned = tt; waits = h.waits; front = tt; times = h.times }
      of (Some c) x y = record { owned = x; waits = h.waits; front = y; times = h.times }

  -- a timer fires
  pub fire_timely : (n : ℕ) → is_idle_on q ≡ true → FrontMayFire q.waiting q.times → KeyTimely e now (fire_on n q)
  unfolding OwnerBetween WaitingBetween OwnerInFront HandlerInFront
  fire_timely n i due = fire_case (λ (x : KeyControl). KeyTimely e now x) n q
      (λ f w more is t ts a b d. fires f w more is t ts (subst (WaitingBetween e now) b h.waits) (rest_rises t ts q.times d h.times)) i due
    where
      fires : (f : ℕ) (w : ℤ) (more : ℕ) (is : List Waiting) (t : ℤ) (ts : List ℤ) → WaitingBetween e now (Mark f w (suc more) ∷ is) → IsStrictlySortedBy int_cmp ts
          → KeyTimely e now (keyed (Some (new_context n f (firing_job w t))) (Mark f w more ∷ is) ts)
      fires f w more is t ts y s = record { owned = (y.0, (let z : f < now = y.1 in omega arith)); waits = y; front = refl; times = s }

  -- a row comes
  pub admit_timely : (n : ℕ) (f : Facts) → e ≤ now → KeyTimely e now (admit_on n now f q)
  unfolding OwnerBetween WaitingBetween OwnerInFront HandlerInFront
  admit_timely n f since = admit_case (λ (x : KeyControl). KeyTimely e now x) n now f q
      (λ a b. record { owned = (since, omega arith); waits = tt; front = tt; times = h.times })
      (λ a. record {
        owned = h.owned;
        waits = waiting_row e now q.waiting n now f since (omega arith) h.waits;
        front = owner_last q.owner q.waiting (Row n now f ∷ []) h.front;
        times = h.times;
      })

  -- a mark comes
  pub mark_timely : (w : ℤ) (more : ℕ) → e ≤ now → KeyTimely e (suc now) (mark_on now w more q)
  mark_timely w more since = mark_case (λ (x : KeyControl). KeyTimely e (suc now) x) now w more q
      (λ a. record {
        owned = owner_on e now (suc now) q.owner (omega arith) h.owned;
        waits = waiting_mark e (suc now) q.waiting now w more since (omega arith) (waiting_on e now (suc now) q.waiting (omega arith) h.waits);
        front = owner_last q.owner q.waiting (Mark now w more ∷ []) h.front;
        times = h.times;
      })
      (timely_on e now (suc now) q (omega arith) h)
