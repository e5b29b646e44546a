-- What an allowed event of one key leaves of its control, case by case.
use Rattle.std.proofs.Common.{◌≡◌, ℕ, zero, suc, ℤ, int_le, List, [], ◌∷◌, ◌++◌, Bool, true, false, cond, Option, Some, None, refl}
use Rattle.ax_text.specs.declared.vocabulary.Answer.{Answer}
use Rattle.ax_text.specs.Functions.{upd}
use Rattle.ax_text.specs.Exprs.{Facts}
use Rattle.ax_text.specs.Run.{times_after}
use Rattle.ax_text.specs.Programs.{Program}
use Rattle.ax_text.specs.Jobs.{firing_job}
use Rattle.ax_text.specs.Silent.{unanswered}
use Rattle.ax_execution.specs.Contexts.{Running, Stage, Unbegun, Begun, Context, new_context, row_context, Waiting, Row, Mark, is_due, is_idle_with}
use Rattle.ax_execution.specs.Turns.{begins, gives, Effects, effects_of, stage_starts, owner_starts, answer_gives, stage_gives, owner_gives}
use Rattle.ax_execution.specs.KeyControls.{KeyControl}
use Rattle.ax_execution.specs.ControlTurns.{is_idle_on, called_back_on, start_stage_on, start_owner_on, start_on, give_answer_on, deliver_stage_on, deliver_owner_on, deliver_on, fire_due_on, fire_front_on, fire_on, admit_at_on, admit_on, mark_at_on, mark_on}
use Rattle.ax_execution.specs.Allowed.{StageUnbegun, StageHas, OfOwner}
use Rattle.ax_execution.specs.ControlOrder.{FrontMayFire}
use Rattle.ax_execution.proofs.Stuck.{none_some}
use Rattle.ax_execution.proofs.SingleKeys.{keyed}

true_false : false ≡ true → ⊥
true_false e = cc e

-- the owner begins
module _ (P : KeyControl → Effects → Type 0) (p : Program) (q : KeyControl)
    (begun : (c : Context) → q.owner ≡ Some c → c.stage ≡ Unbegun
    → P (called_back_on c (begins p c.job) unanswered q.waiting (times_after (begins p c.job).talk.ops q.times)) (effects_of (begins p c.job))) where
  start_at : (c : Context) (st : Stage) → q.owner ≡ Some c → c.stage ≡ st → StageUnbegun st → P (start_stage_on p c st q) (stage_starts p c.job st)
  start_at c Unbegun e x h = begun c e x
  start_at c (Begun r) e x h = absurd h

  start_of : (o : Option Context) → q.owner ≡ o → OfOwner StageUnbegun o → P (start_owner_on p o q) (owner_starts p o)
  start_of None e h = absurd h
  start_of (Some c) e h = start_at c c.stage e refl h

  pub start_case : OfOwner StageUnbegun q.owner → P (start_on p q) (owner_starts p q.owner)
  start_case h = start_of q.owner refl h

-- an answer is handed over
module _ (P : KeyControl → Effects → Type 0) (slot : ℕ) (q : KeyControl)
    (given : (c : Context) (r : Running) (a : Answer) → q.owner ≡ Some c → c.stage ≡ Begun r → r.answers slot ≡ Some a
    → P (called_back_on c (gives c.job r slot a) (upd r.answers slot None) q.waiting (times_after (gives c.job r slot a).talk.ops q.times)) (effects_of (gives c.job r slot a))) where
  give_at : (c : Context) (r : Running) (o : Option Answer) → q.owner ≡ Some c → c.stage ≡ Begun r → r.answers slot ≡ o → (a : Answer) × (o ≡ Some a)
      → P (give_answer_on c r slot o q) (answer_gives c.job r slot o)
  give_at c r None e x y h = absurd (none_some h.1)
  give_at c r (Some a) e x y h = given c r a e x y

  deliver_at : (c : Context) (st : Stage) → q.owner ≡ Some c → c.stage ≡ st → StageHas slot st → P (deliver_stage_on c slot st q) (stage_gives slot c.job st)
  deliver_at c Unbegun e x h = absurd h
  deliver_at c (Begun r) e x h = give_at c r (r.answers slot) e x refl h

  deliver_of : (o : Option Context) → q.owner ≡ o → OfOwner (StageHas slot) o → P (deliver_owner_on slot o q) (owner_gives slot o)
  deliver_of None e h = absurd h
  deliver_of (Some c) e h = deliver_at c c.stage e refl h

  pub deliver_case : OfOwner (StageHas slot) q.owner → P (deliver_on slot q) (owner_gives slot q.owner)
  deliver_case h = deliver_of q.owner refl h

-- the mark in front of an idle key fires
module _ (P : KeyControl → Type 0) (n : ℕ) (q : KeyControl)
    (fired : (e : ℕ) (w : ℤ) (more : ℕ) (is : List Waiting) (t : ℤ) (ts : List ℤ) → q.owner ≡ None → q.waiting ≡ Mark e w (suc more) ∷ is → q.times ≡ t ∷ ts
    → P (keyed (Some (new_context n e (firing_job w t))) (Mark e w more ∷ is) ts)) where
  due_at : (e : ℕ) (w : ℤ) (more : ℕ) (is : List Waiting) (times : List ℤ) → q.owner ≡ None → q.waiting ≡ Mark e w (suc more) ∷ is → q.times ≡ times → is_due w times ≡ true → P (fire_due_on n e w more is times q)
  due_at e w more is [] a b d h = absurd (true_false h)
  due_at e w more is (t ∷ ts) a b d h = of (int_le t w) h
    where
      of : (x : Bool) → x ≡ true → P (cond x (keyed (Some (new_context n e (firing_job w t))) (Mark e w more ∷ is) ts) q)
      of true y = fired e w more is t ts a b d
      of false y = absurd (true_false y)

  fire_at : (o : Option Context) (is : List Waiting) → q.owner ≡ o → q.waiting ≡ is → is_idle_with o is ≡ true → FrontMayFire is q.times → P (fire_front_on n o is q)
  fire_at None [] a b i f = absurd (true_false i)
  fire_at None (Row j e facts ∷ is) a b i f = absurd f
  fire_at None (Mark e w zero ∷ is) a b i f = absurd (true_false f)
  fire_at None (Mark e w (suc more) ∷ is) a b i f = due_at e w more is q.times a b refl f
  fire_at (Some c) is a b i f = absurd (true_false i)

  pub fire_case : is_idle_on q ≡ true → FrontMayFire q.waiting q.times → P (fire_on n q)
  fire_case i h = fire_at q.owner q.waiting refl refl i h

-- a row comes, and a mark comes
module _ (P : KeyControl → Type 0) where
  admit_at : (n e : ℕ) (f : Facts) (o : Option Context) (is : List Waiting) (times : List ℤ) → (o ≡ None → is ≡ [] → P (keyed (Some (row_context n e f)) [] times))
      → ((o ≡ None → is ≡ [] → ⊥) → P (keyed o (is ++ Row n e f ∷ []) times)) → P (admit_at_on n e f o is times)
  admit_at n e f None [] times owns waits = owns refl refl
  admit_at n e f None (i ∷ is) times owns waits = waits (λ a b. absurd (cc b))
  admit_at n e f (Some c) is times owns waits = waits (λ a b. absurd (cc a))

  pub admit_case : (n e : ℕ) (f : Facts) (q : KeyControl) → (q.owner ≡ None → q.waiting ≡ [] → P (keyed (Some (row_context n e f)) [] q.times))
      → ((q.owner ≡ None → q.waiting ≡ [] → ⊥) → P (keyed q.owner (q.waiting ++ Row n e f ∷ []) q.times)) → P (admit_on n e f q)
  admit_case n e f q owns waits = admit_at n e f q.owner q.waiting q.times owns waits

  mark_at : (e : ℕ) (w : ℤ) (more : ℕ) (o : Option Context) (is : List Waiting) (times : List ℤ) → ((o ≡ None → is ≡ [] → is_due w times ≡ true) → P (keyed o (is ++ Mark e w more ∷ []) times))
      → P (keyed o is times) → P (mark_at_on e w more o is times)
  mark_at e w more None [] times waits same = of (is_due w times) refl
    where
      of : (b : Bool) → is_due w times ≡ b → P (cond b (keyed None (Mark e w more ∷ []) times) (keyed None [] times))
      of true h = waits (λ a c. h)
      of false h = same
  mark_at e w more None (i ∷ is) times waits same = waits (λ a b. absurd (cc b))
  mark_at e w more (Some c) is times waits same = waits (λ a b. absurd (cc a))

  pub mark_case : (e : ℕ) (w : ℤ) (more : ℕ) (q : KeyControl) → ((q.owner ≡ None → q.waiting ≡ [] → is_due w q.times ≡ true) → P (keyed q.owner (q.waiting ++ Mark e w more ∷ []) q.times))
      → P (keyed q.owner q.waiting q.times) → P (mark_on e w more q)
  mark_case e w more q waits same = mark_at e w more q.owner q.waiting q.times waits same
