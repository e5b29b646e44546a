-- What an allowed event of one key leaves, case by case.
use Rattle.std.proofs.Common.{◌≡◌, ℕ, zero, suc, ℤ, int_le, List, [], ◌∷◌, ◌++◌, Bool, true, false, cond, Option, Some, None, refl}
use Rattle.ax_text.specs.declared.vocabulary.Request.{Request}
use Rattle.ax_text.specs.declared.vocabulary.Answer.{Answer}
use Rattle.ax_text.specs.Functions.{upd}
use Rattle.ax_text.specs.Exprs.{Facts}
use Rattle.ax_text.specs.Cells.{answer_of}
use Rattle.ax_text.specs.Programs.{Program}
use Rattle.ax_text.specs.Controls.{request_at}
use Rattle.ax_text.specs.Jobs.{firing_job}
use Rattle.ax_text.specs.Silent.{unanswered}
use Rattle.ax_machine.specs.Entries.{Key}
use Rattle.ax_machine.specs.Sync.{without_least}
use Rattle.ax_machine.specs.KeySync.{Said}
use Rattle.ax_execution.specs.Contexts.{Running, Stage, Unbegun, Begun, Context, new_context, row_context, Waiting, Row, Mark, Part, is_due, is_idle_with, is_idle}
use Rattle.ax_execution.specs.Turns.{timed, left_by, staged, called_back, begins, start_stage, start_owner, start, answered, applied, serve_request, serve_stage, serve_owner, serve, gives, give_answer, deliver_stage, deliver_owner, deliver, Effects, effects_of, stage_starts, owner_starts, start_effects, answer_gives, stage_gives, owner_gives, deliver_effects, fire_due, fire_front, fire, admit_at, mark_at}
use Rattle.ax_execution.specs.Allowed.{StageUnbegun, StageAsks, StageHas, OfOwner}
use Rattle.ax_execution.proofs.Upto.{part_of}
use Rattle.ax_execution.proofs.Stuck.{FrontFires, IsOrdered, none_some}

true_false : false ≡ true → ⊥
true_false e = cc e

-- the owner begins
module _ (P : Part → Effects → Type 0) (p : Program) (part : Part)
    (begun : (c : Context) → part.owner ≡ Some c → c.stage ≡ Unbegun
    → P (called_back c (left_by (begins p c.job) unanswered [] 0) part.waiting (timed (begins p c.job) part.said)) (effects_of (begins p c.job))) where
  start_at : (c : Context) (st : Stage) → part.owner ≡ Some c → c.stage ≡ st → StageUnbegun st → P (start_stage p c st part) (stage_starts p c.job st)
  start_at c Unbegun e x h = begun c e x
  start_at c (Begun r) e x h = absurd h

  start_of : (o : Option Context) → part.owner ≡ o → OfOwner StageUnbegun o → P (start_owner p o part) (owner_starts p o)
  start_of None e h = absurd h
  start_of (Some c) e h = start_at c c.stage e refl h

  pub start_case : OfOwner StageUnbegun part.owner → P (start p part) (start_effects p part)
  start_case h = start_of part.owner refl h

-- an answer is handed over
module _ (P : Part → Effects → Type 0) (slot : ℕ) (part : Part)
    (given : (c : Context) (r : Running) (a : Answer) → part.owner ≡ Some c → c.stage ≡ Begun r → r.answers slot ≡ Some a
    → P (called_back c (left_by (gives c.job r slot a) (upd r.answers slot None) r.lines r.served) part.waiting (timed (gives c.job r slot a) part.said)) (effects_of (gives c.job r slot a))) where
  give_at : (c : Context) (r : Running) (o : Option Answer) → part.owner ≡ Some c → c.stage ≡ Begun r → r.answers slot ≡ o → (a : Answer) × (o ≡ Some a)
      → P (give_answer c r slot o part) (answer_gives c.job r slot o)
  give_at c r None e x y h = absurd (none_some h.1)
  give_at c r (Some a) e x y h = given c r a e x y

  deliver_at : (c : Context) (st : Stage) → part.owner ≡ Some c → c.stage ≡ st → StageHas slot st → P (deliver_stage c slot st part) (stage_gives slot c.job st)
  deliver_at c Unbegun e x h = absurd h
  deliver_at c (Begun r) e x h = give_at c r (r.answers slot) e x refl h

  deliver_of : (o : Option Context) → part.owner ≡ o → OfOwner (StageHas slot) o → P (deliver_owner slot o part) (owner_gives slot o)
  deliver_of None e h = absurd h
  deliver_of (Some c) e h = deliver_at c c.stage e refl h

  pub deliver_case : OfOwner (StageHas slot) part.owner → P (deliver slot part) (deliver_effects slot part)
  deliver_case h = deliver_of part.owner refl h

-- a request is served
module _ (P : Part → Type 0) (slot : ℕ) (part : Part)
    (served : (c : Context) (r : Running) (q : Request) → part.owner ≡ Some c → c.stage ≡ Begun r → request_at r.control slot ≡ Some q
    → P (part_of (Some (staged c (Begun (answered r slot (answer_of q part.said.state.cells))))) part.waiting (applied q part.said))) where
  serve_with : (c : Context) (r : Running) (o : Option Request) → part.owner ≡ Some c → c.stage ≡ Begun r → request_at r.control slot ≡ o → (q : Request) × (o ≡ Some q) → P (serve_request c r slot o part)
  serve_with c r None e x y h = absurd (none_some h.1)
  serve_with c r (Some q) e x y h = served c r q e x y

  serve_at : (c : Context) (st : Stage) → part.owner ≡ Some c → c.stage ≡ st → StageAsks slot st → P (serve_stage c slot st part)
  serve_at c Unbegun e x h = absurd h
  serve_at c (Begun r) e x h = serve_with c r (request_at r.control slot) e x refl h.0

  serve_of : (o : Option Context) → part.owner ≡ o → OfOwner (StageAsks slot) o → P (serve_owner slot o part)
  serve_of None e h = absurd h
  serve_of (Some c) e h = serve_at c c.stage e refl h

  pub serve_case : OfOwner (StageAsks slot) part.owner → P (serve slot part)
  serve_case h = serve_of part.owner refl h

-- the mark in front of an idle key fires
module _ (P : Part → Type 0) (n : ℕ) (part : Part)
    (fired : (e : ℕ) (w : ℤ) (more : ℕ) (is : List Waiting) (t : ℤ) → part.owner ≡ None → part.waiting ≡ Mark e w (suc more) ∷ is
    → P (part_of (Some (new_context n e (firing_job w t))) (Mark e w more ∷ is) (record { state = without_least part.said.state; groups = part.said.groups }))) where
  due_at : (e : ℕ) (w : ℤ) (more : ℕ) (is : List Waiting) (times : List ℤ) → part.owner ≡ None → part.waiting ≡ Mark e w (suc more) ∷ is → is_due w times ≡ true → P (fire_due n e w more is times part)
  due_at e w more is [] a b h = absurd (true_false h)
  due_at e w more is (t ∷ ts) a b h = of (int_le t w) h
    where
      of : (x : Bool) → x ≡ true → P (cond x (part_of (Some (new_context n e (firing_job w t))) (Mark e w more ∷ is) (record { state = without_least part.said.state; groups = part.said.groups })) part)
      of true y = fired e w more is t a b
      of false y = absurd (true_false y)

  fire_at : (o : Option Context) (is : List Waiting) → part.owner ≡ o → part.waiting ≡ is → is_idle_with o is ≡ true → FrontFires is part.said.state.times → P (fire_front n o is part)
  unfolding FrontFires
  fire_at None [] a b i f = absurd (true_false i)
  fire_at None (Row j e facts ∷ is) a b i f = absurd f
  fire_at None (Mark e w zero ∷ is) a b i f = absurd (true_false f)
  fire_at None (Mark e w (suc more) ∷ is) a b i f = due_at e w more is part.said.state.times a b f
  fire_at (Some c) is a b i f = absurd (true_false i)

  front : (must : Option Key) (k : Key) (o : Option Context) (is : List Waiting) (times : List ℤ) → is_idle_with o is ≡ true → IsOrdered must k o is times → FrontFires is times
  unfolding IsOrdered
  front must k None is times i h = h.0
  front must k (Some c) is times i h = absurd (true_false i)

  pub fire_case : (must : Option Key) (k : Key) → is_idle part ≡ true → IsOrdered must k part.owner part.waiting part.said.state.times → P (fire n part)
  fire_case must k i h = fire_at part.owner part.waiting refl refl i (front must k part.owner part.waiting part.said.state.times i h)

-- a row comes, and a mark comes
module _ (P : Part → Type 0) where
  pub admit_case : (n e : ℕ) (f : Facts) (o : Option Context) (is : List Waiting) (s : Said) → (o ≡ None → is ≡ [] → P (part_of (Some (row_context n e f)) [] s)) → P (part_of o (is ++ Row n e f ∷ []) s)
      → P (admit_at n e f o is s)
  admit_case n e f None [] s owns waits = owns refl refl
  admit_case n e f None (i ∷ is) s owns waits = waits
  admit_case n e f (Some c) is s owns waits = waits

  pub mark_case : (e : ℕ) (w : ℤ) (more : ℕ) (o : Option Context) (is : List Waiting) (s : Said) → P (part_of o (is ++ Mark e w more ∷ []) s) → P (part_of o is s) → P (mark_at e w more o is s)
  mark_case e w more None [] s waits same = of (is_due w s.state.times)
    where
      of : (b : Bool) → P (cond b (part_of None (Mark e w more ∷ []) s) (part_of None [] s))
      of true = waits
      of false = same
  mark_case e w more None (i ∷ is) s waits same = waits
  mark_case e w more (Some c) is s waits same = waits
