-- A key that is handed over: what stands for it, and which epochs its marks leave.
use Rattle.std.proofs.Common.{◌≡◌, ℕ, zero, suc, ◌+◌, ℤ, Bool, true, false, cond, ◌&&◌, if◌then◌else◌, List, [], ◌∷◌, map, Some, None, refl, sym, ap, ap₂, subst, ◌∙◌, arith}
use Rattle.std.proofs.lemmas.Bool.{cond-true, cond-false, lt-ltb, le-ltb}
use Rattle.ax_keys.specs.declared.TheConstants.{MOST_FIRINGS}
use Rattle.ax_text.specs.Controls.{Answers, Turn, is_done}
use Rattle.ax_lang.specs.declared.program.Program.{Program}
use Rattle.ax_machine.specs.Entries.{Key}
use Rattle.ax_machine.specs.Firings.{most_firings}
use Rattle.ax_context.specs.declared.id.Id.{Id}
use Rattle.ax_context.specs.Slots.{Slots, at}
use Rattle.ax_account.specs.declared.part.Waiting.{Waiting as Item}
use Rattle.ax_account.specs.declared.part.Waiting.TheVariants as item
use Rattle.ax_account.specs.Parts.{taken_up}
use Rattle.ax_mailbox.specs.declared.mail.Mail.{Mail}
use Rattle.ax_execution.specs.Contexts.{Context, Begun, Waiting, Row, Mark, is_due, may_fire}
use Rattle.ax_execution.specs.Counts.{one_at}
use Rattle.ax_execution.specs.KeyControls.{KeyControl}
use Rattle.ax_execution.specs.Turns.{staged}
use Rattle.ax_execution.specs.ControlTurns.{handed_on, paused, called_back_on}
use Rattle.ax_execution.specs.ControlChanges.{marks_off}
use Rattle.ax_execution.proofs.SingleKeys.{keyed}
use Rattle.ax_core.specs.declared.record.Record.{Record}
use Rattle.ax_core.specs.Contexts.{wrapped, ContextStands}
use Rattle.ax_core.specs.Keys.{IsMark, ItemsStand, PartStands}
use Rattle.ax_core.specs.Callbacks.{fires, behind_marks, ended}

-- a mark fires where the control's does
pub fires_as : (u : ℕ) (v : ℤ) (fired e : ℕ) (w : ℤ) (more : ℕ) (times : List ℤ) → IsMark u v fired e w more → fires v fired times ≡ may_fire w more times
unfolding most_firings
fires_as u v fired e w zero times h =
    let none : fired + 0 ≡ MOST_FIRINGS = h.firings in
    ap (λ (b : Bool). b && is_due v times) (le-ltb fired MOST_FIRINGS (omega arith))
fires_as u v fired e w (suc more) times h =
    let some : fired + suc more ≡ MOST_FIRINGS = h.firings in
    ap (λ (b : Bool). b && is_due v times) (lt-ltb fired MOST_FIRINGS (omega arith)) ∙ ap (λ (x : ℤ). is_due x times) h.time

module _ (p : Program) (ms : List Mail) (s : Slots Record) (key : Key) (times : List ℤ) where
  at_mark : (u : ℕ) (v : ℤ) (fired e : ℕ) (w : ℤ) (more : ℕ) (is : List Item) (ws : List Waiting) (b d : Bool) → b ≡ d
      → ItemsStand p ms s key (item.Mark u v fired ∷ is) (Mark e w more ∷ ws) → PartStands p ms s key (taken_up (behind_marks times is)) times (handed_on ws times)
      → PartStands p ms s key (taken_up (cond b (item.Mark u v fired ∷ is) (behind_marks times is))) times (cond d (keyed None (Mark e w more ∷ ws) times) (handed_on ws times))
  at_mark u v fired e w more is ws true true same h rest = record { owner = tt; items = h; times = refl }
  at_mark u v fired e w more is ws false false same h rest = rest
  at_mark u v fired e w more is ws true false same h rest = absurd (cc same)
  at_mark u v fired e w more is ws false true same h rest = absurd (cc same)

  -- the marks in front that fire nothing are taken off, and a row in front owns the key
  pub hands : (is : List Item) (ws : List Waiting) → ItemsStand p ms s key is ws → PartStands p ms s key (taken_up (behind_marks times is)) times (handed_on ws times)
  hands [] [] h = record { owner = tt; items = tt; times = refl }
  hands [] (w ∷ ws) h = absurd h
  hands (i ∷ is) [] h = absurd h
  hands (item.Row id ∷ is) (Row n e f ∷ ws) h = record { owner = h.0; items = h.1; times = refl }
  hands (item.Row id ∷ is) (Mark e w more ∷ ws) h = absurd h.0
  hands (item.Mark u v fired ∷ is) (Row n e f ∷ ws) h = absurd h.0
  hands (item.Mark u v fired ∷ is) (Mark e w more ∷ ws) h =
      at_mark u v fired e w more is ws (fires v fired times) (may_fire w more times) (fires_as u v fired e w more times h.0) h (hands is ws h.1)

  -- behind a callback whose handler has ended, the key is handed over
  pub ends_gone : (id : Id) (c : Context) (t : Turn) (answers : Answers) (is : List Item) (ws : List Waiting) → is_done t.control ≡ true → ItemsStand p ms s key is ws
      → PartStands p ms s key (taken_up (behind_marks times is)) times (called_back_on c t answers ws times)
  ends_gone id c t answers is ws done h =
      subst (λ (q : KeyControl). PartStands p ms s key (taken_up (behind_marks times is)) times q)
      (sym (cond-true (is_done t.control) (handed_on ws times) (keyed (Some (staged c (Begun (paused t answers)))) ws times) done)) (hands is ws h)

  -- and behind one whose handler waits, its context owns the key on
  pub ends_live : (id : Id) (c : Context) (t : Turn) (answers : Answers) (is : List Item) (ws : List Waiting) → is_done t.control ≡ false
      → ContextStands p ms key id (at s id) (staged c (Begun (paused t answers))) → ItemsStand p ms s key is ws
      → PartStands p ms s key (record { owner = Some id; waiting = is }) times (called_back_on c t answers ws times)
  ends_live id c t answers is ws waits own h =
      subst (λ (q : KeyControl). PartStands p ms s key (record { owner = Some id; waiting = is }) times q)
      (sym (cond-false (is_done t.control) (handed_on ws times) (keyed (Some (staged c (Begun (paused t answers)))) ws times) waits))
      (record { owner = own; items = h; times = refl })

-- the epochs of the marks that are taken off
abbrev pub ended_on : List ℤ → List Waiting → List ℕ
ended_on times [] = []
ended_on times (Row n e f ∷ ws) = []
ended_on times (Mark e w more ∷ ws) = if may_fire w more times then [] else e ∷ ended_on times ws

abbrev pub how_many : ℕ → List ℕ → ℕ
how_many u [] = 0
how_many u (e ∷ es) = one_at u e + how_many u es

pub marks_counted : (u : ℕ) (times : List ℤ) (ws : List Waiting) → how_many u (ended_on times ws) ≡ marks_off u ws times
marks_counted u times [] = refl
marks_counted u times (Row n e f ∷ ws) = refl
marks_counted u times (Mark e w more ∷ ws) = of (may_fire w more times) (marks_counted u times ws)
  where
    of : (b : Bool) → how_many u (ended_on times ws) ≡ marks_off u ws times → how_many u (cond b [] (e ∷ ended_on times ws)) ≡ cond b 0 (one_at u e + marks_off u ws times)
    of true h = refl
    of false h = ap (λ (n : ℕ). one_at u e + n) h

pub ended_as : (p : Program) (ms : List Mail) (s : Slots Record) (key : Key) (times : List ℤ) (is : List Item) (ws : List Waiting) → ItemsStand p ms s key is ws → ended times is ≡ map wrapped (ended_on times ws)
ended_as p ms s key times [] [] h = refl
ended_as p ms s key times [] (w ∷ ws) h = absurd h
ended_as p ms s key times (i ∷ is) [] h = absurd h
ended_as p ms s key times (item.Row id ∷ is) (Row n e f ∷ ws) h = refl
ended_as p ms s key times (item.Row id ∷ is) (Mark e w more ∷ ws) h = absurd h.0
ended_as p ms s key times (item.Mark u v fired ∷ is) (Row n e f ∷ ws) h = absurd h.0
ended_as p ms s key times (item.Mark u v fired ∷ is) (Mark e w more ∷ ws) h =
    of (fires v fired times) (may_fire w more times) (fires_as u v fired e w more times h.0) (ended_as p ms s key times is ws h.1)
  where
    of : (b d : Bool) → b ≡ d → ended times is ≡ map wrapped (ended_on times ws) → cond b [] (u ∷ ended times is) ≡ map wrapped (cond d [] (e ∷ ended_on times ws))
    of true true same rest = refl
    of false false same rest = ap₂ (λ (n : ℕ) (ns : List ℕ). n ∷ ns) h.0.epoch rest
    of true false same rest = absurd (cc same)
    of false true same rest = absurd (cc same)
