-- How many requests wait behind a callback, and that those that were served stay counted.
use Rattle.std.specs.Prelude.{◌≡◌, ◌≤◌, ℕ, ◌+◌, List, length, map, true}
use Rattle.ax_text.specs.declared.vocabulary.Answer.{Answer}
use Rattle.ax_text.specs.Exprs.{Facts}
use Rattle.ax_text.specs.Run.{Talk, World}
use Rattle.ax_text.specs.Prints.{has}
use Rattle.ax_text.specs.Controls.{Cursor, Control, Answers, Going, Event, slots, waiting, begin, give, left, step}
use Rattle.ax_text.specs.Footprints.{ControlFits}
use Rattle.ax_text.specs.Sound.{everything}

-- each request that waits has one slot
abbrev pub WaitsBySlot : Control → Type 0
WaitsBySlot c = slots c ≡ map (λ a. a.slot) (waiting c)

-- as many wait behind a beginning as it asks
abbrev pub BeginCounts : Facts → Cursor → List ℕ → Talk → Type 0
BeginCounts f k used t = length (slots (begin f k used t).control) ≡ length (begin f k used t).asks

-- and behind an answer as many as before and as it asks, but one fewer
abbrev pub GiveCounts : Facts → Control → ℕ → Answer → Talk → Type 0
GiveCounts f c s a t = has s (slots c) ≡ true → length (slots (give f c s a t).control) + 1 ≡ length (slots c) + length (give f c s a t).asks

-- a serve and an answer leave what was served counted
abbrev pub StepCounts : Facts → Event → Going → Type 0
StepCounts f e g = g.world.served ≤ (step f e g).world.served

-- and so does all that is left of a control whose arms are apart, whatever answers stand
abbrev pub LeftCounts : Facts → Answers → Control → World → Type 0
LeftCounts f answers c w = ControlFits c everything → w.served ≤ (left f answers c w).served
