-- Whatever the order in which requests are served and answers given, a handler comes to what its run comes to.
use Rattle.std.specs.Prelude.{◌≡◌, ◌≤◌, ℕ, List, length, true}
use Rattle.ax_text.specs.Exprs.{Facts}
use Rattle.ax_text.specs.declared.vocabulary.Answer.{Answer}
use Rattle.ax_text.specs.Run.{Talk}
use Rattle.ax_text.specs.Prints.{has}
use Rattle.ax_text.specs.Cells.{Cells}
use Rattle.ax_text.specs.Texts.{Text}
use Rattle.ax_text.specs.Run.{run, begun}
use Rattle.ax_text.specs.Programs.{width}
use Rattle.ax_text.specs.Prints.{is_accepted}
use Rattle.ax_text.specs.Controls.{Control, Done, Going, Event, started, steps, comes_to, slots, waiting, replaced, Cursor, begin, give}

-- a handler behind some events
abbrev pub going : Facts → Text → Cells → List Event → Going
going f t cells es = steps f es (started f t (begun cells))

abbrev pub ComesToRun : Facts → Text → Cells → List Event → Type 0
ComesToRun f t cells es = is_accepted t ≡ true → comes_to f (going f t cells es) ≡ run f t (begun cells)

-- where it is done, nothing is left
abbrev pub EndsAsRun : Facts → Text → Cells → List Event → Type 0
EndsAsRun f t cells es = is_accepted t ≡ true → (going f t cells es).control ≡ Done → (going f t cells es).world ≡ run f t (begun cells)

-- at most as many requests wait as the text is wide
abbrev pub StaysWithin : Facts → Text → Cells → List Event → Type 0
StaysWithin f t cells es = length (slots (going f t cells es).control) ≤ width t

-- what a callback asks is what waits behind it and didn't before
abbrev pub AsksAtBegin : Facts → Cursor → List ℕ → Talk → Type 0
AsksAtBegin f k used t = waiting (begin f k used t).control ≡ (begin f k used t).asks

abbrev pub AsksAtGive : Facts → Control → ℕ → Answer → Talk → Type 0
AsksAtGive f c s a t = has s (slots c) ≡ true → waiting (give f c s a t).control ≡ replaced s (give f c s a t).asks (waiting c)
