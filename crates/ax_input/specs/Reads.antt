-- What the readers of events answer.
use Rattle.std.specs.Prelude.{◌≡◌, ℕ, List, ◌∷◌, Bool, true, false, Option, Some, None, Result, Ok, Err}
use Rattle.ax_base.specs.Words.{words_of}
use Rattle.ax_syntax.specs.Words.{Word}
use Rattle.ax_input.specs.Events.{EventRead, Good, Bad, row_by}
use Rattle.ax_input.specs.Shown.{shown_event}
use Rattle.ax_input.specs.declared.event.Event.{Event}
use Rattle.ax_input.specs.declared.event.EventFault.{EventFault}
use Rattle.ax_input.specs.declared.event.EventFault.TheVariants as fault
use Rattle.ax_input.specs.declared.event.RowWords.{RowWords}

-- the parts of a row; where there are none, the count of words is the fault
abbrev pub SplitsRow : List Word → Option RowWords → Type 0
SplitsRow words None = (fields : ℕ) → row_by fields words ≡ Bad 4
SplitsRow words (Some w) = words ≡ w.key.now ∷ w.time.now ∷ words_of w.values.now

-- the event of a line, or the kind of its fault
abbrev pub ReadsEvent : EventRead → Result Event EventFault → Type 0
ReadsEvent r (Ok e) = r ≡ Good (shown_event e)
ReadsEvent r (Err fault.Word) = r ≡ Bad 1
ReadsEvent r (Err fault.Key) = r ≡ Bad 2
ReadsEvent r (Err fault.Number) = r ≡ Bad 3
ReadsEvent r (Err fault.Count) = r ≡ Bad 4
ReadsEvent r (Err fault.NoMemory) = Unit {0}

-- the event of a line that may be blank or a comment, or the kind of its fault
abbrev pub ReadsLine : Bool → EventRead → Result (Option Event) EventFault → Type 0
ReadsLine skipped r (Ok None) = skipped ≡ true
ReadsLine skipped r (Ok (Some e)) = (skipped ≡ false) × (r ≡ Good (shown_event e))
ReadsLine skipped r (Err fault.Word) = (skipped ≡ false) × (r ≡ Bad 1)
ReadsLine skipped r (Err fault.Key) = (skipped ≡ false) × (r ≡ Bad 2)
ReadsLine skipped r (Err fault.Number) = (skipped ≡ false) × (r ≡ Bad 3)
ReadsLine skipped r (Err fault.Count) = (skipped ≡ false) × (r ≡ Bad 4)
ReadsLine skipped r (Err fault.NoMemory) = Unit {0}
