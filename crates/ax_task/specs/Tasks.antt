-- What a task has read, taken and written, and what it leaves at its end.
use Rattle.std.specs.Prelude.{◌≡◌, ℕ, List, ◌++◌, [], ◌∷◌, false, Option, Some, None}
use Rattle.std.specs.Io.KnownBytes.{Appends}
use Rattle.ax_base.specs.Outside.{RoseByOne, Counts, Told}
use Rattle.ax_base.specs.Reader.{Reader}
use Rattle.ax_machine.specs.Entries.{Entry, text_of}
use Rattle.ax_machine.specs.Events.{Event}
use Rattle.ax_input.specs.Shown.{shown_event}
use Rattle.ax_input.specs.declared.event.Event.{Event as CodeEvent}
use Rattle.ax_lang.specs.declared.program.Program.{Program}
use Rattle.ax_lang.specs.Shown.{shown_program}
use Rattle.ax_core.specs.declared.settings.Settings.{Settings}
use Rattle.ax_task.specs.Parse.{Stream}
use Rattle.ax_task.specs.Clause.{WritesLawful, StreamEnds, EndCounts}
use Rattle.ax_task.specs.Passes.{events_at, Taken, Took, Wrote}
use Rattle.ax_task.specs.Known.{Knows, IsInputEnd}
use Rattle.ax_task.specs.Engines.{Stands, Takes}
use Rattle.ax_task.specs.declared.end.End.{End}
use Rattle.ax_task.specs.declared.end.End.TheVariants as end
use Rattle.ax_task.specs.declared.engine.Engine.{Engine}
use Rattle.ax_task.specs.declared.reading.Reading.{Reading}
use Rattle.ax_task.specs.declared.driver.Did.{Did}
use Rattle.ax_task.specs.declared.driver.Did.TheVariants as did

-- the event that was read and not taken
abbrev pub held_events : Option CodeEvent → List Event
held_events None = []
held_events (Some e) = shown_event e ∷ []

-- what source and sink tell: the bytes that are left and how often reading failed, the bytes that were written and the counts of that
pub record Outer : Type 0 where
  pub left : Option (List ℕ)
  pub reads : ℕ
  pub holds : Option (List ℕ)
  pub writes : Counts

-- where a task begins: what bytes mean to its reader, which of them that holds, and what source and sink tell
pub record From : Type 0 where
  pub means : List ℕ → Stream
  pub held : List ℕ
  pub outer : Outer

-- how often reading failed, by what was found
abbrev pub FoundCounts : ℕ → ℕ → Option End → Type 0
FoundCounts before now None = now ≡ before
FoundCounts before now (Some end.Ok) = now ≡ before
FoundCounts before now (Some (end.Input line kind)) = now ≡ before
FoundCounts before now (Some (end.Program line kind)) = now ≡ before
FoundCounts before now (Some end.Read) = RoseByOne before now
FoundCounts before now (Some end.Write) = now ≡ before
FoundCounts before now (Some end.NoMemory) = now ≡ before

-- what was found is an end of the input
abbrev pub IsFound : Option End → Type 0
IsFound None = Unit {0}
IsFound (Some e) = IsInputEnd e

-- what a step found at the input: an end of it or nothing, by which the count of its faults is told. Behind an end nothing more is read
abbrev pub Finds : Option End → Option End → Option (List ℕ) → Option (List ℕ) → ℕ → ℕ → Type 0
Finds None found left left' before now = IsFound found × FoundCounts before now found
Finds (Some e) found left left' before now = (found ≡ Some e) × (left' ≡ left) × (now ≡ before)

-- the reader may be asked on, unless an end was found
abbrev pub MayRead : Reader → Option End → Type 0
MayRead lines None = lines.failed ≡ false
MayRead lines (Some e) = Unit {0}

-- the events that were taken, and then the one that is held, are those that were read
pub record HasRead (from : From) (r : Reading) (lines : Reader) (left : Option (List ℕ)) (reads : ℕ) (taken : List Event) : Type 0 where
  pub knows : Told from.outer.left left (λ a b. Knows from.means (events_at r.events.fields r.events.last lines) (taken ++ held_events r.next) (record { held = from.held; left = a }) (record { held = lines.held; left = b }) r.found)
  pub found : IsFound r.found
  pub counts : FoundCounts from.outer.reads reads r.found
  pub may : MayRead lines r.found

abbrev pub ReadsOn : Reading → Reading → Reader → Reader → Option (List ℕ) → Option (List ℕ) → ℕ → ℕ → Type 0
ReadsOn r r' lines lines' left left' reads reads' = (from : From) (taken : List Event) → HasRead from r lines left reads taken → HasRead from r' lines' left' reads' taken

-- memory was short: the events that were read were taken, and of the bytes behind them some were read
abbrev pub ReadsShort : Reading → Reader → Option (List ℕ) → Option (List ℕ) → ℕ → Type 0
ReadsShort r lines left left' reads = (from : From) (taken : List Event) → HasRead from r lines left reads taken
    → Told from.outer.left left' (λ a b. Taken (taken ++ held_events r.next) from.means (record { held = from.held; left = a }) b)

-- the task has come so far
pub record IsUnderway (s : Settings) (p : Program) (from : From) (e : Engine) (r : Reading) (lines : Reader) (now : Outer) : Type 0 where
  pub read : List Event
  pub written : List Entry
  pub stands : Stands s p e read written
  pub grown : Appends from.outer.holds now.holds (text_of written)
  pub has_read : HasRead from r lines now.left now.reads read
  pub writes : now.writes ≡ from.outer.writes

-- the task has ended so
pub record HasEnded (s : Settings) (p : Program) (from : From) (now : Outer) (e : End) : Type 0 where
  pub told : Told from.outer.left now.left (λ a b. StreamEnds (λ events. WritesLawful s.groups s.serial (shown_program p) events (record { old = from.outer.holds; new = now.holds })) (from.means (from.held ++ a)) b e)
  pub stopped : (done : List Event) × Told from.outer.left now.left (λ a b. Took done from.means (record { held = from.held; left = a }) b e) × Wrote s.groups s.serial (shown_program p) done (record { old = from.outer.holds; new = now.holds }) e
  pub counts : EndCounts (record { reads = from.outer.reads; writes = from.outer.writes }) (record { reads = now.reads; writes = now.writes }) e

-- what was done went on, or ended the run
abbrev pub StepLeaves : Settings → Program → From → Engine → Reading → Reader → Outer → Did → Type 0
StepLeaves s p from e r lines now did.Went = IsUnderway s p from e r lines now
StepLeaves s p from e r lines now did.Took = IsUnderway s p from e r lines now
StepLeaves s p from e r lines now (did.End end) = HasEnded s p from now end

abbrev pub Steps : Engine → Engine → Reading → Reading → Reader → Reader → Outer → Outer → Did → Type 0
Steps e e' r r' lines lines' old now did = (s : Settings) (p : Program) (from : From) → IsUnderway s p from e r lines old → StepLeaves s p from e' r' lines' now did

-- the event that was held was taken
pub record TakesHeld (e e' : Engine) (r r' : Reading) : Type 0 where
  pub event : CodeEvent
  pub was : r.next ≡ Some event
  pub none : r'.next ≡ None
  pub events : r'.events ≡ r.events
  pub found : r'.found ≡ r.found
  pub takes : Takes e e' (shown_event event)

-- wherever the task is, it has ended so
abbrev pub EndsWell : Engine → Reading → End → Type 0
EndsWell e r end = (s : Settings) (p : Program) (from : From) (lines : Reader) (now : Outer) → IsUnderway s p from e r lines now → HasEnded s p from now end
