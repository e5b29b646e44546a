-- What a whole run does, by its end.
use Rattle.std.specs.Prelude.{◌≡◌, ℕ, List, [], ◌++◌, ◌⊎◌, Bool, Option}
use Rattle.std.specs.Io.KnownBytes.{Appends}
use Rattle.ax_base.specs.Outside.{RoseByOne, Counts, AppendsSome}
use Rattle.ax_base.specs.Pieces.{whole_lines}
use Rattle.ax_text.specs.Programs.{Program}
use Rattle.ax_machine.specs.Entries.{Entry, text_of}
use Rattle.ax_machine.specs.Events.{Event}
use Rattle.ax_machine.specs.Lawful.{LawfulFor, LawfulSoFarFor}
use Rattle.ax_task.specs.Sections.{Section, IsUnfinished}
use Rattle.ax_task.specs.Parse.{Parsed, BadProgram, Runs, Stream, Clean, Fault, section_in, parse}
use Rattle.ax_task.specs.declared.end.End.{End}
use Rattle.ax_task.specs.declared.end.End.TheVariants as end

-- what a sink held before a call and holds behind it, where it tells it
pub record Holds : Type 0 where
  pub old : Option (List ℕ)
  pub new : Option (List ℕ)

-- the sink grew by the text of a list that is lawful for these events, where there are m key groups
abbrev pub WritesLawful : ℕ → Bool → Program → List Event → Holds → Type 0
WritesLawful m serial p events out = (written : List Entry) × LawfulFor m serial p events written × Appends out.old out.new (text_of written)

-- the sink grew by a prefix of the text of a list that is lawful for these events so far
abbrev pub WritesPart : ℕ → Bool → Program → List Event → Holds → Type 0
WritesPart m serial p events out = (written : List Entry) × LawfulSoFarFor m serial p events written × AppendsSome out.old out.new (text_of written)

-- what a stream of events leaves, by the end: `Writes` says that these events were written, and `left` is what the source still has
abbrev pub StreamEnds : (List Event → Type 0) → Stream → List ℕ → End → Type 0
StreamEnds Writes s left end.Ok = (s.ending ≡ Clean) × (left ≡ []) × Writes s.events
StreamEnds Writes s left (end.Input line kind) = (s.ending ≡ Fault line kind) × Writes s.events
StreamEnds Writes s left (end.Program line kind) = ⊥
StreamEnds Writes s left end.Read = Unit {0}
StreamEnds Writes s left end.Write = Unit {0}
StreamEnds Writes s left end.NoMemory = Unit {0}

-- what a run leaves, where the bytes of the input say this
abbrev pub RunEnds : ℕ → Bool → Holds → Parsed → List ℕ → End → Type 0
RunEnds m serial out (BadProgram l k) left (end.Program line kind) = (l ≡ line) × (k ≡ kind) × Appends out.old out.new []
RunEnds m serial out (BadProgram l k) left end.Ok = ⊥
RunEnds m serial out (BadProgram l k) left (end.Input line kind) = ⊥
RunEnds m serial out (BadProgram l k) left end.Write = ⊥
RunEnds m serial out (BadProgram l k) left end.Read = Unit {0}
RunEnds m serial out (BadProgram l k) left end.NoMemory = Unit {0}
RunEnds m serial out (Runs p s) left e = StreamEnds (λ events. WritesLawful m serial p events out) s left e

-- the whole lines among the bytes that were taken; a last line that the end of the input ended is whole
abbrev pub AreWholeLines : List ℕ → List ℕ → List ℕ → Type 0
AreWholeLines taken left lines = (lines ≡ whole_lines taken) ⊎ ((lines ≡ taken) × (left ≡ []))

-- a fact of the whole lines that were taken, where `left` is what the source still has of these bytes
abbrev pub OfTaken : List ℕ → List ℕ → (List ℕ → Type 0) → Type 0
OfTaken bytes left P = (taken lines : List ℕ) × (bytes ≡ taken ++ left) × AreWholeLines taken left lines × P lines

-- at a read fault the events of these lines have no fault, and a lawful list was written for all of them; nothing, where the section did
-- not end in them, and else they have a program
abbrev pub AtRead : ℕ → Bool → Holds → Section → Parsed → Type 0
AtRead m serial out s (BadProgram line kind) = IsUnfinished s × Appends out.old out.new []
AtRead m serial out s (Runs p stream) = (stream.ending ≡ Clean) × WritesLawful m serial p stream.events out

-- at a write fault some of a list that is lawful so far was written, and there is a program
abbrev pub AtWrite : ℕ → Bool → Holds → Parsed → Type 0
AtWrite m serial out (BadProgram line kind) = ⊥
AtWrite m serial out (Runs p stream) = WritesPart m serial p stream.events out

-- the same where memory was short; nothing was written, where there is no program
abbrev pub AtNoMemory : ℕ → Bool → Holds → Parsed → Type 0
AtNoMemory m serial out (BadProgram line kind) = Appends out.old out.new []
AtNoMemory m serial out (Runs p stream) = WritesPart m serial p stream.events out

-- what a run leaves that stops for a fault of its source or its sink, or for want of memory
abbrev pub Stops : ℕ → Bool → Holds → List ℕ → List ℕ → End → Type 0
Stops m serial out bytes left end.Read = OfTaken bytes left (λ lines. AtRead m serial out (section_in lines) (parse lines))
Stops m serial out bytes left end.Write = OfTaken bytes left (λ lines. AtWrite m serial out (parse lines))
Stops m serial out bytes left end.NoMemory = OfTaken bytes left (λ lines. AtNoMemory m serial out (parse lines))
Stops m serial out bytes left end.Ok = Unit {0}
Stops m serial out bytes left (end.Input line kind) = Unit {0}
Stops m serial out bytes left (end.Program line kind) = Unit {0}

-- how often the input failed, and the counts of the sink
pub record RunCounts : Type 0 where
  pub reads : ℕ
  pub writes : Counts

-- no count changed
abbrev pub AllStay : RunCounts → RunCounts → Type 0
AllStay old new = (new.reads ≡ old.reads) × (new.writes ≡ old.writes)

-- a count stays, or rises by one
abbrev pub MayRise : ℕ → ℕ → Type 0
MayRise before now = (now ≡ before) ⊎ RoseByOne before now

-- the counts by the end: a fault that ends a run raises its own. Before a write fault and want of memory a read fault may have been found,
-- and memory may be short in the sink or elsewhere
abbrev pub EndCounts : RunCounts → RunCounts → End → Type 0
EndCounts old new end.Ok = AllStay old new
EndCounts old new (end.Program line kind) = AllStay old new
EndCounts old new (end.Input line kind) = AllStay old new
EndCounts old new end.Read = RoseByOne old.reads new.reads × (new.writes ≡ old.writes)
EndCounts old new end.Write = MayRise old.reads new.reads × RoseByOne old.writes.faults new.writes.faults × (new.writes.short ≡ old.writes.short)
EndCounts old new end.NoMemory = MayRise old.reads new.reads × (new.writes.faults ≡ old.writes.faults) × MayRise old.writes.short new.writes.short
