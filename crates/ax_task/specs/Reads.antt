-- What the readers of lines, of the section and of the events answer.
use Rattle.std.specs.Prelude.{◌≡◌, ℕ, ℤ, ◌+◌, ◌≤◌, ◌<◌, List, [], ◌∷◌, ◌++◌, length, Bool, true, false, Option, Some, None, Result, Ok, Err}
use Rattle.ax_base.specs.Outside.{RoseByOne}
use Rattle.ax_base.specs.Pieces.{Piece}
use Rattle.ax_base.specs.declared.lines.Line.{Line}
use Rattle.ax_base.specs.declared.outside.NoMemory.{NoMemory}
use Rattle.ax_base.specs.declared.outside.SinkFault.{SinkFault}
use Rattle.ax_base.specs.declared.outside.SinkFault.TheVariants as sink
use Rattle.ax_input.specs.Events.{EventRead, Good, Bad}
use Rattle.ax_task.specs.Sections.{Section, most_kept}
use Rattle.ax_task.specs.Sections as section
use Rattle.ax_task.specs.Parse.{Stream, Clean, Fault, ends, with_event, last_after}
use Rattle.ax_input.specs.Shown.{shown_event}
use Rattle.ax_task.specs.declared.end.End.{End}
use Rattle.ax_task.specs.declared.end.End.TheVariants as end
use Rattle.ax_task.specs.declared.read_fault.ReadFault.{ReadFault}
use Rattle.ax_task.specs.declared.read_fault.ReadFault.TheVariants as read
use Rattle.ax_input.specs.declared.event.Event.{Event}
use Rattle.ax_input.specs.declared.event.EventFault.{EventFault}
use Rattle.ax_input.specs.declared.event.EventFault.TheVariants as fault
use Rattle.ax_task.specs.declared.section.Gathered.{Gathered}
use Rattle.ax_task.specs.declared.section.Kept.{Kept}

-- the number of a kind of fault; want of memory is none
abbrev pub kind_number : EventFault → Option ℕ
kind_number fault.Word = Some 1
kind_number fault.Key = Some 2
kind_number fault.Number = Some 3
kind_number fault.Count = Some 4
kind_number fault.NoMemory = None

-- the fault of a line, by its kind
abbrev pub line_fault : ℕ → Option ℕ → ReadFault
line_fault line None = read.NoMemory
line_fault line (Some kind) = read.Fault line kind

-- the event of a line that may be blank or a comment, or the kind of its fault
abbrev pub ReadsInOrder : Bool → EventRead → Result (Option Event) (Option ℕ) → Type 0
ReadsInOrder skipped r (Ok None) = skipped ≡ true
ReadsInOrder skipped r (Ok (Some e)) = (skipped ≡ false) × (r ≡ Good (shown_event e))
ReadsInOrder skipped r (Err (Some kind)) = (skipped ≡ false) × (r ≡ Bad kind)
ReadsInOrder skipped r (Err None) = Unit {0}

-- the greatest ID of a barrier behind a line with this event, or with none, where it was `last` before
abbrev pub last_behind : Option Event → ℤ → ℤ
last_behind None last = last
last_behind (Some e) last = last_after (shown_event e) last

-- whether a line was kept, which it isn't where it passes the limit
abbrev pub Keeps : Kept → Line → Kept → Result Bool NoMemory → Type 0
Keeps old line new (Ok true) = (new.lines ≡ old.lines ++ line ∷ []) × (new.bytes ≡ old.bytes + length line.text) × (new.bytes ≤ most_kept)
Keeps old line new (Ok false) = most_kept < old.bytes + length line.text
Keeps old line new (Err e) = Unit {0}

-- the section, and the pieces behind it
abbrev pub SectionOf : Section → List Piece → Result Gathered ReadFault → Type 0
SectionOf whole rest (Ok g) = whole ≡ section.Gathered g.lines g.end.line g.end.found rest
SectionOf whole rest (Err (read.Fault line kind)) = whole ≡ section.Faulty line kind
SectionOf whole rest (Err read.Read) = Unit {0}
SectionOf whole rest (Err read.NoMemory) = Unit {0}

-- the first event and those behind it, or how the events end; `left` is what the source still has
abbrev pub NextOf : Stream → Stream → List ℕ → Result (Option Event) ReadFault → Type 0
NextOf whole rest left (Ok (Some e)) = whole ≡ with_event (shown_event e) rest
NextOf whole rest left (Ok None) = (whole ≡ ends Clean) × (left ≡ [])
NextOf whole rest left (Err (read.Fault line kind)) = whole ≡ ends (Fault line kind)
NextOf whole rest left (Err read.Read) = whole ≡ rest
NextOf whole rest left (Err read.NoMemory) = Unit {0}

-- the count of a source's faults, by what a reader answers: a read fault raises it, and nothing else does
abbrev pub ReaderCount : {T : Type 0} → ℕ → ℕ → Result T ReadFault → Type 0
ReaderCount before now (Ok x) = now ≡ before
ReaderCount before now (Err read.Read) = RoseByOne before now
ReaderCount before now (Err (read.Fault line kind)) = now ≡ before
ReaderCount before now (Err read.NoMemory) = now ≡ before

-- the end of a run at a fault of its sink
abbrev pub sink_end : SinkFault → End
sink_end sink.Failed = end.Write
sink_end sink.NoMemory = end.NoMemory

-- the end of a run at a fault of the section
abbrev pub end_in_section : ReadFault → End
end_in_section (read.Fault line kind) = end.Program line kind
end_in_section read.Read = end.Read
end_in_section read.NoMemory = end.NoMemory

-- the end of a run at a fault of the events
abbrev pub end_in_stream : ReadFault → End
end_in_stream (read.Fault line kind) = end.Input line kind
end_in_stream read.Read = end.Read
end_in_stream read.NoMemory = end.NoMemory

-- an end behind which nothing more is written
abbrev pub is_stopped : End → Bool
is_stopped end.Write = true
is_stopped end.NoMemory = true
is_stopped end.Ok = false
is_stopped end.Read = false
is_stopped (end.Program line kind) = false
is_stopped (end.Input line kind) = false
