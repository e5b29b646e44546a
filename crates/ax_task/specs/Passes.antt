-- Which bytes the readers of the section and of the events have passed, and what a run that stops early has taken.
use Rattle.std.specs.Prelude.{◌≡◌, ℕ, ◌+◌, ℤ, List, [], ◌++◌, ◌⊎◌, Bool, true, Option, Some, None, Result, Ok, Err}
use Rattle.std.specs.Io.KnownBytes.{append_known}
use Rattle.ax_base.specs.Lines.{no_feed}
use Rattle.ax_base.specs.Pieces.{pieces_of, whole_lines}
use Rattle.ax_base.specs.Reader.{Reader}
use Rattle.ax_text.specs.Programs.{Program}
use Rattle.ax_machine.specs.Events.{Event}
use Rattle.ax_input.specs.Shown.{shown_event}
use Rattle.ax_input.specs.declared.event.Event.{Event as CodeEvent}
use Rattle.ax_task.specs.Sections.{Section, section_of, IsUnfinished}
use Rattle.ax_task.specs.Sections as section
use Rattle.ax_task.specs.Parse.{Stream, Clean, ends, with_event, stream_of}
use Rattle.ax_task.specs.Clause.{Holds, WritesLawful, WritesPart}
use Rattle.ax_task.specs.declared.section.Gathered.{Gathered}
use Rattle.ax_task.specs.declared.end.End.{End}
use Rattle.ax_task.specs.declared.end.End.TheVariants as end
use Rattle.ax_task.specs.declared.read_fault.ReadFault.{ReadFault}
use Rattle.ax_task.specs.declared.read_fault.ReadFault.TheVariants as fault

-- whatever follows these bytes, its whole lines stand behind them: they are whole lines themselves
abbrev pub IsFed : List ℕ → Type 0
IsFed w = (more : List ℕ) → whole_lines (w ++ more) ≡ w ++ whole_lines more

-- what may follow these bytes; nothing, where the end of the input ended their last line
abbrev pub MayFollow : List ℕ → List ℕ → Type 0
MayFollow w more = IsFed w ⊎ (more ≡ [])

-- bytes to come: those that a reader of lines holds, and those that its source has left
pub record Feed : Type 0 where
  pub held : List ℕ
  pub left : List ℕ

abbrev pub to_come : Feed → List ℕ
to_come feed = feed.held ++ feed.left

-- what is to come for a reader whose source has these bytes left
abbrev pub feed_of : Reader → List ℕ → Feed
feed_of r left = record { held = r.held; left = left }

-- the bytes `w` were passed of those to come; `F` is what bytes meant to the reader before, and `G` what they mean behind `w`
pub record Passed {A : Type 0} (F G : List ℕ → A) (old : Feed) (w : List ℕ) (new : Feed) : Type 0 where
  pub bytes : to_come old ≡ w ++ to_come new
  pub ended : MayFollow w (to_come new)
  pub same : (more : List ℕ) → MayFollow w more → F (w ++ more) ≡ G more

-- the events that bytes are to a reader, where a row has so many values and `last` is the greatest ID of the barriers before
abbrev pub events_at : ℕ → ℤ → Reader → List ℕ → Stream
events_at fields last r bytes = stream_of fields last (r.number + 1) (pieces_of r.limit bytes)

-- the section that bytes are to a reader
abbrev pub section_at : ℕ → Reader → List ℕ → Section
section_at kept r bytes = section_of (r.number + 1) kept (pieces_of r.limit bytes)

-- some bytes were passed, and of those behind them some were read; `left` is what the source still has
abbrev pub SomePassed : (List ℕ → Stream) → Feed → List ℕ → Type 0
SomePassed F old left = (H : List ℕ → Stream) × (w rest : List ℕ) × Passed F H old w (record { held = rest; left = left })

-- what the reader of events has passed; `F` is what bytes meant to it before, and `G` what they mean now
abbrev pub NextPasses : (List ℕ → Stream) → (List ℕ → Stream) → Feed → Feed → Result (Option CodeEvent) ReadFault → Type 0
NextPasses F G old new (Ok (Some e)) = (w : List ℕ) × Passed F (λ x. with_event (shown_event e) (G x)) old w new
NextPasses F G old new (Ok None) = SomePassed F old new.left
NextPasses F G old new (Err fault.Read) = (w : List ℕ) × Passed F G old w new × (no_feed new.held ≡ true)
NextPasses F G old new (Err fault.NoMemory) = SomePassed F old new.left
NextPasses F G old new (Err (fault.Fault line kind)) = SomePassed F old new.left

-- what the reader of the section has passed
abbrev pub SectionPasses : Reader → Reader → List ℕ → List ℕ → Result Gathered ReadFault → Type 0
SectionPasses old new left left' (Ok g) = (w : List ℕ) × (old.held ++ left ≡ w ++ (new.held ++ left'))
    × (g.end.found ≡ true → Passed (section_at 0 old) (λ x. section.Gathered g.lines g.end.line true (pieces_of new.limit x)) (feed_of old left) w (feed_of new left'))
SectionPasses old new left left' (Err fault.Read) = (G : List ℕ → Section) × (w : List ℕ) × Passed (section_at 0 old) G (feed_of old left) w (feed_of new left') × IsUnfinished (G []) × (no_feed new.held ≡ true)
SectionPasses old new left left' (Err fault.NoMemory) = (rest : List ℕ) × (old.held ++ left ≡ rest ++ left')
SectionPasses old new left left' (Err (fault.Fault line kind)) = Unit {0}

-- events in front of a stream
abbrev pub in_front : List Event → Stream → Stream
in_front done s = record { events = done ++ s.events; ending = s.ending }

-- these events were taken, and of the bytes behind theirs some were read
pub record Taken (done : List Event) (F : List ℕ → Stream) (old : Feed) (left : List ℕ) : Type 0 where
  pub w : List ℕ
  pub rest : List ℕ
  pub behind : List ℕ → Stream
  pub passed : Passed F (λ x. in_front done (behind x)) old w (record { held = rest; left = left })

-- at a read fault they are the events of all whole lines that were read
abbrev pub Took : List Event → (List ℕ → Stream) → Feed → List ℕ → End → Type 0
Took done F old left end.Read = (t : Taken done F old left) × (t.behind [] ≡ ends Clean) × (no_feed t.rest ≡ true)
Took done F old left end.Ok = Taken done F old left
Took done F old left end.Write = Taken done F old left
Took done F old left end.NoMemory = Taken done F old left
Took done F old left (end.Input line kind) = Taken done F old left
Took done F old left (end.Program line kind) = Taken done F old left

-- what was written of the events that were taken, by the end
abbrev pub Wrote : ℕ → Bool → Program → List Event → Holds → End → Type 0
Wrote m serial p done out end.Ok = WritesLawful m serial p done out
Wrote m serial p done out (end.Input line kind) = WritesLawful m serial p done out
Wrote m serial p done out end.Read = WritesLawful m serial p done out
Wrote m serial p done out end.Write = WritesPart m serial p done out
Wrote m serial p done out end.NoMemory = WritesPart m serial p done out
Wrote m serial p done out (end.Program line kind) = ⊥

-- what a sink held before and holds now, with what is gathered for it
abbrev pub gathered : (old : Option (List ℕ)) (pending : List ℕ) (new : Option (List ℕ)) (pending' : List ℕ) → Holds
gathered old pending new pending' = record { old = append_known old pending; new = append_known new pending' }
