-- What the bytes of an input say.
use Rattle.std.specs.Prelude.{ℕ, ◌+◌, ◌^◌, ℤ, pos, int_le, List, [], ◌∷◌, Bool, true, false, if◌then◌else◌}
use Rattle.ax_base.specs.Pieces.{Piece, Whole, TooLong, TooMuch, pieces_of}
use Rattle.ax_text.specs.Programs.{Program}
use Rattle.ax_machine.specs.Events.{Event, Row, Mark, Barrier}
use Rattle.ax_lang.specs.Programs.{Reading, program_of}
use Rattle.ax_lang.specs.Programs as program
use Rattle.ax_input.specs.Events.{EventRead, Good, Bad, event_of}
use Rattle.ax_input.specs.Events.{is_skipped}
use Rattle.ax_task.specs.Sections.{Section, Faulty, Gathered, section_of}

-- how the events end: at the end of the input, or at the first line with a fault
pub data Ending : Type 0 where
  Clean : Ending
  Fault : (line kind : ℕ) → Ending

-- the events behind the section, up to the first fault
pub record Stream : Type 0 where
  pub events : List Event
  pub ending : Ending

abbrev pub ends : Ending → Stream
ends ending = record { events = []; ending = ending }

abbrev pub with_event : Event → Stream → Stream
with_event e s = record { events = e ∷ s.events; ending = s.ending }

-- the greatest ID of a barrier behind an event, where it was `last` before; IDs rise
abbrev pub last_after : Event → ℤ → ℤ
last_after (Row key time values) last = last
last_after (Mark time) last = last
last_after (Barrier id) last = id

-- a barrier whose ID isn't greater than each before it
abbrev pub is_late : ℤ → Event → Bool
is_late last (Row key time values) = false
is_late last (Mark time) = false
is_late last (Barrier id) = int_le id last

-- what a line says, where `last` is the greatest ID of the barriers before it
abbrev pub in_order : ℤ → EventRead → EventRead
in_order last (Good e) = if is_late last e then Bad 5 else Good e
in_order last (Bad kind) = Bad kind

abbrev pub event_or_fault : ℕ → EventRead → (Event → Stream) → Stream
event_or_fault n (Good e) go = with_event e (go e)
event_or_fault n (Bad kind) go = ends (Fault n kind)

-- the events of these pieces, where a row has so many values, `last` is the greatest ID of the barriers before, and n is the number
-- of the next line
abbrev pub stream_of : ℕ → ℤ → ℕ → List Piece → Stream
stream_of fields last n [] = ends Clean
stream_of fields last n (TooLong ∷ ps) = ends (Fault n 6)
stream_of fields last n (TooMuch ∷ ps) = ends (Fault n 7)
stream_of fields last n (Whole text ∷ ps) =
    if is_skipped text then stream_of fields last (n + 1) ps else
    event_or_fault n (in_order last (event_of fields text)) (λ e. stream_of fields (last_after e last) (n + 1) ps)

-- the greatest ID before the first barrier: IDs are at least 1
abbrev pub first_last : ℤ
first_last = pos 0

-- a fault of the program section, or a program and its events
pub data Parsed : Type 0 where
  BadProgram : (line kind : ℕ) → Parsed
  Runs : (program : Program) → (stream : Stream) → Parsed

abbrev pub of_reading : Reading → ℕ → List Piece → Parsed
of_reading (program.Faulty line kind) n ps = BadProgram line kind
of_reading (program.Accepted p) n ps = Runs p (stream_of p.fields first_last n ps)

-- the number of the first line behind the section
abbrev pub behind : ℕ → Bool → ℕ
behind end true = end + 1
behind end false = end

abbrev pub of_section : Section → Parsed
of_section (Faulty line kind) = BadProgram line kind
of_section (Gathered lines end found rest) = of_reading (program_of lines (record { line = end; found = found })) (behind end found) rest

-- the most bytes of an input
abbrev pub most_bytes : ℕ
most_bytes = 2 ^ 40

-- the program section of the bytes of an input
abbrev pub section_in : List ℕ → Section
section_in bytes = section_of 1 0 (pieces_of most_bytes bytes)

-- what the bytes of an input say
abbrev pub parse : List ℕ → Parsed
parse bytes = of_section (section_in bytes)
