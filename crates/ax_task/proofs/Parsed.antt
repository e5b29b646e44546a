-- What an input says is a run, and what is written for it has its own text.
use Rattle.std.proofs.Common.{◌≡◌, ℕ, ◌+◌, ◌≤◌, ◌<◌, ◌^◌, ℤ, List, [], ◌∷◌, length, refl, sym, subst, Bool, true, false, if◌then◌else◌}
use Rattle.std.specs.List.{list_all, AllByRecursion}
use Rattle.std.proofs.lemmas.Bool.{and_from}
use Rattle.ax_base.specs.Pieces.{Piece, Whole, TooLong, TooMuch}
use Rattle.ax_text.specs.Programs.{Program}
use Rattle.ax_text.specs.Valid.{IsValid}
use Rattle.ax_machine.specs.Events.{Event}
use Rattle.ax_machine.specs.Entries.{Entry, text_of}
use Rattle.ax_machine.specs.Sync.{sync}
use Rattle.ax_machine.proofs.FrontLemmas.{whole_so_far}
use Rattle.ax_machine.proofs.LawfulLemmas.{lawful_itself}
use Rattle.ax_lang.specs.Programs.{Reading, program_of}
use Rattle.ax_lang.specs.Programs as program
use Rattle.ax_lang.proofs.AcceptedLemmas.{accepted_valid}
use Rattle.ax_input.specs.Events.{EventRead, Good, Bad, event_of, is_event, is_skipped}
use Rattle.ax_input.specs.Laws.{IsPlain}
use Rattle.ax_input.specs.PlainEntries.{IsRun, IsShort}
use Rattle.ax_input.proofs.EntryLemmas.{determined}
use Rattle.ax_input.proofs.PlainLemmas.{so_far_plain, whole_plain}
use Rattle.ax_input.proofs.ReadLemmas.{read_fits}
use Rattle.ax_task.specs.Sections.{Section, Faulty, Gathered}
use Rattle.ax_task.specs.Parse.{Stream, Parsed, BadProgram, Runs, is_late, last_after, in_order, event_or_fault, stream_of, first_last, of_reading, behind, of_section, section_in, parse}
use Rattle.ax_task.specs.Laws.{MayEndWith, MayHaveWritten, TextsTell}

-- lines spell the events of a stream
AreSpelled : Stream → Type 0
AreSpelled s = list_all is_event s.events ≡ true

-- a line and those behind it
line_spelled : (fields : ℕ) (last : ℤ) (n : ℕ) (text : List ℕ) (r : EventRead) (go : Event → Stream) → fields ≤ 16 → event_of fields text ≡ r → ((e : Event) → AreSpelled (go e)) → AreSpelled (event_or_fault n (in_order last r) go)
unfolding AreSpelled
line_spelled fields last n text (Bad kind) go few h g = refl
line_spelled fields last n text (Good e) go few h g = cases (is_late last e) where
  cases : (b : Bool) → AreSpelled (event_or_fault n (if b then Bad 5 else Good e) go)
  cases true = refl
  cases false = and_from (is_event e) (list_all is_event (go e).events) (read_fits fields text e few h) (g e)

if_spelled : (b : Bool) (s t : Stream) → AreSpelled s → AreSpelled t → AreSpelled (if b then s else t)
if_spelled true s t h g = h
if_spelled false s t h g = g

stream_spelled : (fields : ℕ) (last : ℤ) (n : ℕ) (ps : List Piece) → fields ≤ 16 → AreSpelled (stream_of fields last n ps)
unfolding AreSpelled
stream_spelled fields last n [] few = refl
stream_spelled fields last n (TooLong ∷ ps) few = refl
stream_spelled fields last n (TooMuch ∷ ps) few = refl
stream_spelled fields last n (Whole text ∷ ps) few =
    if_spelled (is_skipped text) (stream_of fields last (n + 1) ps) _ (stream_spelled fields last (n + 1) ps few)
    (line_spelled fields last n text (event_of fields text) (λ e. stream_of fields (last_after e last) (n + 1) ps) few refl (λ e. stream_spelled fields (last_after e last) (n + 1) ps few))

-- what bytes say, if it is a program and events, is a run
IsRunIf : Parsed → Type 0
IsRunIf (BadProgram line kind) = Unit {0}
IsRunIf (Runs p s) = IsRun p s.events

reading_runs : (r : Reading) (n : ℕ) (ps : List Piece) → ((p : Program) → r ≡ program.Accepted p → IsValid p) → IsRunIf (of_reading r n ps)
unfolding IsRunIf AreSpelled
reading_runs (program.Faulty line kind) n ps h = tt
reading_runs (program.Accepted p) n ps h = let v = h p refl in record { valid = v; spelled = stream_spelled p.fields first_last n ps v.fields }

section_runs : (s : Section) → IsRunIf (of_section s)
unfolding IsRunIf
section_runs (Faulty line kind) = tt
section_runs (Gathered lines end found rest) =
    reading_runs (program_of lines (record { line = end; found = found })) (behind end found) rest (accepted_valid lines (record { line = end; found = found }))

pub parsed_runs : (bytes : List ℕ) (p : Program) (s : Stream) → parse bytes ≡ Runs p s → IsRun p s.events
unfolding IsRunIf
parsed_runs bytes p s e = subst IsRunIf e (section_runs (section_in bytes))

-- the entries of what may be written for an input are spelled by lines
so_far_spelled : (m : ℕ) (serial : Bool) (r : Parsed) (written : List Entry) → IsRunIf r → MayHaveWritten m serial r written → IsShort written → AllByRecursion IsPlain written
unfolding IsRunIf
so_far_spelled m serial (BadProgram line kind) written h l short = absurd l
so_far_spelled m serial (Runs p s) written h l short = so_far_plain m serial p s.events written h l short

whole_spelled : (m : ℕ) (serial : Bool) (r : Parsed) (written : List Entry) → IsRunIf r → MayEndWith m serial r written → IsShort written → AllByRecursion IsPlain written
unfolding IsRunIf
whole_spelled m serial (BadProgram line kind) written h l short = absurd l
whole_spelled m serial (Runs p s) written h l short = whole_plain m serial p s.events written h l short

short_too : (one two : List Entry) → IsShort one → text_of one ≡ text_of two → IsShort two
short_too one two short same = subst (λ (t : List ℕ). length t < 2 ^ 63) same short

pub so_far_tell : (input other : List ℕ) → TextsTell MayHaveWritten input other
so_far_tell input other m n serial mode one two a b short same =
    determined one two (so_far_spelled m serial (parse input) one (section_runs (section_in input)) a short)
    (so_far_spelled n mode (parse other) two (section_runs (section_in other)) b (short_too one two short same)) same

pub whole_tell : (input other : List ℕ) → TextsTell MayEndWith input other
whole_tell input other m n serial mode one two a b short same =
    determined one two (whole_spelled m serial (parse input) one (section_runs (section_in input)) a short)
    (whole_spelled n mode (parse other) two (section_runs (section_in other)) b (short_too one two short same)) same

-- what the plain thread writes may be written
pub plain_whole : (m : ℕ) (serial : Bool) (bytes : List ℕ) (p : Program) (s : Stream) → parse bytes ≡ Runs p s → MayEndWith m serial (parse bytes) (sync m p s.events).entries
plain_whole m serial bytes p s e = subst (λ r. MayEndWith m serial r (sync m p s.events).entries) (sym e) (lawful_itself serial (sync m p s.events).entries)

pub plain_so_far : (m : ℕ) (serial : Bool) (bytes : List ℕ) (p : Program) (s : Stream) → parse bytes ≡ Runs p s → MayHaveWritten m serial (parse bytes) (sync m p s.events).entries
plain_so_far m serial bytes p s e =
    subst (λ r. MayHaveWritten m serial r (sync m p s.events).entries) (sym e)
    (whole_so_far serial (sync m p s.events).entries (sync m p s.events).entries (lawful_itself serial (sync m p s.events).entries))
