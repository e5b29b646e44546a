-- A whole run, from its section and its events.
use Rattle.std.proofs.Common.{◌≡◌, ℕ, ◌+◌, inl, inr, ◌⊎◌, Bool, false, List, [], Option, Err, refl, sym, ap, ◌∙◌, subst}
use Rattle.ax_base.specs.Outside.{RoseByOne, Counts, OwnCounts, Told}
use Rattle.ax_base.proofs.OutsideLemmas.{Appends-none, Told-trans, Told-map}
use Rattle.ax_base.specs.Pieces.{Piece, pieces_of}
use Rattle.ax_base.specs.Given.{ahead}
use Rattle.ax_base.specs.Reader.{Reader}
use Rattle.ax_base.specs.declared.lines.Line.{Line}
use Rattle.ax_base.specs.declared.outside.SinkFault.{SinkFault}
use Rattle.ax_base.specs.declared.outside.SinkFault.TheVariants as sink
use Rattle.ax_input.specs.declared.event.Event.{Event as CodeEvent}
use Rattle.ax_lang.specs.declared.program.Program.{Program as CodeProgram}
use Rattle.ax_rules.specs.declared.section.SectionEnd.{SectionEnd}
use Rattle.ax_lang.specs.Programs.{Reading, Faulty, Accepted, program_of, IsProgram}
use Rattle.ax_lang.specs.Shown.{shown_program}
use Rattle.ax_task.specs.Sections.{Section, Gathered, section_of}
use Rattle.ax_task.specs.Parse.{Parsed, BadProgram, Runs, stream_of, first_last, of_reading, of_section, behind, most_bytes, section_in, parse}
use Rattle.ax_task.specs.Clause.{Holds, WritesLawful, StreamEnds, RunEnds, RunCounts, EndCounts}
use Rattle.ax_task.specs.Reads.{SectionOf, ReaderCount, sink_end, end_in_section, end_in_stream}
use Rattle.ax_task.specs.declared.section.Gathered.{Gathered as CodeGathered}
use Rattle.ax_task.specs.declared.end.End.{End}
use Rattle.ax_task.specs.declared.end.End.TheVariants as end
use Rattle.ax_task.specs.declared.read_fault.ReadFault.{ReadFault}
use Rattle.ax_task.specs.declared.read_fault.ReadFault.TheVariants as read

pub accepted : (r : Reading) (p : CodeProgram) → IsProgram r p → r ≡ Accepted (shown_program p)
accepted (Faulty line kind) p h = absurd h
accepted (Accepted q) p h = ap Accepted (sym h)

-- the section is gathered, and its program accepted
pub parsed : (s : Section) (lines : List Line) (e : SectionEnd) (rest : List Piece) (p : CodeProgram) (n : ℕ)
    → s ≡ Gathered lines e.line e.found rest → IsProgram (program_of lines e) p → behind e.line e.found ≡ n
    → of_section s ≡ Runs (shown_program p) (stream_of (shown_program p).fields first_last n rest)
parsed s lines e rest p n is reads follows =
    ap of_section is
    ∙ ap (λ r. of_reading r (behind e.line e.found) rest) (accepted (program_of lines e) p reads)
    ∙ ap (λ k. Runs (shown_program p) (stream_of (shown_program p).fields first_last k rest)) follows

pub whole_run : (m : ℕ) (serial : Bool) (out : Holds) (l0 l1 l2 : Option (List ℕ)) (r r' : Reader) (lines : List Line) (e : SectionEnd) (p : CodeProgram) (end : End)
    → r ≡ record { held = []; limit = most_bytes; number = 0; failed = false }
    → Told l0 l1 (λ a b. section_of (r.number + 1) 0 (ahead r a) ≡ Gathered lines e.line e.found (ahead r' b))
    → IsProgram (program_of lines e) p → behind e.line e.found ≡ r'.number + 1
    → Told l1 l2 (λ a b. StreamEnds (λ events. WritesLawful m serial (shown_program p) events out) (stream_of (shown_program p).fields first_last (r'.number + 1) (ahead r' a)) b end)
    → Told l0 l2 (λ a b. RunEnds m serial out (parse a) b end)
whole_run m serial out l0 l1 l2 r r' lines e p end fresh x reads follows y =
    Told-trans l0 l1 l2 x y (λ s t u is ends.
    let start : section_of 1 0 (pieces_of most_bytes s) ≡ section_of (r.number + 1) 0 (ahead r s) = sym (ap (λ (q : Reader). section_of (q.number + 1) 0 (ahead q s)) fresh) in
    let P : Parsed → Type 0 = λ w. RunEnds m serial out w u end in
    subst P (sym (parsed (section_of 1 0 (pieces_of most_bytes s)) lines e (ahead r' t) p (r'.number + 1) (start ∙ is) reads follows)) ends)

-- a run that stops says nothing of what the bytes of the input say
pub open_end : (m : ℕ) (serial : Bool) (out : Holds) (whole : Parsed) (left : List ℕ) (e : End) → (e ≡ end.Read) ⊎ (e ≡ end.NoMemory) → RunEnds m serial out whole left e
open_end m serial out whole left e (inl is) = subst (RunEnds m serial out whole left) (sym is) (at_read whole) where
  at_read : (w : Parsed) → RunEnds m serial out w left end.Read
  at_read (BadProgram line kind) = tt
  at_read (Runs p s) = tt
open_end m serial out whole left e (inr is) = subst (RunEnds m serial out whole left) (sym is) (at_short whole) where
  at_short : (w : Parsed) → RunEnds m serial out w left end.NoMemory
  at_short (BadProgram line kind) = tt
  at_short (Runs p s) = tt

-- the section has a fault, or the source failed in it
pub section_told : (m : ℕ) (serial : Bool) (h : Option (List ℕ)) (l0 l1 : Option (List ℕ)) (r r' : Reader) (f : ReadFault)
    → r ≡ record { held = []; limit = most_bytes; number = 0; failed = false }
    → Told l0 l1 (λ a b. SectionOf (section_of (r.number + 1) 0 (ahead r a)) (ahead r' b) (Err f))
    → Told l0 l1 (λ a b. RunEnds m serial (record { old = h; new = h }) (parse a) b (end_in_section f))
section_told m serial h l0 l1 r r' (read.Fault line kind) fresh x =
    Told-map l0 l1 x (λ a b is.
    let start : section_in a ≡ section_of (r.number + 1) 0 (ahead r a) = sym (ap (λ (q : Reader). section_of (q.number + 1) 0 (ahead q a)) fresh) in
    let P : Parsed → Type 0 = λ w. RunEnds m serial (record { old = h; new = h }) w b (end.Program line kind) in
    subst P (sym (ap of_section (start ∙ is))) (refl, refl, Appends-none h))
section_told m serial h l0 l1 r r' read.Read fresh x = Told-map l0 l1 x (λ a b is. open_end m serial (record { old = h; new = h }) (parse a) b end.Read (inl refl))
section_told m serial h l0 l1 r r' read.NoMemory fresh x = Told-map l0 l1 x (λ a b is. open_end m serial (record { old = h; new = h }) (parse a) b end.NoMemory (inr refl))

pub section_counts : (before now : ℕ) (writes : Counts) (f : ReadFault) → ReaderCount {T = CodeGathered} before now (Err f)
    → EndCounts (record { reads = before; writes = writes }) (record { reads = now; writes = writes }) (end_in_section f)
section_counts before now writes (read.Fault line kind) c = (c, refl)
section_counts before now writes read.Read c = (c, refl)
section_counts before now writes read.NoMemory c = (inl c, refl, inl refl)

-- the reader of events failed
pub stream_counts : (old : RunCounts) (before now : ℕ) (writes : Counts) (f : ReadFault) (e : End) → before ≡ old.reads → writes ≡ old.writes → ReaderCount {T = Option CodeEvent} before now (Err f) → e ≡ end_in_stream f
    → EndCounts old (record { reads = now; writes = writes }) e
stream_counts old before now writes f e reads same c is = subst (EndCounts old (record { reads = now; writes = writes })) (sym is) (by_fault f c) where
  by_fault : (f : ReadFault) → ReaderCount {T = Option CodeEvent} before now (Err f) → EndCounts old (record { reads = now; writes = writes }) (end_in_stream f)
  by_fault (read.Fault line kind) d = (d ∙ reads, same)
  by_fault read.Read d = let P : ℕ → Type 0 = λ n. RoseByOne n now in (subst P reads d, same)
  by_fault read.NoMemory d = (inl (d ∙ reads), ap (λ (w : Counts). w.faults) same, inl (ap (λ (w : Counts). w.short) same))

-- an event could not be written whole
pub sink_counts : (old : RunCounts) (reads : ℕ) (before now : Counts) (f : SinkFault) (e : End) → reads ≡ old.reads → before ≡ old.writes → OwnCounts {T = Unit {0}} before now (Err f) → e ≡ sink_end f
    → EndCounts old (record { reads = reads; writes = now }) e
sink_counts old reads before now f e stay same c is = subst (EndCounts old (record { reads = reads; writes = now })) (sym is) (by_fault f (subst P same c)) where
  P : Counts → Type 0
  P w = OwnCounts {T = Unit {0}} w now (Err f)

  by_fault : (f : SinkFault) → OwnCounts {T = Unit {0}} old.writes now (Err f) → EndCounts old (record { reads = reads; writes = now }) (sink_end f)
  by_fault sink.Failed d = (inl stay, d.0, d.1)
  by_fault sink.NoMemory d = (inl stay, d.0, d.1)
