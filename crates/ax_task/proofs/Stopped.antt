-- What was taken and written where a run stops for a fault of its source or its sink, or for want of memory.
use Rattle.std.proofs.Common.{◌≡◌, ℕ, ◌+◌, inl, inr, List, [], ◌++◌, Bool, true, false, Option, Some, None, Ok, Err, refl, sym, ap, ◌∙◌, append_assoc, subst}
use Rattle.std.proofs.lemmas.List.{append-nil}
use Rattle.ax_base.specs.Outside.{Told}
use Rattle.ax_base.specs.Lines.{no_feed}
use Rattle.ax_base.specs.Pieces.{Piece, pieces_of, whole_lines}
use Rattle.ax_base.specs.Reader.{Reader}
use Rattle.ax_base.specs.declared.lines.Line.{Line}
use Rattle.ax_base.proofs.OutsideLemmas.{Appends-none, Told-trans, Told-map}
use Rattle.ax_task.proofs.Written.{AppendsSome-none}
use Rattle.ax_text.specs.Programs.{Program}
use Rattle.ax_machine.specs.Events.{Event}
use Rattle.ax_machine.specs.Sync.{sync}
use Rattle.ax_machine.proofs.FrontLemmas.{lawful_so_far_front}
use Rattle.ax_machine.proofs.StepLemmas.{lawful_for_more}
use Rattle.ax_lang.specs.declared.program.Program.{Program as CodeProgram}
use Rattle.ax_rules.specs.declared.section.SectionEnd.{SectionEnd}
use Rattle.ax_lang.specs.Programs.{Reading, Faulty, Accepted, program_of, IsProgram}
use Rattle.ax_lang.specs.Shown.{shown_program}
use Rattle.ax_lang.proofs.AcceptedLemmas.{IsFaulty, unfinished}
use Rattle.ax_task.specs.Sections as section
use Rattle.ax_task.specs.Sections.{Section, Gathered, section_of, IsUnfinished}
use Rattle.ax_task.specs.Parse.{Stream, Clean, ends, Parsed, BadProgram, Runs, of_reading, of_section, behind, first_last, most_bytes, section_in, parse}
use Rattle.ax_task.specs.Reads.{end_in_section}
use Rattle.ax_task.specs.Passes.{MayFollow, Passed, events_at, section_at, feed_of, SectionPasses, in_front, Taken, Took, Wrote}
use Rattle.ax_task.specs.Clause.{Holds, WritesLawful, WritesPart, OfTaken, AtRead, AtWrite, AtNoMemory, Stops}
use Rattle.ax_task.specs.declared.section.Gathered.{Gathered as CodeGathered}
use Rattle.ax_task.specs.declared.end.End.{End}
use Rattle.ax_task.specs.declared.end.End.TheVariants as end
use Rattle.ax_task.specs.declared.read_fault.ReadFault.{ReadFault}
use Rattle.ax_task.specs.declared.read_fault.ReadFault.TheVariants as read
use Rattle.ax_task.proofs.Feeds.{feed, front_nil, back_nil, none_whole, Passed-trans, Passed-as, Passed-map}
use Rattle.ax_task.proofs.Progress.{holds}
use Rattle.ax_task.proofs.Whole.{parsed}

-- what the whole lines mean that were taken
of_taken : {A : Type 0} (F G : List ℕ → A) (a w rest b : List ℕ) (P : List ℕ → Type 0) → Passed F G (feed [] a) w (feed rest b)
    → ((lines v : List ℕ) → F lines ≡ G v → (no_feed rest ≡ true → v ≡ []) → P lines)
    → OfTaken a b P
of_taken F G a w rest b P p h = by_end p.ended where
  by_end : MayFollow w (rest ++ b) → OfTaken a b P
  by_end (inl f) = (
    w ++ rest,
    w ++ whole_lines rest,
    p.bytes ∙ sym (append_assoc w rest b),
    inl (sym (f rest)),
    h (w ++ whole_lines rest) (whole_lines rest) (p.same (whole_lines rest) (inl f)) (none_whole rest),
  )
  by_end (inr n) = (
    w ++ rest,
    w ++ rest,
    p.bytes ∙ sym (append_assoc w rest b),
    inr (refl, back_nil rest b n),
    h (w ++ rest) rest (p.same rest (inr (front_nil rest b n))) (λ e. front_nil rest b n),
  )

module _ (m : ℕ) (serial : Bool) where
  -- where nothing was written, it is a part of any text
  nothing_written : (h : Option (List ℕ)) (s : Parsed) → AtNoMemory m serial (holds h h) s
  nothing_written h (BadProgram line kind) = Appends-none h
  nothing_written h (Runs p s) = ([], lawful_so_far_front serial [] (sync m p s.events).entries, AppendsSome-none h [])

  pub stop_taken : (a b taken : List ℕ) (h : Option (List ℕ)) → a ≡ taken ++ b → OfTaken a b (λ lines. AtNoMemory m serial (holds h h) (parse lines))
  stop_taken a b taken h e = (taken, whole_lines taken, e, inl refl, nothing_written h (parse (whole_lines taken)))

  -- before anything was read
  pub stop_start : (l h : Option (List ℕ)) → Told l l (λ a b. Stops m serial (holds h h) a b end.NoMemory)
  stop_start None h = tt
  stop_start (Some a) h = stop_taken a a [] h refl

abbrev fresh : Reader
fresh = record { held = []; limit = most_bytes; number = 0; failed = false }

module _ (m : ℕ) (serial : Bool) (h : Option (List ℕ)) where
  faulty_wrote : (s : Section) (r : Reading) (n : ℕ) (ps : List Piece) → IsFaulty r → IsUnfinished s → AtRead m serial (holds h h) s (of_reading r n ps)
  faulty_wrote s (Faulty line kind) n ps f u = (u, Appends-none h)
  faulty_wrote s (Accepted p) n ps f u = absurd f

  section_wrote : (s : Section) → IsUnfinished s → AtRead m serial (holds h h) s (of_section s)
  section_wrote (section.Faulty line kind) f = absurd f
  section_wrote (section.Gathered lines line found rest) f =
      faulty_wrote (section.Gathered lines line found rest) (program_of lines (record { line = line; found = found })) (behind line found) rest (unfinished lines (record { line = line; found = found }) f) f

  -- the reader of the section stopped
  section_stop : (r : Reader) (a b : List ℕ) (f : ReadFault) → SectionPasses fresh r a b (Err f) → Stops m serial (holds h h) a b (end_in_section f)
  section_stop r a b read.Read s =
      of_taken section_in s.0 a s.1 r.held b (λ lines. AtRead m serial (holds h h) (section_in lines) (parse lines)) s.2
      (λ lines v is n. section_wrote (section_in lines) (subst IsUnfinished (sym (is ∙ ap s.0 (n s.4))) s.3))
  section_stop r a b read.NoMemory s = stop_taken m serial a b s.0 h s.1
  section_stop r a b (read.Fault line kind) s = tt

  pub stop_section : (l0 l1 : Option (List ℕ)) (r r' : Reader) (f : ReadFault) → r ≡ fresh
      → Told l0 l1 (λ a b. SectionPasses r r' a b (Err f)) → Told l0 l1 (λ a b. Stops m serial (holds h h) a b (end_in_section f))
  stop_section l0 l1 r r' f is x =
      Told-map l0 l1 x (λ a b s. let P : Reader → Type 0 = λ q. SectionPasses q r' a b (Err f) in section_stop r' a b f (subst P is s))

  -- memory was short for the program
  pub stop_program : (l0 l1 : Option (List ℕ)) (r r' : Reader) (g : CodeGathered) → r ≡ fresh
      → Told l0 l1 (λ a b. SectionPasses r r' a b (Ok g)) → Told l0 l1 (λ a b. Stops m serial (holds h h) a b end.NoMemory)
  stop_program l0 l1 r r' g is x =
      Told-map l0 l1 x (λ a b s. stop_taken m serial a b (s.0 ++ r'.held) h (ap (λ (q : Reader). q.held ++ a) (sym is) ∙ s.1 ∙ sym (append_assoc s.0 r'.held b)))

-- the program's section was passed
accepted_found : (lines : List Line) (e : SectionEnd) (p : CodeProgram) → IsProgram (program_of lines e) p → e.found ≡ true
accepted_found lines e p h = by_found e.found refl where
  by_reading : (r : Reading) → IsFaulty r → IsProgram r p → ⊥
  by_reading (Faulty line kind) f i = i
  by_reading (Accepted q) f i = f

  by_found : (b : Bool) → e.found ≡ b → b ≡ true
  by_found true f = refl
  by_found false f = absurd (by_reading (program_of lines e) (unfinished lines e f) h)

program_passed : (r : Reader) (g : CodeGathered) (p : CodeProgram) (a b : List ℕ) (s : SectionPasses fresh r a b (Ok g)) → IsProgram (program_of g.lines g.end) p → behind g.end.line g.end.found ≡ r.number + 1
    → Passed parse (λ x. Runs (shown_program p) (events_at (shown_program p).fields first_last r x)) (feed [] a) s.0 (feed r.held b)
program_passed r g p a b s is follows =
    let found : g.end.found ≡ true = accepted_found g.lines g.end p is in
    Passed-as parse (λ x. of_section (Gathered g.lines g.end.line true (pieces_of r.limit x))) (λ x. Runs (shown_program p) (events_at (shown_program p).fields first_last r x)) [] a s.0 r.held b
    (Passed-map of_section (section_at 0 fresh) (λ x. Gathered g.lines g.end.line true (pieces_of r.limit x)) [] a s.0 r.held b (s.2 found))
    (λ x. parsed (Gathered g.lines g.end.line true (pieces_of r.limit x)) g.lines g.end (pieces_of r.limit x) p (r.number + 1)
    (ap (λ t. Gathered g.lines g.end.line t (pieces_of r.limit x)) (sym found)) is follows)

module _ (m : ℕ) (serial : Bool) (out : Holds) (p : Program) (F : List ℕ → Stream) (held a w b c : List ℕ) (done : List Event) where
  events_passed : Passed parse (λ x. Runs p (F x)) (feed [] a) w (feed held b) → (t : Taken done F (feed held b) c)
      → Passed parse (λ x. Runs p (in_front done (t.behind x))) (feed [] a) (w ++ t.w) (feed t.rest c)
  events_passed s t =
      Passed-trans parse (λ x. Runs p (F x)) (λ x. Runs p (in_front done (t.behind x))) [] a w held b t.w t.rest c s
      (Passed-map (Runs p) F (λ x. in_front done (t.behind x)) held b t.w t.rest c t.passed)

  -- a part of what is written of the events that were taken is one of what is written of all
  some_of_all : (s : Stream) → WritesPart m serial p done out → WritesPart m serial p (in_front done s).events out
  some_of_all s part = (part.0, lawful_for_more m serial p done s.events part.0 part.1, part.2)

  part_stop : (At : Parsed → Type 0) → ((s : Stream) → WritesPart m serial p s.events out → At (Runs p s))
      → Passed parse (λ x. Runs p (F x)) (feed [] a) w (feed held b) → Taken done F (feed held b) c → WritesPart m serial p done out
      → OfTaken a c (λ lines. At (parse lines))
  part_stop At at s t part =
      of_taken parse (λ x. Runs p (in_front done (t.behind x))) a (w ++ t.w) t.rest c (λ lines. At (parse lines)) (events_passed s t)
      (λ lines v is n. subst At (sym is) (at (in_front done (t.behind v)) (some_of_all (t.behind v) part)))

  events_stop : (e : End) → Passed parse (λ x. Runs p (F x)) (feed [] a) w (feed held b)
      → Took done F (feed held b) c e → Wrote m serial p done out e → Stops m serial out a c e
  events_stop end.Read s t wrote =
      of_taken parse (λ x. Runs p (in_front done (t.0.behind x))) a (w ++ t.0.w) t.0.rest c (λ lines. AtRead m serial out (section_in lines) (parse lines)) (events_passed s t.0)
      (λ lines v is n.
      let none : in_front done (t.0.behind v) ≡ in_front done (ends Clean) = ap (in_front done) (ap t.0.behind (n t.2) ∙ t.1) in
      let events : (in_front done (t.0.behind v)).events ≡ done = ap (λ (q : Stream). q.events) none ∙ append-nil done in
      let clean : (in_front done (t.0.behind v)).ending ≡ Clean = ap (λ (q : Stream). q.ending) none in
      let P : List Event → Type 0 = λ es. WritesLawful m serial p es out in
      let Q : Parsed → Type 0 = AtRead m serial out (section_in lines) in
      subst Q (sym is) (clean, subst P (sym events) wrote))
  events_stop end.Write s t wrote = part_stop (AtWrite m serial out) (λ q part. part) s t wrote
  events_stop end.NoMemory s t wrote = part_stop (AtNoMemory m serial out) (λ q part. part) s t wrote
  events_stop end.Ok s t wrote = tt
  events_stop (end.Input line kind) s t wrote = tt
  events_stop (end.Program line kind) s t wrote = tt

-- a whole run
pub stop_events : (m : ℕ) (serial : Bool) (out : Holds) (l0 l1 l2 : Option (List ℕ)) (r r' : Reader) (g : CodeGathered) (p : CodeProgram) (done : List Event) (e : End) → r ≡ fresh
    → Told l0 l1 (λ a b. SectionPasses r r' a b (Ok g)) → IsProgram (program_of g.lines g.end) p → behind g.end.line g.end.found ≡ r'.number + 1
    → Told l1 l2 (λ a b. Took done (events_at (shown_program p).fields first_last r') (feed_of r' a) b e) → Wrote m serial (shown_program p) done out e
    → Told l0 l2 (λ a b. Stops m serial out a b e)
stop_events m serial out l0 l1 l2 r r' g p done e is x reads follows y wrote =
    Told-trans l0 l1 l2 x y (λ a b c s t.
    let P : Reader → Type 0 = λ q. SectionPasses q r' a b (Ok g) in
    let passes : SectionPasses fresh r' a b (Ok g) = subst P is s in
    events_stop m serial out (shown_program p) (events_at (shown_program p).fields first_last r') r'.held a passes.0 b c done e (program_passed r' g p a b passes reads follows) t wrote)
