-- What the readers of the section and of the events pass, line by line, where the source tells its bytes.
use Rattle.std.proofs.Common.{◌≡◌, ℕ, ◌+◌, ◌≤◌, ℤ, List, [], ◌∷◌, ◌++◌, length, true, false, cond, Option, Some, None, Ok, Err, refl, sym, ap, ◌∙◌, append_assoc, arith, subst}
use Rattle.std.proofs.lemmas.Bool.{false≢true}
use Rattle.std.specs.Io.KnownBytes.{Consumes}
use Rattle.ax_base.specs.Outside.{Told}
use Rattle.ax_base.specs.Lines.{no_feed}
use Rattle.ax_base.specs.Pieces.{Piece, Whole, pieces_of}
use Rattle.ax_base.specs.Reader.{Reader}
use Rattle.ax_base.specs.Given.{ahead, Gives, ReadsMore}
use Rattle.ax_base.specs.declared.lines.Line.{Line}
use Rattle.ax_base.specs.declared.lines.LineFault.TheVariants as fault
use Rattle.ax_base.proofs.OutsideLemmas.{Told-trans, Told-map}
use Rattle.ax_input.specs.Events.{EventRead, Good, event_of, is_skipped}
use Rattle.ax_input.specs.Shown.{shown_event}
use Rattle.ax_input.specs.declared.event.Event.{Event as CodeEvent}
use Rattle.ax_task.specs.Parse.{Stream, with_event, event_or_fault, in_order, last_after, stream_of}
use Rattle.ax_task.specs.Sections.{Section, Gathered, section_of, is_section_end, most_kept}
use Rattle.ax_task.specs.Reads.{line_fault}
use Rattle.ax_task.specs.Passes.{Feed, Passed, events_at, section_at, SomePassed, NextPasses, SectionPasses}
use Rattle.ax_task.specs.declared.section.Gathered.{Gathered as CodeGathered}
use Rattle.ax_task.specs.declared.read_fault.ReadFault.{ReadFault}
use Rattle.ax_task.specs.declared.read_fault.ReadFault.TheVariants as read
use Rattle.ax_task.proofs.Feeds.{feed, Passed-none, Passed-trans, Passed-as, Passed-map, told_line, told_read, told_some}
use Rattle.ax_task.proofs.Sections.{with_front, with_front-nil, section_end, section_skip, section_keep}

-- a stretch was passed
abbrev pub Goes : {A : Type 0} → (F G : List ℕ → A) → Feed → Feed → Type 0
Goes F G old new = (w : List ℕ) × Passed F G old w new

-- at first nothing was passed
pub goes_none : {A : Type 0} (F : List ℕ → A) (l : Option (List ℕ)) (held : List ℕ) → Told l l (λ a b. Goes F F (feed held a) (feed held b))
goes_none F None held = tt
goes_none F (Some a) held = ([], Passed-none F held a held a refl)

-- one stretch behind another
pub goes_on : {A : Type 0} (F G H : List ℕ → A) (l0 l1 l2 : Option (List ℕ)) (h0 h1 h2 : List ℕ)
    → Told l0 l1 (λ a b. Goes F G (feed h0 a) (feed h1 b)) → Told l1 l2 (λ a b. Goes G H (feed h1 a) (feed h2 b)) → Told l0 l2 (λ a b. Goes F H (feed h0 a) (feed h2 b))
goes_on F G H l0 l1 l2 h0 h1 h2 x y =
    Told-trans l0 l1 l2 x y (λ a b c p q. (p.0 ++ q.0, Passed-trans F G H h0 a p.0 h1 b q.0 h2 c p.1 q.1))

-- a line was passed, by what the lines mean
pub line_goes : {A : Type 0} (f : List Piece → A) (H : List ℕ → A) (l l' : Option (List ℕ)) (old new : Reader) (line : Line)
    → ReadsMore l l' old new (Ok (Some line)) → ((x : List ℕ) → f (Whole line.text ∷ pieces_of new.limit x) ≡ H x)
    → Told l l' (λ a b. Goes (λ x. f (pieces_of old.limit x)) H (feed old.held a) (feed new.held b))
line_goes f H l l' old new line r h =
    Told-map l l' (told_line l l' old new line r) (λ a b p. (
      p.0,
      Passed-as (λ x. f (pieces_of old.limit x)) (λ x. f (Whole line.text ∷ pieces_of new.limit x)) H old.held a p.0 new.held b
          (Passed-map f (pieces_of old.limit) (λ x. Whole line.text ∷ pieces_of new.limit x) old.held a p.0 new.held b p.1) h,
    ))

-- what the reader of events makes of a line
module _ (fields : ℕ) (last : ℤ) (n : ℕ) (text : List ℕ) (rest : List Piece) where
  abbrev skips : Stream
  skips = stream_of fields last (n + 1) rest

  abbrev takes : EventRead → Stream
  takes read = event_or_fault n read (λ e. stream_of fields (last_after e last) (n + 1) rest)

  skipped : is_skipped text ≡ true → stream_of fields last n (Whole text ∷ rest) ≡ skips
  skipped e = ap (λ t. cond t skips (takes (in_order last (event_of fields text)))) e

  taken : (read : EventRead) → is_skipped text ≡ false → in_order last (event_of fields text) ≡ read → stream_of fields last n (Whole text ∷ rest) ≡ takes read
  taken read e is = ap (λ t. cond t skips (takes (in_order last (event_of fields text)))) e ∙ ap takes is

-- a skipped line
pub next_skips : (fields fields' : ℕ) (last last' : ℤ) (l l' : Option (List ℕ)) (old new : Reader) (line : Line) → ReadsMore l l' old new (Ok (Some line)) → is_skipped line.text ≡ true → new.number ≡ old.number + 1
    → fields' ≡ fields → last' ≡ last → Told l l' (λ a b. Goes (events_at fields last old) (events_at fields' last' new) (feed old.held a) (feed new.held b))
next_skips fields fields' last last' l l' old new line r e n same now =
    line_goes (stream_of fields last (old.number + 1)) (events_at fields' last' new) l l' old new line r
    (λ x. skipped fields last (old.number + 1) line.text (pieces_of new.limit x) e ∙ ap (λ k. stream_of fields last (k + 1) (pieces_of new.limit x)) (sym n)
    ∙ ap (λ v. stream_of fields v (new.number + 1) (pieces_of new.limit x)) (sym now)
    ∙ ap (λ f. stream_of f last' (new.number + 1) (pieces_of new.limit x)) (sym same))

-- a line with an event
next_takes : (fields fields' : ℕ) (last last' : ℤ) (l l' : Option (List ℕ)) (old new : Reader) (line : Line) (e : CodeEvent) → ReadsMore l l' old new (Ok (Some line)) → is_skipped line.text ≡ false
    → new.number ≡ old.number + 1 → in_order last (event_of fields line.text) ≡ Good (shown_event e) → fields' ≡ fields → last' ≡ last_after (shown_event e) last
    → Told l l' (λ a b. Goes (events_at fields last old) (λ x. with_event (shown_event e) (events_at fields' last' new x)) (feed old.held a) (feed new.held b))
next_takes fields fields' last last' l l' old new line e r s n good same now =
    line_goes (stream_of fields last (old.number + 1)) (λ x. with_event (shown_event e) (events_at fields' last' new x)) l l' old new line r
    (λ x. taken fields last (old.number + 1) line.text (pieces_of new.limit x) (Good (shown_event e)) s good
    ∙ ap (λ k. with_event (shown_event e) (stream_of fields (last_after (shown_event e) last) (k + 1) (pieces_of new.limit x))) (sym n)
    ∙ ap (λ v. with_event (shown_event e) (stream_of fields v (new.number + 1) (pieces_of new.limit x))) (sym now)
    ∙ ap (λ f. with_event (shown_event e) (stream_of f last' (new.number + 1) (pieces_of new.limit x))) (sym same))

-- the next event was read
pub next_event_passes : (fields fields' : ℕ) (last last' : ℤ) (F : List ℕ → Stream) (held0 : List ℕ) (l0 l l' : Option (List ℕ)) (old new : Reader) (line : Line) (e : CodeEvent)
    → Told l0 l (λ a b. Goes F (events_at fields last old) (feed held0 a) (feed old.held b))
    → ReadsMore l l' old new (Ok (Some line)) → is_skipped line.text ≡ false → new.number ≡ old.number + 1 → in_order last (event_of fields line.text) ≡ Good (shown_event e)
    → fields' ≡ fields → last' ≡ last_after (shown_event e) last
    → Told l0 l' (λ a b. NextPasses F (events_at fields' last' new) (feed held0 a) (feed new.held b) (Ok (Some e)))
next_event_passes fields fields' last last' F held0 l0 l l' old new line e x r s n good same now =
    goes_on F (events_at fields last old) (λ y. with_event (shown_event e) (events_at fields' last' new y)) l0 l l' held0 old.held new.held x
    (next_takes fields fields' last last' l l' old new line e r s n good same now)

module _ (F G : List ℕ → Stream) (held0 held : List ℕ) (l0 l l' : Option (List ℕ)) where
  -- bytes came of which nothing was passed
  pub some_passes : (more : List ℕ) → Told l0 l (λ a b. Goes F G (feed held0 a) (feed held b)) → Consumes l l' more
      → Told l0 l' (λ a b. SomePassed F (feed held0 a) b)
  some_passes more x came =
      Told-trans l0 l l' x (told_some G l l' held more came) (λ a b c p q.
      (G, p.0 ++ [], q.0, Passed-trans F G G held0 a p.0 held b [] q.0 c p.1 q.1))

  -- a line is no event, or memory was short for it
  pub next_err_passes : (H : List ℕ → Stream) (held' more : List ℕ) (number : ℕ) (kind : Option ℕ) (e : ReadFault) → e ≡ line_fault number kind
      → Told l0 l (λ a b. Goes F G (feed held0 a) (feed held b)) → Consumes l l' more
      → Told l0 l' (λ a b. NextPasses F H (feed held0 a) (feed held' b) (Err e))
  next_err_passes H held' more number kind e is x came =
      let P : ReadFault → Type 0 = λ f. Told l0 l' (λ a b. NextPasses F H (feed held0 a) (feed held' b) (Err f)) in
      subst P (sym is) (by_kind kind) where
        by_kind : (k : Option ℕ) → Told l0 l' (λ a b. NextPasses F H (feed held0 a) (feed held' b) (Err (line_fault number k)))
        by_kind None = some_passes more x came
        by_kind (Some k) = some_passes more x came

-- the source failed
pub next_fails : (fields : ℕ) (last : ℤ) (F : List ℕ → Stream) (held0 : List ℕ) (l0 l l' : Option (List ℕ)) (old new : Reader)
    → Told l0 l (λ a b. Goes F (events_at fields last old) (feed held0 a) (feed old.held b))
    → ReadsMore l l' old new (Err fault.Read) → new.number ≡ old.number → new.limit ≡ old.limit → no_feed new.held ≡ true
    → Told l0 l' (λ a b. NextPasses F (events_at fields last new) (feed held0 a) (feed new.held b) (Err read.Read))
next_fails fields last F held0 l0 l l' old new x r n k waits =
    Told-trans l0 l l' x (told_read (events_at fields last old) l l' old new r) (λ a b c p q. (
      p.0 ++ [],
      Passed-as F (events_at fields last old) (events_at fields last new) held0 a (p.0 ++ []) new.held c
          (Passed-trans F (events_at fields last old) (events_at fields last old) held0 a p.0 old.held b [] new.held c p.1 q)
          (λ y. ap (λ j. stream_of fields last (j + 1) (pieces_of old.limit y)) (sym n) ∙ ap (λ j. stream_of fields last (new.number + 1) (pieces_of j y)) (sym k)),
      waits,
    ))

-- so far, of the section
abbrev pub SectionGoes : List Line → ℕ → Reader → Reader → List ℕ → List ℕ → Type 0
SectionGoes lines kept first now a b = Goes (section_at 0 first) (λ x. with_front lines (section_at kept now x)) (feed first.held a) (feed now.held b)

pub section_starts : (l : Option (List ℕ)) (first : Reader) → Told l l (λ a b. SectionGoes [] 0 first first a b)
section_starts None first = tt
section_starts (Some a) first = (
  [],
  Passed-as (section_at 0 first) (section_at 0 first) (λ x. with_front [] (section_at 0 first x)) first.held a [] first.held a
      (Passed-none (section_at 0 first) first.held a first.held a refl) (λ x. with_front-nil (section_at 0 first x)),
)

section_line : (H : List ℕ → Section) (l0 l l' : Option (List ℕ)) (lines : List Line) (kept : ℕ) (first old new : Reader) (line : Line)
    → Told l0 l (λ a b. SectionGoes lines kept first old a b) → ReadsMore l l' old new (Ok (Some line))
    → ((x : List ℕ) → with_front lines (section_of (old.number + 1) kept (Whole line.text ∷ pieces_of new.limit x)) ≡ H x)
    → Told l0 l' (λ a b. Goes (section_at 0 first) H (feed first.held a) (feed new.held b))
section_line H l0 l l' lines kept first old new line x r h =
    goes_on (section_at 0 first) (λ y. with_front lines (section_at kept old y)) H l0 l l' first.held old.held new.held x
    (line_goes (λ ps. with_front lines (section_of (old.number + 1) kept ps)) H l l' old new line r h)

pub section_skips : (l0 l l' : Option (List ℕ)) (lines : List Line) (kept : ℕ) (first old new : Reader) (line : Line)
    → Told l0 l (λ a b. SectionGoes lines kept first old a b) → ReadsMore l l' old new (Ok (Some line)) → is_section_end line.text ≡ false → is_skipped line.text ≡ true → new.number ≡ old.number + 1
    → Told l0 l' (λ a b. SectionGoes lines kept first new a b)
section_skips l0 l l' lines kept first old new line x r e s n =
    section_line (λ y. with_front lines (section_at kept new y)) l0 l l' lines kept first old new line x r
    (λ y. section_skip lines (old.number + 1) kept line.text (pieces_of new.limit y) e s ∙ ap (λ k. with_front lines (section_of (k + 1) kept (pieces_of new.limit y))) (sym n))

-- a line is kept, whatever follows it
keeps_line : (lines lines' : List Line) (kept kept' n n' : ℕ) (line : Line) → is_section_end line.text ≡ false → is_skipped line.text ≡ false
    → line.number ≡ n + 1 → n' ≡ n + 1 → lines' ≡ lines ++ line ∷ [] → kept' ≡ kept + length line.text → kept' ≤ most_kept
    → (rest : List Piece) → with_front lines (section_of (n + 1) kept (Whole line.text ∷ rest)) ≡ with_front lines' (section_of (n' + 1) kept' rest)
keeps_line lines lines' kept kept' n n' line e s at next more sum few rest =
    section_keep lines (n + 1) kept line.text rest e s (omega (arith, sum, few))
    ∙ ap (λ k. with_front (lines ++ record { number = k; text = line.text } ∷ []) (section_of (n + 1 + 1) (kept + length line.text) rest)) (sym at)
    ∙ ap (λ k. with_front (lines ++ line ∷ []) (section_of (k + 1) (kept + length line.text) rest)) (sym next)
    ∙ ap (λ k. with_front (lines ++ line ∷ []) (section_of (n' + 1) k rest)) (sym sum)
    ∙ ap (λ ls. with_front ls (section_of (n' + 1) kept' rest)) (sym more)

pub section_keeps : (l0 l l' : Option (List ℕ)) (lines lines' : List Line) (kept kept' : ℕ) (first old new : Reader) (line : Line)
    → Told l0 l (λ a b. SectionGoes lines kept first old a b) → ReadsMore l l' old new (Ok (Some line)) → is_section_end line.text ≡ false → is_skipped line.text ≡ false
    → line.number ≡ old.number + 1 → new.number ≡ old.number + 1 → lines' ≡ lines ++ line ∷ [] → kept' ≡ kept + length line.text → kept' ≤ most_kept
    → Told l0 l' (λ a b. SectionGoes lines' kept' first new a b)
section_keeps l0 l l' lines lines' kept kept' first old new line x r e s at n more sum few =
    section_line (λ y. with_front lines' (section_at kept' new y)) l0 l l' lines kept first old new line x r
    (λ y. keeps_line lines lines' kept kept' old.number new.number line e s at n more sum few (pieces_of new.limit y))

pub section_kept : (l0 l l' : Option (List ℕ)) (lines lines' : List Line) (kept kept' : ℕ) (first old new : Reader) (o : Option Line) (line : Line) → o ≡ Some line
    → Told l0 l (λ a b. section_of (first.number + 1) 0 (ahead first a) ≡ with_front lines (section_of (old.number + 1) kept (ahead old b)))
    → Told l l' (λ a b. Gives (ahead old a) (ahead new b) (new.held ++ b) (Ok o)) → is_section_end line.text ≡ false → is_skipped line.text ≡ false
    → line.number ≡ old.number + 1 → new.number ≡ old.number + 1 → lines' ≡ lines ++ line ∷ [] → kept' ≡ kept + length line.text → kept' ≤ most_kept
    → Told l0 l' (λ a b. section_of (first.number + 1) 0 (ahead first a) ≡ with_front lines' (section_of (new.number + 1) kept' (ahead new b)))
section_kept l0 l l' lines lines' kept kept' first old new o line is x y e s at n more sum few =
    let P : Option Line → Type 0 = λ v. Told l l' (λ a b. Gives (ahead old a) (ahead new b) (new.held ++ b) (Ok v)) in
    Told-trans l0 l l' x (subst P is y) (λ a b d p q. p ∙ ap (λ ps. with_front lines (section_of (old.number + 1) kept ps)) q
    ∙ keeps_line lines lines' kept kept' old.number new.number line e s at n more sum few (ahead new d))

-- the section's last line
pub section_found : (l0 l l' : Option (List ℕ)) (lines : List Line) (kept : ℕ) (first old new : Reader) (line : Line) (g : CodeGathered)
    → Told l0 l (λ a b. SectionGoes lines kept first old a b) → ReadsMore l l' old new (Ok (Some line)) → is_section_end line.text ≡ true → line.number ≡ old.number + 1
    → g.lines ≡ lines → g.end.line ≡ line.number
    → Told l0 l' (λ a b. SectionPasses first new a b (Ok g))
section_found l0 l l' lines kept first old new line g x r e at same_lines same_line =
    Told-map l0 l' (section_line (λ y. Gathered g.lines g.end.line true (pieces_of new.limit y)) l0 l l' lines kept first old new line x r
    (λ y. section_end lines (old.number + 1) kept line.text (pieces_of new.limit y) e
    ∙ ap (λ k. Gathered lines k true (pieces_of new.limit y)) (sym (same_line ∙ at))
    ∙ ap (λ ls. Gathered ls g.end.line true (pieces_of new.limit y)) (sym same_lines)))
    (λ a b p. (p.0, p.1.bytes, λ f. p.1))

-- the input ended before the section did
pub section_ends : (l0 l l' : Option (List ℕ)) (lines : List Line) (kept : ℕ) (first old new : Reader) (g : CodeGathered)
    → Told l0 l (λ a b. SectionGoes lines kept first old a b) → ReadsMore l l' old new (Ok None) → g.end.found ≡ false
    → Told l0 l' (λ a b. SectionPasses first new a b (Ok g))
section_ends l0 l l' lines kept first old new g x r e =
    Told-trans l0 l l' x (at_end l l' r) (λ a b c p q. (p.0, p.1.bytes ∙ ap (λ s. p.0 ++ s) q, λ f. absurd (false≢true (sym e ∙ f)))) where
      at_end : (m m' : Option (List ℕ)) → ReadsMore m m' old new (Ok None) → Told m m' (λ a b. old.held ++ a ≡ new.held ++ b)
      at_end None m' r = tt
      at_end (Some a) None r = absurd r.1
      at_end (Some a) (Some b) r = ap (λ s. old.held ++ s) r.1 ∙ sym (append_assoc old.held r.0 b) ∙ ap (λ s. s ++ b) (r.2.0 ∙ sym r.2.1)

-- the source failed before the section ended
pub section_fails : (l0 l l' : Option (List ℕ)) (lines : List Line) (kept : ℕ) (first old new : Reader)
    → Told l0 l (λ a b. SectionGoes lines kept first old a b) → ReadsMore l l' old new (Err fault.Read) → no_feed new.held ≡ true
    → Told l0 l' (λ a b. SectionPasses first new a b (Err read.Read))
section_fails l0 l l' lines kept first old new x r waits =
    let G : List ℕ → Section = λ y. with_front lines (section_at kept old y) in
    Told-trans l0 l l' x (told_read G l l' old new r) (λ a b c p q.
    (G, p.0 ++ [], Passed-trans (section_at 0 first) G G first.held a p.0 old.held b [] new.held c p.1 q, refl, waits))

-- some bytes were taken
pub section_lacks : (l0 l l' : Option (List ℕ)) (lines : List Line) (kept : ℕ) (first old new : Reader) (more : List ℕ)
    → Told l0 l (λ a b. SectionGoes lines kept first old a b) → Consumes l l' more
    → Told l0 l' (λ a b. SectionPasses first new a b (Err read.NoMemory))
section_lacks l0 l l' lines kept first old new more x came =
    let G : List ℕ → Section = λ y. with_front lines (section_at kept old y) in
    Told-trans l0 l l' x (told_some G l l' old.held more came) (λ a b c p q.
    (p.0 ++ q.0, p.1.bytes ∙ ap (λ s. p.0 ++ s) q.1.bytes ∙ sym (append_assoc p.0 q.0 c)))
