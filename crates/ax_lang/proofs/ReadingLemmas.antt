-- Reading, one line on.
use Rattle.std.proofs.Common.{◌≡◌, ◌∙◌, ℕ, ◌+◌, ◌<◌, ◌≤◌, List, ◌∷◌, length, get_or, take, Option, Some, None, true, false, ◌&&◌, sym, ap, subst, Ok}
use Rattle.std.proofs.lemmas.List.{take_all}
use Rattle.ax_base.specs.declared.lines.Line.{Line}
use Rattle.ax_base.specs.Words.{words_of}
use Rattle.ax_syntax.specs.Shapes.{Shape}
use Rattle.ax_rules.specs.declared.kinds.FaultKind.{FaultKind}
use Rattle.ax_rules.specs.declared.kinds.FaultKind.TheVariants as fault
use Rattle.ax_rules.specs.Sections as section
use Rattle.ax_rules.specs.declared.section.SectionEnd.{SectionEnd}
use Rattle.ax_rules.specs.declared.tables.Tables.{Tables}
use Rattle.ax_rules.specs.Kinds.{kind_number}
use Rattle.ax_rules.specs.Lines.{tables_of}
use Rattle.ax_rules.specs.Sections.{shape_in, fault_at, with_line, shapes_of, is_whole, reading_of}
use Rattle.ax_rules.specs.Taking.{fault_some, behind_some}
use Rattle.ax_rules.proofs.SectionLemmas.{ReadsOn, shapes_more, fault_is, behind_is, line_taken, fault_told, whole, due}
use Rattle.ax_lang.specs.Rows.{HandlerLines, with_row, row_of, rows_of}
use Rattle.ax_lang.specs.Clean.{Clean, AreClean}
use Rattle.ax_lang.specs.Programs.{program_in, Faulty, Accepted, said_by, program_of, rows_behind, TakesLine}
use Rattle.ax_lang.proofs.AcceptedLemmas.{clean_on}
use Rattle.ax_lang.proofs.ShapeLemmas.{shape_well}

-- what is known after i lines
pub record Reads (ls : List Line) (end : SectionEnd) (i : ℕ) (t : Tables) (rows : HandlerLines) : Type 0 where
  pub on : ReadsOn ls end i t
  pub made : rows ≡ rows_of (shapes_of (take i ls))
  pub clean : Clean (shapes_of (take i ls))

-- what is said of an answer that is known
pub by_answer : (s : Option Shape) (t t' : Tables) (rows rows' : HandlerLines) (answer known : Option FaultKind) → answer ≡ known → TakesLine s t t' rows rows' (Ok answer) → TakesLine s t t' rows rows' (Ok known)
by_answer s t t' rows rows' answer known e h = subst (λ (o : Option FaultKind). TakesLine s t t' rows rows' (Ok o)) e h

rows_on : (before : List Shape) (s : Option Shape) (t' : Tables) (rows : HandlerLines) → t' ≡ tables_of (with_line s before) → rows ≡ rows_of before → rows_behind s t' rows ≡ rows_of (with_line s before)
rows_on before None t' rows e f = f
rows_on before (Some s) t' rows e f =
    ap (λ (u : Tables). with_row u.timer (row_of u s) rows) e
    ∙ ap (λ (rs : HandlerLines). with_row (tables_of (s ∷ before)).timer (row_of (tables_of (s ∷ before)) s) rs) f

-- a line is taken
pub taken : (ls : List Line) (i : ℕ) (l : Line) (end : SectionEnd) (t t' : Tables) (rows rows' : HandlerLines) → i < length ls → l ≡ get_or ls i l → Reads ls end i t rows
    → TakesLine (shape_in l) t t' rows rows' (Ok None) → Reads ls end (i + 1) t' rows'
taken ls i l end t t' rows rows' h is reads told =
    let before : List Shape = shapes_of (take i ls) in
    let k : Line = get_or ls i l in
    let s : Option Shape = shape_in k in
    let P : Line → Type 0 = λ m. (fault_some t (shape_in m) ≡ None) × (t' ≡ behind_some (shape_in m) t) × (rows' ≡ rows_behind (shape_in m) t' rows) in
    let here : P k = subst P is told in
    let none : fault_at before s ≡ None = sym (ap (λ (u : Tables). fault_some u s) reads.on.tables ∙ fault_is before s) ∙ here.0 in
    let tables : t' ≡ tables_of (with_line s before) = here.1 ∙ (ap (behind_some s) reads.on.tables ∙ behind_is before s) in
    let more : shapes_of (take (i + 1) ls) ≡ with_line s before = shapes_more ls i l h in
    record {
      on = line_taken ls i l end t t' h is reads.on (told.0, told.1);
      made = here.2 ∙ (rows_on before s t' rows tables reads.made ∙ ap rows_of (sym more));
      clean = subst Clean (sym more) (clean_on before s reads.clean (shape_well (words_of k.text)) none);
    }

-- the section has a fault
faulty : (ls : List Line) (end : SectionEnd) (line : ℕ) (k : FaultKind) → section.Faulty line k ≡ reading_of ls end → program_of ls end ≡ Faulty line (kind_number k)
unfolding program_of
faulty ls end line k e = ap (said_by (shapes_of ls)) (sym e)

-- a line has a fault
pub told : (ls : List Line) (i : ℕ) (l : Line) (end : SectionEnd) (t t' : Tables) (rows rows' : HandlerLines) (kind : FaultKind) → i < length ls → l ≡ get_or ls i l → Reads ls end i t rows
    → TakesLine (shape_in l) t t' rows rows' (Ok (Some kind)) → program_of ls end ≡ Faulty l.number (kind_number kind)
told ls i l end t t' rows rows' kind h is reads is_faulty = faulty ls end l.number kind (fault_told ls i l end t kind h is reads.on is_faulty)

-- something is due at the end
pub not_done : (ls : List Line) (i : ℕ) (end : SectionEnd) (t : Tables) (rows : HandlerLines) → length ls ≤ i → Reads ls end i t rows → (is_whole t && end.found) ≡ false → program_of ls end ≡ Faulty end.line (kind_number fault.NoEnd)
not_done ls i end t rows h reads d = faulty ls end end.line fault.NoEnd (due ls i end t h reads.on d)

-- nothing is
pub done : (ls : List Line) (i : ℕ) (end : SectionEnd) (t : Tables) (rows : HandlerLines) → length ls ≤ i → Reads ls end i t rows → (is_whole t && end.found) ≡ true → program_of ls end ≡ Accepted (program_in t rows)
unfolding program_of
done ls i end t rows h reads d =
    ap (said_by (shapes_of ls)) (sym (whole ls i end t h reads.on d))
    ∙ ap (λ (rs : HandlerLines). Accepted (program_in t rs)) (sym (reads.made ∙ ap (λ (ks : List Line). rows_of (shapes_of ks)) (take_all i ls h)))

pub are_clean : (ls : List Line) (i : ℕ) (end : SectionEnd) (t : Tables) (rows : HandlerLines) → Reads ls end i t rows → AreClean t rows
are_clean ls i end t rows reads = (shapes_of (take i ls), reads.on.tables, reads.made, reads.clean)
