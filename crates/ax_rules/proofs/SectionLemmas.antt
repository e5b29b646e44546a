-- A section, one line on.
use Rattle.std.proofs.Common.{◌≡◌, ◌∙◌, ℕ, ◌+◌, ◌<◌, ◌≤◌, List, [], ◌∷◌, ◌++◌, Option, Some, None, Bool, true, false, ◌&&◌, if◌then◌else◌, length, get_or, take, drop, refl, sym, ap, subst, Ok}
use Rattle.std.proofs.lemmas.List.{at_drop_more, take_more, drop_all}
use Rattle.ax_base.specs.declared.lines.Line.{Line}
use Rattle.ax_syntax.specs.Shapes.{Shape}
use Rattle.ax_rules.specs.declared.kinds.FaultKind.{FaultKind}
use Rattle.ax_rules.specs.declared.kinds.FaultKind.TheVariants as fault
use Rattle.ax_rules.specs.declared.tables.Tables.{Tables}
use Rattle.ax_rules.specs.declared.section.SectionEnd.{SectionEnd}
use Rattle.ax_rules.specs.Lines.{tables_of}
use Rattle.ax_rules.specs.Faults.{fault_by}
use Rattle.ax_rules.specs.Taking.{fault_some, behind_some, Steps}
use Rattle.ax_rules.specs.Sections.{Reading, Whole, Faulty, shape_in, fault_at, with_line, shapes_from, shapes_of, or_fault, is_whole, ended, read_from, reading_of}
use Rattle.ax_rules.proofs.FaultLemmas.{behind_line}

shapes_last : (ls : List Line) (before : List Shape) (l : Line) → shapes_from before (ls ++ l ∷ []) ≡ with_line (shape_in l) (shapes_from before ls)
shapes_last [] before l = refl
shapes_last (k ∷ ls) before l = shapes_last ls (with_line (shape_in k) before) l

-- the shapes of one more line
pub shapes_more : (ls : List Line) (i : ℕ) (d : Line) → i < length ls → shapes_of (take (i + 1) ls) ≡ with_line (shape_in (get_or ls i d)) (shapes_of (take i ls))
shapes_more ls i d h = ap (shapes_from []) (take_more ls i d h) ∙ shapes_last (take i ls) [] (get_or ls i d)

pub fault_is : (before : List Shape) (s : Option Shape) → fault_some (tables_of before) s ≡ fault_at before s
unfolding fault_by
fault_is before None = refl
fault_is before (Some s) = refl

pub behind_is : (before : List Shape) (s : Option Shape) → behind_some s (tables_of before) ≡ tables_of (with_line s before)
behind_is before None = refl
behind_is before (Some s) = sym (behind_line s before)

read_line : (before : List Shape) (l : Line) (ls : List Line) (end : SectionEnd) → read_from before (l ∷ ls) end ≡ or_fault (fault_at before (shape_in l)) l.number (read_from (with_line (shape_in l) before) ls end)
unfolding read_from
read_line before l ls end = refl

read_more : (ls : List Line) (i : ℕ) (d : Line) (end : SectionEnd) → i < length ls
    → read_from (shapes_of (take i ls)) (drop i ls) end ≡ or_fault (fault_at (shapes_of (take i ls)) (shape_in (get_or ls i d))) (get_or ls i d).number (read_from (shapes_of (take (i + 1) ls)) (drop (i + 1) ls) end)
read_more ls i d end h =
    let before : List Shape = shapes_of (take i ls) in
    let l : Line = get_or ls i d in
    at_drop_more (λ (rest : List Line). read_from before rest end) ls i d h
    ∙ (read_line before l (drop (i + 1) ls) end
    ∙ ap (λ (more : List Shape). or_fault (fault_at before (shape_in l)) l.number (read_from more (drop (i + 1) ls) end)) (sym (shapes_more ls i d h)))

-- the tables of the lines so far, and what the rest of the section says
pub record ReadsOn (ls : List Line) (end : SectionEnd) (i : ℕ) (t : Tables) : Type 0 where
  pub tables : t ≡ tables_of (shapes_of (take i ls))
  pub read : read_from (shapes_of (take i ls)) (drop i ls) end ≡ reading_of ls end

pub start : (ls : List Line) (end : SectionEnd) (t : Tables) → t ≡ tables_of [] → ReadsOn ls end 0 t
unfolding reading_of
start ls end t h = record { tables = h; read = refl }

-- what a line's step says of an answer that is known
pub by_answer : (s : Option Shape) (t t' : Tables) (answer known : Option FaultKind) → answer ≡ known → Steps t s t' (Ok answer) → Steps t s t' (Ok known)
by_answer s t t' answer known e h = subst (λ (o : Option FaultKind). Steps t s t' (Ok o)) e h

-- a line is taken
pub line_taken : (ls : List Line) (i : ℕ) (l : Line) (end : SectionEnd) (t t' : Tables) → i < length ls → l ≡ get_or ls i l → ReadsOn ls end i t → (fault_some t (shape_in l) ≡ None) × (t' ≡ behind_some (shape_in l) t) → ReadsOn ls end (i + 1) t'
line_taken ls i l end t t' h is on taken =
    let before : List Shape = shapes_of (take i ls) in
    let k : Line = get_or ls i l in
    let s : Option Shape = shape_in k in
    let P : Line → Type 0 = λ m. (fault_some t (shape_in m) ≡ None) × (t' ≡ behind_some (shape_in m) t) in
    let here : P k = subst P is taken in
    let none : fault_at before s ≡ None = sym (ap (λ (u : Tables). fault_some u s) on.tables ∙ fault_is before s) ∙ here.0 in
    let go : Reading = read_from (shapes_of (take (i + 1) ls)) (drop (i + 1) ls) end in
    record {
      tables = here.1 ∙ (ap (behind_some s) on.tables ∙ (behind_is before s ∙ ap tables_of (sym (shapes_more ls i l h))));
      read = sym (read_more ls i l end h ∙ ap (λ (o : Option FaultKind). or_fault o k.number go) none) ∙ on.read;
    }

-- a line's fault is the section's
pub fault_told : (ls : List Line) (i : ℕ) (l : Line) (end : SectionEnd) (t : Tables) (kind : FaultKind) → i < length ls → l ≡ get_or ls i l → ReadsOn ls end i t → fault_some t (shape_in l) ≡ Some kind → Faulty l.number kind ≡ reading_of ls end
fault_told ls i l end t kind h is on told =
    let before : List Shape = shapes_of (take i ls) in
    let k : Line = get_or ls i l in
    let s : Option Shape = shape_in k in
    let here : fault_some t s ≡ Some kind = subst (λ (m : Line). fault_some t (shape_in m) ≡ Some kind) is told in
    let some : fault_at before s ≡ Some kind = sym (ap (λ (u : Tables). fault_some u s) on.tables ∙ fault_is before s) ∙ here in
    let go : Reading = read_from (shapes_of (take (i + 1) ls)) (drop (i + 1) ls) end in
    ap (λ (m : Line). Faulty m.number kind) is
    ∙ sym (sym on.read ∙ (read_more ls i l end h ∙ ap (λ (o : Option FaultKind). or_fault o k.number go) some))

read_end : (before : List Shape) (end : SectionEnd) → read_from before [] end ≡ ended before end
unfolding read_from
read_end before end = refl

at_end : (ls : List Line) (i : ℕ) (end : SectionEnd) (t : Tables) → length ls ≤ i → ReadsOn ls end i t → reading_of ls end ≡ ended (shapes_of (take i ls)) end
at_end ls i end t h on =
    let before : List Shape = shapes_of (take i ls) in
    sym on.read ∙ (ap (λ (rest : List Line). read_from before rest end) (drop_all i ls h) ∙ read_end before end)

ended_as : (ls : List Shape) (end : SectionEnd) (t : Tables) (b : Bool) → t ≡ tables_of ls → (is_whole t && end.found) ≡ b → ended ls end ≡ (if b then Whole t else Faulty end.line fault.NoEnd)
unfolding ended
ended_as ls end t b e h =
    ap (λ (u : Tables). if is_whole u && end.found then Whole u else Faulty end.line fault.NoEnd) (sym e)
    ∙ ap (λ (c : Bool). if c then Whole t else Faulty end.line fault.NoEnd) h

pub whole : (ls : List Line) (i : ℕ) (end : SectionEnd) (t : Tables) → length ls ≤ i → ReadsOn ls end i t → (is_whole t && end.found) ≡ true → Whole t ≡ reading_of ls end
whole ls i end t h on w = sym (at_end ls i end t h on ∙ ended_as (shapes_of (take i ls)) end t true on.tables w)

pub due : (ls : List Line) (i : ℕ) (end : SectionEnd) (t : Tables) → length ls ≤ i → ReadsOn ls end i t → (is_whole t && end.found) ≡ false → Faulty end.line fault.NoEnd ≡ reading_of ls end
due ls i end t h on w = sym (at_end ls i end t h on ∙ ended_as (shapes_of (take i ls)) end t false on.tables w)
