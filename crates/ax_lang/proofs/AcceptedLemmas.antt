-- Accepted lines make a valid program.
use Rattle.std.proofs.Common.{◌≡◌, ℕ, ◌≤◌, List, [], ◌∷◌, map, length, max, refl, sym, subst, arith, Bool, true, false, ◌&&◌, Option, Some, None, if◌then◌else◌}
use Rattle.std.specs.List.{list_all}
use Rattle.std.proofs.lemmas.Option.{none-some}
use Rattle.std.proofs.lemmas.Bool.{true≢false}
use Rattle.std.proofs.lemmas.List.{length-map}
use Rattle.ax_base.specs.declared.lines.Line.{Line}
use Rattle.ax_base.specs.Words.{words_of}
use Rattle.ax_text.specs.declared.vocabulary.Kind.{Kind}
use Rattle.ax_text.specs.Names.{Word, is_name, are_distinct}
use Rattle.ax_text.specs.Programs.{Program, kinds_of, text_or_stop, width, width_some}
use Rattle.ax_text.specs.Prints.{is_accepted}
use Rattle.ax_text.specs.Rows.{HandlerLine, text_of, all_ok, follow}
use Rattle.ax_text.proofs.RowsAccepted.{accepted}
use Rattle.ax_text.proofs.RowWidths.{counted_width}
use Rattle.ax_text.specs.Valid.{IsValid, text_fits, timer_fits}
use Rattle.ax_syntax.specs.Shapes.{Shape}
use Rattle.ax_rules.specs.declared.kinds.FaultKind.{FaultKind}
use Rattle.ax_rules.specs.declared.kinds.FaultKind.TheVariants as fault
use Rattle.ax_rules.specs.Sections as section
use Rattle.ax_rules.specs.declared.section.SectionEnd.{SectionEnd}
use Rattle.ax_rules.specs.declared.tables.Tables.{Tables}
use Rattle.ax_rules.specs.Lines.{tables_of}
use Rattle.ax_rules.specs.Sections.{shape_in, fault_at, with_line, shapes_from, or_fault, is_whole, ended, read_from, reading_of}
use Rattle.ax_lang.specs.Rows.{HandlerLines, rows_of}
use Rattle.ax_lang.specs.Blocks.{begun, counted}
use Rattle.ax_lang.specs.Clean.{Clean}
use Rattle.ax_lang.specs.Laws.{AreApart}
use Rattle.ax_lang.proofs.BlockLemmas.{blocks_hold}
use Rattle.ax_lang.specs.Programs.{state_in, fields_or, timer_text, program_in, Reading, Faulty, Accepted, said_by, program_of}
use Rattle.ax_lang.proofs.DeclLemmas.{names_same, kinds_same}
use Rattle.ax_lang.proofs.FitLemmas.{text_of_fits}
use Rattle.ax_lang.proofs.NameLemmas.{kinds_in}
use Rattle.ax_lang.proofs.ShapeLemmas.{WellShapedIf, shape_well}
use Rattle.ax_lang.proofs.SoundLemmas.{UpToSixteen, Sound, sound_lines}

pub few_fields : (o : Option ℕ) → UpToSixteen o → fields_or o ≤ 16
few_fields None h = omega arith
few_fields (Some n) h = h

-- the program that sound tables and rows make
program_in_valid : (t : Tables) (rows : HandlerLines) → Sound t rows → IsValid (program_in t rows)
unfolding program_in
program_in_valid t rows h =
    let same = sym (kinds_same t.states) in
    let names = sym (names_same t.states) in
    let few : length t.states ≤ 64 = h.states in
    record {
      fields = few_fields t.fields h.fields;
      states = (let e : length (map state_in t.states) ≡ length t.states = length-map t.states state_in in omega arith);
      named = subst (λ (ws : List Word). list_all is_name ws ≡ true) names h.named;
      distinct = subst (λ (ws : List Word). are_distinct ws ≡ true) names h.distinct;
      locals = t.most;
      few = h.most;
      row = subst (λ (ks : List Kind). text_fits (fields_or t.fields) t.most ks (text_of rows.row) ≡ true) same (text_of_fits (fields_or t.fields) t.most (kinds_in t.states) rows.row h.row);
      timer = timer t.timer;
    }
  where
    timer : (b : Bool) → timer_fits t.most (kinds_of (map state_in t.states)) (timer_text b rows.timer) ≡ true
    timer true = subst (λ (ks : List Kind). text_fits 0 t.most ks (text_of rows.timer) ≡ true) (sym (kinds_same t.states)) (text_of_fits 0 t.most (kinds_in t.states) rows.timer h.timer)
    timer false = refl

-- one line without fault on
pub clean_on : (before : List Shape) (s : Option Shape) → Clean before → WellShapedIf s → fault_at before s ≡ None → Clean (with_line s before)
clean_on before None c w f = absurd (none-some fault.Word (sym f))
clean_on before (Some s) c w f = (w, f, c)

-- what holds of a program, if a reading is one
HoldsIf : (Program → Type 0) → Reading → Type 0
HoldsIf P (Faulty line kind) = Unit {0}
HoldsIf P (Accepted p) = P p

-- what holds of the program of whole lines without fault
HoldsOfClean : (Program → Type 0) → Type 0
HoldsOfClean P = (ls : List Shape) → Clean ls → is_whole (tables_of ls) ≡ true → P (program_in (tables_of ls) (rows_of ls))

ended_holds : (P : Program → Type 0) → HoldsOfClean P → (ls : List Shape) (end : SectionEnd) → Clean ls → HoldsIf P (said_by ls (ended ls end))
unfolding ended HoldsIf HoldsOfClean
ended_holds P h ls end c = cases (is_whole (tables_of ls)) end.found refl where
  cases : (b found : Bool) → is_whole (tables_of ls) ≡ b → HoldsIf P (said_by ls (if b && found then section.Whole (tables_of ls) else section.Faulty end.line fault.NoEnd))
  cases true true e = h ls c e
  cases true false e = tt
  cases false found e = tt

read_holds : (P : Program → Type 0) → HoldsOfClean P → (before : List Shape) (ls : List Line) (end : SectionEnd) → Clean before → HoldsIf P (said_by (shapes_from before ls) (read_from before ls end))
unfolding read_from HoldsIf
read_holds P h before [] end c = ended_holds P h before end c
read_holds P h before (l ∷ ls) end c = cases (fault_at before (shape_in l)) (λ f. read_holds P h (with_line (shape_in l) before) ls end (clean_on before (shape_in l) c (shape_well (words_of l.text)) f)) where
  more : List Shape
  more = with_line (shape_in l) before

  cases : (o : Option FaultKind) → (o ≡ None → HoldsIf P (said_by (shapes_from more ls) (read_from more ls end))) → HoldsIf P (said_by (shapes_from more ls) (or_fault o l.number (read_from more ls end)))
  cases None go = go refl
  cases (Some kind) go = tt

program_holds : (P : Program → Type 0) → HoldsOfClean P → (lines : List Line) (end : SectionEnd) (p : Program) → program_of lines end ≡ Accepted p → P p
unfolding program_of reading_of HoldsIf
program_holds P h lines end p e = subst (HoldsIf P) e (read_holds P h [] lines end tt)

clean_valid : HoldsOfClean IsValid
unfolding HoldsOfClean
clean_valid ls c w = program_in_valid (tables_of ls) (rows_of ls) (sound_lines ls c)

-- a program that lines say is valid
pub accepted_valid : (lines : List Line) (end : SectionEnd) (p : Program) → program_of lines end ≡ Accepted p → IsValid p
accepted_valid = program_holds IsValid clean_valid

timer_arms : (b : Bool) (rows : List HandlerLine) → all_ok rows [] ≡ true → is_accepted (text_or_stop (timer_text b rows)) ≡ true
unfolding is_accepted
timer_arms true rows h = accepted rows h
timer_arms false rows h = refl

timer_wide : (b : Bool) (rows : List HandlerLine) → follow rows begun ≡ true → width_some (timer_text b rows) ≤ counted rows
timer_wide true rows h = (let e : counted rows ≡ width (text_of rows) = counted_width rows h in omega arith)
timer_wide false rows h = omega arith

clean_apart : HoldsOfClean AreApart
unfolding HoldsOfClean program_in
clean_apart ls c w =
    let h = blocks_hold ls c w in
    let row : counted (rows_of ls).row ≡ width (text_of (rows_of ls).row) = counted_width (rows_of ls).row h.row_follows in
    let timer = timer_wide (tables_of ls).timer (rows_of ls).timer h.timer_follows in
    let is : (tables_of ls).widest ≡ max (counted (rows_of ls).row) (counted (rows_of ls).timer) = h.width in
    let few : (tables_of ls).widest ≤ 16 = h.narrow in
    record {
      row = accepted (rows_of ls).row h.row_ok;
      timer = timer_arms (tables_of ls).timer (rows_of ls).timer h.timer_ok;
      few = omega arith;
    }

-- in a program that lines say the arms of each `both` are silent and apart
pub accepted_apart : (lines : List Line) (end : SectionEnd) (p : Program) → program_of lines end ≡ Accepted p → AreApart p
accepted_apart = program_holds AreApart clean_apart

-- a section that did not end says no program

abbrev pub IsFaulty : Reading → Type 0
IsFaulty (Faulty line kind) = Unit {0}
IsFaulty (Accepted p) = ⊥

not_ended : (ls : List Shape) (end : SectionEnd) → end.found ≡ false → IsFaulty (said_by ls (ended ls end))
unfolding ended
not_ended ls end f = cases (is_whole (tables_of ls)) end.found f where
  cases : (b found : Bool) → found ≡ false → IsFaulty (said_by ls (if b && found then section.Whole (tables_of ls) else section.Faulty end.line fault.NoEnd))
  cases true true g = absurd (true≢false g)
  cases true false g = tt
  cases false found g = tt

unfinished_from : (before : List Shape) (ls : List Line) (end : SectionEnd) → end.found ≡ false → IsFaulty (said_by (shapes_from before ls) (read_from before ls end))
unfolding read_from
unfinished_from before [] end f = not_ended before end f
unfinished_from before (l ∷ ls) end f = cases (fault_at before (shape_in l)) (unfinished_from (with_line (shape_in l) before) ls end f) where
  more : List Shape
  more = with_line (shape_in l) before

  cases : (o : Option FaultKind) → IsFaulty (said_by (shapes_from more ls) (read_from more ls end)) → IsFaulty (said_by (shapes_from more ls) (or_fault o l.number (read_from more ls end)))
  cases None go = go
  cases (Some kind) go = tt

pub unfinished : (lines : List Line) (end : SectionEnd) → end.found ≡ false → IsFaulty (program_of lines end)
unfolding program_of reading_of
unfinished lines end f = unfinished_from [] lines end f
