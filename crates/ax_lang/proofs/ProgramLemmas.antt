-- What stands at the places of a program, and what a program is.
use Rattle.std.proofs.Common.{◌≡◌, ◌∙◌, ℕ, suc, max, ◌≤◌, ◌<◌, List, [], ◌∷◌, map, length, get_or, slice_get, refl, sym, ap, arith, true, Option, Some, None, Vec, subst, ◌⊎◌, inl, inr}
use Rattle.std.specs.List.{list_all}
use Rattle.std.proofs.lemmas.Option.{slice_get_cases}
use Rattle.std.proofs.lemmas.List.{length-map}
use Rattle.ax_text.specs.declared.vocabulary.Kind.{Kind}
use Rattle.ax_text.specs.Prints.{is_accepted}
use Rattle.ax_text.specs.Programs.{kinds_of, width, width_some, program_width, text_or_stop}
use Rattle.ax_text.specs.Rows.{HandlerLine, Body, wide, follow, all_ok, text_of}
use Rattle.ax_text.specs.Texts.{Stop}
use Rattle.ax_text.specs.Valid.{IsValid, text_fits, timer_fits}
use Rattle.ax_text.proofs.RowsAccepted.{accepted}
use Rattle.ax_text.proofs.RowWidths.{counted_width}
use Rattle.ax_state.specs.declared.decls.Decl.{Decl}
use Rattle.ax_state.specs.Decls.{kinds, state, shown_states}
use Rattle.ax_lang.specs.declared.step.Step.{Step}
use Rattle.ax_lang.specs.declared.step.HandlerLine.{HandlerLine as CodeLine}
use Rattle.std.specs.declared.alloc.Global.{Global}
use Rattle.ax_lang.specs.declared.program.Program.{Program}
use Rattle.ax_lang.specs.Forms.{form_of, text_with, top_of, shown_row}
use Rattle.ax_lang.specs.Names.{text_names, names_some, program_names}
use Rattle.ax_lang.specs.Steps.{row_fits, stmt_fits, rows_some, rows_width, text_if, text_in, texts_from, text_at, text_some, GoesOn}
use Rattle.ax_lang.specs.Shown.{shown_program, text_from, StandsAt}
use Rattle.ax_lang.proofs.FitLemmas.{text_of_fits, timer_of_fits}
use Rattle.ax_lang.proofs.StepLemmas.{step_stands, nothing_past, texts_length}

pub program_kinds : (ds : List Decl) → kinds ds ≡ kinds_of (shown_states ds)
program_kinds [] = refl
program_kinds (d ∷ ds) = ap (λ (ks : List Kind). d.kind ∷ ks) (program_kinds ds)

length_shown : (ds : List Decl) → length (shown_states ds) ≡ length ds
length_shown ds = length-map ds state

-- places

pub stands_end : (p : Program) → text_from p 0 ≡ Stop
unfolding text_from text_at
stands_end p = refl

stands_past : (p : Program) (i : ℕ) → length p.steps.items ≤ i → text_from p (suc i) ≡ Stop
unfolding text_from text_at
stands_past p i h = nothing_past (texts_from [] p.steps.items) i (let e : length (texts_from [] p.steps.items) ≡ length p.steps.items = texts_length p.steps.items [] ∙ omega arith in omega arith)

stands_here : (p : Program) (i : ℕ) (s : Step) → i < length p.steps.items → get_or p.steps.items i s ≡ s → StandsAt p (suc i) (Some s)
unfolding text_from text_at shown_program
stands_here p i s h e =
    let ss = p.steps.items in
    let r = step_stands ss [] p.fields p.locals 0 (kinds p.decls) i i s refl (omega arith) p.fits h in
    let P : Step → Type 0 = λ t. (text_in (texts_from [] ss) (suc i) ≡ text_with (text_in (texts_from [] ss)) (form_of t.stmt) t.next) × (top_of t ≤ i) × (stmt_fits p.fields p.locals (kinds p.decls) t.stmt ≡ true) in
    let q : P s = subst P e r in
    let names : p.locals ≡ max (text_names (text_in (texts_from [] ss) p.row)) (names_some (text_some ss p.timer)) = p.numbered in
    (q.0, (let low = q.1 in omega arith), subst (λ (n : ℕ). stmt_fits p.fields n (kinds_of (shown_states p.decls)) s.stmt ≡ true) names (subst (λ (ks : List Kind). stmt_fits p.fields p.locals ks s.stmt ≡ true) (program_kinds p.decls) q.2))

pub stands : (p : Program) (i : ℕ) → StandsAt p (suc i) (slice_get p.steps.items i)
stands p i = cases (slice_get_cases p.steps.items i).1 where
  cases : ((x : Step) × (i < length p.steps.items) × (slice_get p.steps.items i ≡ Some x) × (get_or p.steps.items i x ≡ x)) ⊎ ((length p.steps.items ≤ i) × (slice_get p.steps.items i ≡ None)) → StandsAt p (suc i) (slice_get p.steps.items i)
  cases (inl (x, h, g, e)) = subst (StandsAt p (suc i)) (sym g) (stands_here p i x h e)
  cases (inr (h, g)) = subst (StandsAt p (suc i)) (sym g) (stands_past p i h)

-- what both handlers are, where their lines are linked

-- the text of `on row` stays where more steps come behind
pub row_text : (rows : List CodeLine) (steps more : List Step) (place : ℕ) → text_at steps place ≡ text_of (map shown_row rows) → place ≤ length steps → GoesOn steps more → text_at more place ≡ text_of (map shown_row rows)
row_text rows steps more place e low go = go place low ∙ e

pub row_valid : (fields locals : ℕ) (ks : List Kind) (rows : List CodeLine) (more : List Step) (place : ℕ) → text_at more place ≡ text_of (map shown_row rows) → list_all (row_fits fields locals ks) (map shown_row rows) ≡ true
    → text_fits fields locals ks (text_at more place) ≡ true
row_valid fields locals ks rows more place e h = ap (text_fits fields locals ks) e ∙ text_of_fits fields locals ks (map shown_row rows) h

pub timer_valid : (locals : ℕ) (ks : List Kind) (rows : Option (Vec CodeLine Global)) (more : List Step) (place : Option ℕ) → text_some more place ≡ text_if rows → list_all (row_fits 0 locals ks) (rows_some rows) ≡ true
    → timer_fits locals ks (text_some more place) ≡ true
timer_valid locals ks rows more place e h = ap (timer_fits locals ks) e ∙ timer_of_fits locals ks rows h

pub row_apart : (rows : List CodeLine) (more : List Step) (place : ℕ) → text_at more place ≡ text_of (map shown_row rows) → all_ok (map shown_row rows) [] ≡ true → is_accepted (text_at more place) ≡ true
row_apart rows more place e h = ap is_accepted e ∙ accepted (map shown_row rows) h

pub timer_apart : (rows : Option (Vec CodeLine Global)) (more : List Step) (place : Option ℕ) → text_some more place ≡ text_if rows → all_ok (rows_some rows) [] ≡ true → is_accepted (text_or_stop (text_some more place)) ≡ true
unfolding is_accepted
timer_apart rows more place e h = ap (λ t. is_accepted (text_or_stop t)) e ∙ cases rows h where
  cases : (rs : Option (Vec CodeLine Global)) → all_ok (rows_some rs) [] ≡ true → is_accepted (text_or_stop (text_if rs)) ≡ true
  cases None k = refl
  cases (Some rs) k = accepted (map shown_row rs.items) k

row_wide : (rows : List HandlerLine) → follow rows (wide Body 0 0 ∷ []) ≡ true → rows_width rows ≡ width (text_of rows)
row_wide rows h = counted_width rows h

timer_wide : (rows : Option (Vec CodeLine Global)) → follow (rows_some rows) (wide Body 0 0 ∷ []) ≡ true → rows_width (rows_some rows) ≡ width_some (text_if rows)
timer_wide None h = refl
timer_wide (Some rows) h = counted_width (map shown_row rows.items) h

pub counted : (n : ℕ) (rows : List CodeLine) (timer : Option (Vec CodeLine Global)) (more : List Step) (place : ℕ) (due : Option ℕ) → text_at more place ≡ text_of (map shown_row rows) → text_some more due ≡ text_if timer
    → follow (map shown_row rows) (wide Body 0 0 ∷ []) ≡ true → follow (rows_some timer) (wide Body 0 0 ∷ []) ≡ true
    → n ≡ max 1 (max (rows_width (map shown_row rows)) (rows_width (rows_some timer))) → n ≡ max 1 (max (width (text_at more place)) (width_some (text_some more due)))
counted n rows timer more place due e f a b h =
    let one : rows_width (map shown_row rows) ≡ width (text_at more place) = row_wide (map shown_row rows) a ∙ sym (ap width e) in
    let two : rows_width (rows_some timer) ≡ width_some (text_some more due) = timer_wide timer b ∙ sym (ap width_some f) in
    omega arith

-- a program of the code is valid
pub program_valid : (p : Program) → IsValid (shown_program p)
unfolding shown_program
program_valid p =
    let same = program_kinds p.decls in
    let few : length p.decls ≤ 64 = p.few_states in
    record {
      fields = p.few_fields;
      states = (let e : length (shown_states p.decls) ≡ length p.decls = length_shown p.decls in omega arith);
      named = p.named;
      distinct = p.distinct;
      locals = p.locals;
      few = p.few_locals;
      row = subst (λ (ks : List Kind). text_fits p.fields p.locals ks (text_at p.steps.items p.row) ≡ true) same p.row_valid;
      timer = subst (λ (ks : List Kind). timer_fits p.locals ks (text_some p.steps.items p.timer) ≡ true) same p.timer_valid;
    }

pub row_accepted : (p : Program) → is_accepted (shown_program p).row ≡ true
unfolding shown_program
row_accepted p = p.row_apart

pub timer_accepted : (p : Program) → is_accepted (text_or_stop (shown_program p).timer) ≡ true
unfolding shown_program
timer_accepted p = p.timer_apart

pub some_wide : (p : Program) → 1 ≤ program_width (shown_program p)
some_wide p = omega arith

pub few_wide : (p : Program) → program_width (shown_program p) ≤ 16
unfolding shown_program
few_wide p = let e = p.counted in let few = p.narrow in omega arith
