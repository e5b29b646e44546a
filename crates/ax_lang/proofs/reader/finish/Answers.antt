use Rattle.std.proofs.Common.{◌≡◌, ◌∙◌, ◌≤◌, ℕ, List, [], map, max, length, sym, ap, subst, arith, true}
use Rattle.std.specs.List.{list_all}
use Rattle.ax_text.specs.declared.vocabulary.Kind.{Kind}
use Rattle.ax_text.specs.Names.{Word, is_name, are_distinct}
use Rattle.ax_text.specs.Rows.{HandlerLine, follow, all_ok}
use Rattle.ax_state.specs.Decls.{kinds}
use Rattle.ax_rules.specs.declared.tables.DeclaredState.{DeclaredState}
use Rattle.ax_lang.specs.Forms.{shown_row}
use Rattle.ax_lang.specs.Names.{rows_names}
use Rattle.ax_lang.specs.Steps.{row_fits}
use Rattle.ax_lang.specs.Blocks.{begun, counted}
use Rattle.ax_lang.specs.Programs.{state_in, shown_handlers, fields_or}
use Rattle.ax_lang.proofs.AcceptedLemmas.{few_fields}
use Rattle.ax_lang.proofs.DeclLemmas.{decl_names, decl_kinds, decl_count}
use Rattle.ax_lang.proofs.FinishLemmas.{finished}
use Rattle.ax_lang.proofs.reader.finish.Goals as goal

pub timer_if-timer-requires : goal.timer_if-timer-requires
timer_if-timer-requires c = (finished c.args.tables (shown_handlers c.args.handlers) c.requires.clean c.requires.whole).sound.idle

pub overflow_cast-width : goal.overflow_cast-width
overflow_cast-width c =
    let low : c.args.tables.widest ≤ 16 = (finished c.args.tables (shown_handlers c.args.handlers) c.requires.clean c.requires.whole).narrow in
    let is : c.max-width.result ≡ max c.args.tables.widest 1 = c.max-width.ensures in
    omega arith

pub new-requires-clause-fields : goal.new-requires-clause-fields
new-requires-clause-fields c =
    let s = (finished c.args.tables (shown_handlers c.args.handlers) c.requires.clean c.requires.whole).sound in
    subst (λ (n : ℕ). n ≤ 16) (sym c.fields_or-fields.ensures) (few_fields c.args.tables.fields s.fields)

pub new-requires-clause-states : goal.new-requires-clause-states
new-requires-clause-states c =
    let few : length c.args.tables.states ≤ 64 = (finished c.args.tables (shown_handlers c.args.handlers) c.requires.clean c.requires.whole).sound.states in
    subst (λ (n : ℕ). n ≤ 64) (sym (decl_count c.in_ok-decls.decls c.args.tables.states (c.in_ok-decls.ensures ∙ ap (λ (ds : List DeclaredState). map state_in ds) c.as_slice.ensures))) few

pub new-requires-clause-locals : goal.new-requires-clause-locals
new-requires-clause-locals c = (finished c.args.tables (shown_handlers c.args.handlers) c.requires.clean c.requires.whole).sound.most

pub new-requires-clause-named : goal.new-requires-clause-named
new-requires-clause-named c =
    let s = (finished c.args.tables (shown_handlers c.args.handlers) c.requires.clean c.requires.whole).sound in
    subst (λ (ws : List Word). list_all is_name ws ≡ true) (sym (decl_names c.in_ok-decls.decls c.args.tables.states (c.in_ok-decls.ensures ∙ ap (λ (ds : List DeclaredState). map state_in ds) c.as_slice.ensures))) s.named

pub new-requires-clause-distinct : goal.new-requires-clause-distinct
new-requires-clause-distinct c =
    let s = (finished c.args.tables (shown_handlers c.args.handlers) c.requires.clean c.requires.whole).sound in
    subst (λ (ws : List Word). are_distinct ws ≡ true) (sym (decl_names c.in_ok-decls.decls c.args.tables.states (c.in_ok-decls.ensures ∙ ap (λ (ds : List DeclaredState). map state_in ds) c.as_slice.ensures))) s.distinct

pub new-requires-clause-row : goal.new-requires-clause-row
new-requires-clause-row c =
    let s = (finished c.args.tables (shown_handlers c.args.handlers) c.requires.clean c.requires.whole).sound in
    let rows = map shown_row c.args.handlers.row.items in
    subst (λ (n : ℕ). list_all (row_fits n c.args.tables.most (kinds c.in_ok-decls.decls)) rows ≡ true) (sym c.fields_or-fields.ensures)
    (subst (λ (ks : List Kind). list_all (row_fits (fields_or c.args.tables.fields) c.args.tables.most ks) rows ≡ true) (sym (decl_kinds c.in_ok-decls.decls c.args.tables.states (c.in_ok-decls.ensures ∙ ap (λ (ds : List DeclaredState). map state_in ds) c.as_slice.ensures))) s.row)

pub new-requires-clause-row_blocks : goal.new-requires-clause-row_blocks
new-requires-clause-row_blocks c = (finished c.args.tables (shown_handlers c.args.handlers) c.requires.clean c.requires.whole).row_follows

pub new-requires-clause-row_arms : goal.new-requires-clause-row_arms
new-requires-clause-row_arms c = (finished c.args.tables (shown_handlers c.args.handlers) c.requires.clean c.requires.whole).row_ok

pub new-requires-clause-timer : goal.new-requires-clause-timer
new-requires-clause-timer c =
    let s = (finished c.args.tables (shown_handlers c.args.handlers) c.requires.clean c.requires.whole).sound in
    subst (λ (rs : List HandlerLine). list_all (row_fits 0 c.args.tables.most (kinds c.in_ok-decls.decls)) rs ≡ true) (sym c.timer_if-timer.ensures.rows)
    (subst (λ (ks : List Kind). list_all (row_fits 0 c.args.tables.most ks) (map shown_row c.args.handlers.timer.items) ≡ true) (sym (decl_kinds c.in_ok-decls.decls c.args.tables.states (c.in_ok-decls.ensures ∙ ap (λ (ds : List DeclaredState). map state_in ds) c.as_slice.ensures))) s.timer)

pub new-requires-clause-timer_blocks : goal.new-requires-clause-timer_blocks
new-requires-clause-timer_blocks c =
    subst (λ (rs : List HandlerLine). follow rs begun ≡ true) (sym c.timer_if-timer.ensures.rows) (finished c.args.tables (shown_handlers c.args.handlers) c.requires.clean c.requires.whole).timer_follows

pub new-requires-clause-timer_arms : goal.new-requires-clause-timer_arms
new-requires-clause-timer_arms c =
    subst (λ (rs : List HandlerLine). all_ok rs [] ≡ true) (sym c.timer_if-timer.ensures.rows) (finished c.args.tables (shown_handlers c.args.handlers) c.requires.clean c.requires.whole).timer_ok

pub new-requires-clause-names : goal.new-requires-clause-names
new-requires-clause-names c =
    let s = (finished c.args.tables (shown_handlers c.args.handlers) c.requires.clean c.requires.whole).sound in
    subst (λ (rs : List HandlerLine). c.args.tables.most ≡ max (rows_names (map shown_row c.args.handlers.row.items)) (rows_names rs)) (sym c.timer_if-timer.ensures.rows) s.all

pub new-requires-clause-width : goal.new-requires-clause-width
new-requires-clause-width c =
    let f = finished c.args.tables (shown_handlers c.args.handlers) c.requires.clean c.requires.whole in
    let row : ℕ = counted (map shown_row c.args.handlers.row.items) in
    let timer : ℕ = counted (map shown_row c.args.handlers.timer.items) in
    subst (λ (rs : List HandlerLine). c.max-width.result ≡ max 1 (max row (counted rs))) (sym c.timer_if-timer.ensures.rows)
    (c.max-width.ensures ∙ (ap (λ (n : ℕ). max n 1) f.width ∙ other_way row timer))
  where
    other_way : (m n : ℕ) → max (max m n) 1 ≡ max 1 (max m n)
    other_way m n = omega arith

pub new-requires-clause-narrow : goal.new-requires-clause-narrow
new-requires-clause-narrow c =
    let low : c.args.tables.widest ≤ 16 = (finished c.args.tables (shown_handlers c.args.handlers) c.requires.clean c.requires.whole).narrow in
    let is : c.max-width.result ≡ max c.args.tables.widest 1 = c.max-width.ensures in
    omega arith
