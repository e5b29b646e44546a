use Rattle.std.proofs.Common.{◌≡◌, ◌∙◌, ap, ℕ, OnOk, OnErr, length, Ok, Err, Result, get_or, ◌<◌, map, slice_set, ◌⊎◌, inl, inr}
use Rattle.ax_text.specs.Cells.{Cell, kind_of, serves, cell_after, state_of}
use Rattle.ax_text.specs.Rising.{MapsRise}
use Rattle.ax_state.specs.Held.{shown_cell}
use Rattle.ax_state.specs.KeyCells.{shown_cells, cell_kinds}
use Rattle.ax_state.proofs.CellLemmas.{is_there, serves_it, served_cells, served_kinds, kept_cells, held_at, served_rise}
use Rattle.ax_state.proofs.cells.KeyCells.apply.Goals as goal

on_ok : {T E P Q : Type 0} (r : Result T E) → OnOk r P → (P → Q) → OnOk r Q
on_ok (Ok x) p f = f p
on_ok (Err e) p f = tt

on_err : {T E P Q : Type 0} (r : Result T E) → OnErr r P → (P → Q) → OnErr r Q
on_err (Ok x) p f = tt
on_err (Err e) p f = f p

pub serve-requires : goal.serve-requires
serve-requires c =
    let hs = c.self.inside.held.items in
    let cells = c.args.self.now in
    let r = c.args.r.now in
    let d = c.index_mut-held.result.now in
    let low : state_of r < length cells = is_there cells r c.requires in
    let here : shown_cell d ≡ shown_cells cells (state_of r) =
    ap shown_cell (c.index_mut-held.ensures.value ∙ ap (λ (i : ℕ). get_or hs i d) c.state.ensures) ∙ held_at hs cells (state_of r) d c.self.view_is low in
    ap (λ (x : Cell). serves (kind_of x) r) here ∙ serves_it cells r c.requires

here : (c : goal.After-self-1) → shown_cell c.index_mut-held.result.now ≡ shown_cells c.args.self.now (state_of c.args.r.now)
here c =
    let hs = c.self.inside.held.items in
    let d = c.index_mut-held.result.now in
    ap shown_cell (c.index_mut-held.ensures.value ∙ ap (λ (i : ℕ). get_or hs i d) c.state.ensures)
    ∙ held_at hs c.args.self.now (state_of c.args.r.now) d c.self.view_is (is_there c.args.self.now c.args.r.now c.requires)

pub returns-clause-cells : goal.returns-clause-cells
returns-clause-cells c =
    let hs = c.self.inside.held.items in
    let cells = c.args.self.now in
    let r = c.args.r.now in
    let h = c.serve.new.self in
    on_ok c.serve.result c.serve.ensures.cell (λ e s.
    ap (λ (i : ℕ). shown_cells (map shown_cell (slice_set hs i h)) s) c.state.ensures
    ∙ served_cells hs cells r h c.self.view_is c.requires (e ∙ ap (cell_after r) (here c)) s)

pub returns-clause-kinds : goal.returns-clause-kinds
returns-clause-kinds c =
    let hs = c.self.inside.held.items in
    let cells = c.args.self.now in
    let r = c.args.r.now in
    let h = c.serve.new.self in
    ap (λ (i : ℕ). cell_kinds (map shown_cell (slice_set hs i h))) c.state.ensures
    ∙ served_kinds hs cells (state_of r) h c.self.view_is (c.serve.ensures.kind ∙ ap kind_of (here c))

pub returns-clause-err : goal.returns-clause-err
returns-clause-err c =
    let hs = c.self.inside.held.items in
    let cells = c.args.self.now in
    let r = c.args.r.now in
    let h = c.serve.new.self in
    on_err c.serve.result c.serve.ensures.err (λ e.
    ap (λ (i : ℕ). map shown_cell (slice_set hs i h)) c.state.ensures
    ∙ kept_cells hs cells r h c.self.view_is c.requires (e ∙ here c))

either : {T E P Q : Type 0} (r : Result T E) → OnOk r P → OnErr r Q → P ⊎ Q
either (Ok x) p q = inl p
either (Err e) p q = inr q

rise : (c : goal.After-self-1) → MapsRise (shown_cells (map shown_cell (slice_set c.self.inside.held.items c.state.result c.serve.new.self)))
rise c =
    served_rise c.self.inside.held.items c.args.self.now c.args.r.now c.serve.new.self c.state.result c.state.ensures c.self.view_is c.requires
    (either c.serve.result
    (on_ok c.serve.result c.serve.ensures.cell (λ e. e ∙ ap (cell_after c.args.r.now) (here c)))
    (on_err c.serve.result c.serve.ensures.err (λ e. e ∙ here c)))
    c.self.invariant

pub invariant_of-self : goal.invariant_of-self
invariant_of-self c = rise c

pub returns-clause-rising : goal.returns-clause-rising
returns-clause-rising c = rise c
