use Rattle.std.proofs.Common.{◌∙◌, ap, sym, subst, All}
use Rattle.ax_state.specs.KeyCells.{cell_kinds, IsEmptyCell}
use Rattle.ax_state.specs.Decls.{kinds}
use Rattle.ax_state.proofs.CellLemmas.{cell_kinds-empty, all_empty, empty_rise}
use Rattle.ax_state.proofs.cells.KeyCells.new.Goals as goal

pub returns-clause-kinds : goal.returns-clause-kinds
returns-clause-kinds c =
    ap cell_kinds c.in_ok-empty_states.ensures ∙ cell_kinds-empty (kinds c.as_slice.result.now) ∙ ap kinds c.as_slice.ensures

pub returns-clause-empty : goal.returns-clause-empty
returns-clause-empty c = subst (All IsEmptyCell) (sym c.in_ok-empty_states.ensures) (all_empty (kinds c.as_slice.result.now))

pub invariant_of-result : goal.invariant_of-result
invariant_of-result c = empty_rise _ (kinds c.as_slice.result.now) c.in_ok-empty_states.ensures
