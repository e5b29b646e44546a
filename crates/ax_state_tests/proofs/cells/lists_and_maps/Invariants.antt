use Rattle.std.proofs.Common.{◌≡◌}
use Rattle.ax_state.specs.Decls.{kinds}
use Rattle.ax_state.specs.KeyCells.{cell_kinds}
use Rattle.ax_state_tests.proofs.cells.lists_and_maps.Given as goal

abbrev pub invariant-loop-line : goal.invariant-loop-line
invariant-loop-line g l = record {
  next : (goal.iterator-loop-line g).can_next l.line-iterator;
  ends : (goal.iterator-loop-line g).is_finite l.line-iterator;
  kinds : cell_kinds l.cells ≡ kinds l.decls-inside.items.items;
}
