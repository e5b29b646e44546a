use Rattle.std.proofs.Common.{◌≡◌}
use Rattle.ax_state.specs.Decls.{kinds}
use Rattle.ax_state.specs.KeyCells.{cell_kinds}
use Rattle.ax_state_tests.proofs.states.serves_requests.Given as goal

abbrev pub invariant-loop-request : goal.invariant-loop-request
invariant-loop-request g l = record {
  next : (goal.iterator-loop-request g).can_next l.request-iterator;
  ends : (goal.iterator-loop-request g).is_finite l.request-iterator;
  kinds : cell_kinds l.cells ≡ kinds l.decls-inside.items.items;
}
