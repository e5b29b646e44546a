use Rattle.std.proofs.Common.{drop}
use Rattle.ax_state.specs.Decls.{shown_states}
use Rattle.ax_state.specs.KeyCells.{shown_cells}
use Rattle.ax_machine.specs.Blocks.{state_lines}
use Rattle.ax_snapshot.proofs.AddedLemmas.{GoesOn}
use Rattle.ax_snapshot.proofs.write.put_states.Given as goal

abbrev pub invariant-loop-state : goal.invariant-loop-state
invariant-loop-state l = GoesOn l.fn.block l.block (state_lines l.key 0 (shown_states l.decls) (shown_cells l.cells)) (state_lines l.key l.state (shown_states (drop l.state l.decls)) (shown_cells l.cells))
