use Rattle.ax_state.specs.Decls.{shown_states}
use Rattle.ax_state.specs.KeyCells.{shown_cells}
use Rattle.ax_machine.specs.Blocks.{state_lines}
use Rattle.ax_snapshot.proofs.StateLemmas.{states_step}
use Rattle.ax_snapshot.proofs.write.put_states.Goals as goal

pub loop-state-preserved : goal.loop-state-preserved
loop-state-preserved c =
    let key = c.args.key.now in
    let cells = c.args.cells.now in
    let decls = c.args.decls.now in
    states_step key cells decls c.loop-state.state _ c.index-decls-state.result c.args.block.now c.loop-state.block c.put_state.new.block (state_lines key 0 (shown_states decls) (shown_cells cells))
    c.loop-state-test.true c.index-decls-state.is c.state_at.ensures c.loop-state.invariant c.in_ok-put_state.ensures
