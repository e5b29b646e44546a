use Rattle.std.proofs.Common.{ℤ, List, subst}
use Rattle.ax_state.specs.Decls.{shown_states}
use Rattle.ax_state.specs.KeyCells.{shown_cells}
use Rattle.ax_machine.specs.Blocks.{state_lines, timer_lines}
use Rattle.ax_snapshot.specs.Added.{Adds}
use Rattle.ax_snapshot.proofs.AddedLemmas.{adds_both}
use Rattle.ax_snapshot.proofs.write.put_key.Goals as goal

pub returns : goal.returns
returns c =
    let snap = c.args.snap.now in
    let states = state_lines snap.key 0 (shown_states c.args.decls.now) (shown_cells snap.cells) in
    let middle = c.put_states.new.block in
    let After : List ℤ → Type 0 = λ times. Adds middle c.put_timers.new.block (timer_lines snap.key times) in
    adds_both c.args.block.now middle c.put_timers.new.block states (timer_lines snap.key snap.timers) c.in_ok-put_states.ensures
    (subst After c.as_slice.ensures c.in_ok-put_timers.ensures)
