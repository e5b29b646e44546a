use Rattle.std.proofs.Common.{ap, sym, ◌∙◌, map}
use Rattle.ax_board.specs.Seats.{is_home}
use Rattle.ax_board.specs.Seats.{notes_of}
use Rattle.ax_board.proofs.Tasks.{turns}
use Rattle.ax_board.proofs.Turns.{turn_nearer}
use Rattle.ax_board.proofs.seats.TaskSeat.bring.Goals as goal

pub invariant_of-self-in-loop-self-clause-task : goal.invariant_of-self-in-loop-self-clause-task
invariant_of-self-in-loop-self-clause-task g c = rw (c.turn.ensures.2, c.rotate_left.ensures.items) (turns _ _ _ c.loop-self.self.task)

pub invariant_of-self-in-loop-self-clause-flags : goal.invariant_of-self-in-loop-self-clause-flags
invariant_of-self-in-loop-self-clause-flags g c = c.loop-self.self.flags ∙ ap (λ m. map is_home (notes_of m.0)) (sym (ap (λ m. m.0) c.turn.ensures.2))

pub loop-self-smaller : goal.loop-self-smaller
loop-self-smaller g c = rw c.rotate_left.ensures.items (turn_nearer c.args.cell c.index.result.now _ c.index.ensures c.loop-self-test.true c.loop-self.invariant.0)
