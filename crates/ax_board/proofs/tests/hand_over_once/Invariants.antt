use Rattle.std.proofs.Common.{◌≡◌}
use Rattle.ax_board.specs.Words.{task_table}
use Rattle.ax_board.proofs.tests.hand_over_once.Given as goal

abbrev pub invariant-loop-cell : goal.invariant-loop-cell
invariant-loop-cell l = task_table l.task ≡ task_table l.initial.task
