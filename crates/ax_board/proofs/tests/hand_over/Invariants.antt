use Rattle.std.proofs.Common.{◌≡◌}
use Rattle.ax_board.specs.Words.{task_table}
use Rattle.ax_board.proofs.tests.hand_over.Given as goal

abbrev pub invariant-loop : goal.invariant-loop
invariant-loop g l =
    (goal.iterator-loop g).can_next l.iterator' × (goal.iterator-loop g).is_finite l.iterator' × (task_table l.task ≡ task_table l.initial.task)
