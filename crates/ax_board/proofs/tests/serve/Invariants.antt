use Rattle.std.proofs.Common.{◌≡◌, None}
use Rattle.ax_board.specs.Words.{work_table, holds}
use Rattle.ax_board.proofs.tests.serve.Given as goal

abbrev pub invariant-loop : goal.invariant-loop
invariant-loop g l =
    (goal.iterator-loop g).can_next l.iterator' × (goal.iterator-loop g).is_finite l.iterator' × (work_table l.seat ≡ work_table l.initial.seat) × (holds l.seat ≡ None)
