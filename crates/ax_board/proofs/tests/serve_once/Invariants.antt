use Rattle.std.proofs.Common.{◌≡◌, None}
use Rattle.ax_board.specs.Words.{work_table, holds}
use Rattle.ax_board.proofs.tests.serve_once.Given as goal

abbrev pub invariant-loop-cell : goal.invariant-loop-cell
invariant-loop-cell l = (work_table l.seat ≡ work_table l.initial.seat) × (holds l.seat ≡ None)
