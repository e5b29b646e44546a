use Rattle.ax_core_tests.specs.Hands.{IsReady}
use Rattle.ax_core_tests.proofs.calls.mails.Given as goal

abbrev pub invariant-loop-n : goal.invariant-loop-n
invariant-loop-n g l = IsReady l.hand
