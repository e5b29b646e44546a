use Rattle.ax_core_tests.specs.Hands.{IsReady}
use Rattle.ax_core_tests.proofs.drawn.finish.Given as goal

abbrev pub invariant-loop-turn : goal.invariant-loop-turn
invariant-loop-turn g l = IsReady l.hand
