use Rattle.ax_core_tests.specs.Hands.{IsReady}
use Rattle.ax_core_tests.proofs.calls.batches.Given as goal

abbrev pub invariant-loop-shard : goal.invariant-loop-shard
invariant-loop-shard g l = IsReady l.hand
