use Rattle.std.proofs.Common.{◌≡◌, [], replicate}
use Rattle.ax_core_tests.proofs.hand.no_replies.Given as goal

abbrev pub invariant-loop-shard : goal.invariant-loop-shard
invariant-loop-shard l = l.served.items ≡ replicate l._shard []
