use Rattle.std.proofs.Common.{◌≡◌, [], replicate}
use Rattle.ax_core.proofs.rooms.no_batches.Given as goal

abbrev pub invariant-loop-shard : goal.invariant-loop-shard
invariant-loop-shard l = l.outs.items ≡ replicate l._shard []
