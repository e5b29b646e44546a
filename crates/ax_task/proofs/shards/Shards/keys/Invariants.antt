use Rattle.std.proofs.Common.{◌≡◌, ◌++◌, drop}
use Rattle.ax_task.specs.HeldKeys.{held_keys}
use Rattle.ax_task.proofs.shards.Shards.keys.Given as goal

abbrev pub invariant-loop-shard : goal.invariant-loop-shard
invariant-loop-shard l = l.keys ++ held_keys (drop l.shard-index l.shard-items) ≡ held_keys l.self.shards
