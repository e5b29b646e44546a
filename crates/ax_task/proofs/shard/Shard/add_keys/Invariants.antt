use Rattle.std.proofs.Common.{◌≡◌, ◌++◌}
use Rattle.std.specs.Map.{keys_of}
use Rattle.ax_task.proofs.shard.Shard.add_keys.Given as goal

abbrev pub invariant-loop-key : goal.invariant-loop-key
invariant-loop-key l = l.keys ++ keys_of l.key-iterator ≡ l.fn.keys ++ keys_of l.self.entries
