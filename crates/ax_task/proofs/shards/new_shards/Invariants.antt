use Rattle.std.proofs.Common.{◌≡◌, replicate}
use Rattle.ax_state.specs.Decls.{kinds}
use Rattle.ax_task.specs.Shards.{nothing_held}
use Rattle.ax_task.proofs.shards.new_shards.Given as goal

abbrev pub invariant-loop : goal.invariant-loop
invariant-loop l = l.shards.items ≡ replicate l.counter (nothing_held (kinds l.decls))
