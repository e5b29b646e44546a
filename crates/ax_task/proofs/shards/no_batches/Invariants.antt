use Rattle.std.proofs.Common.{◌≡◌, replicate, []}
use Rattle.ax_task.proofs.shards.no_batches.Given as goal

abbrev pub invariant-loop : goal.invariant-loop
invariant-loop l = l.batches.items ≡ replicate l.counter []
