use Rattle.std.proofs.Common.{◌≡◌}
use Rattle.ax_task.specs.Serving.{content_of}
use Rattle.ax_task.proofs.BatchLemmas.{IsSoFar}
use Rattle.ax_task.proofs.shard.Shard.serve.Given as goal

abbrev pub invariant-loop-item : goal.invariant-loop-item
invariant-loop-item l = record {
  kinds : l.self.kinds ≡ l.fn.self.kinds;
  served : IsSoFar l.item-items (content_of l.fn.self) (content_of l.self) l.item-index l.replies;
}
