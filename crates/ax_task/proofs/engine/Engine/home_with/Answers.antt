use Rattle.ax_task.specs.Exchanged.{IsHomeWith}
use Rattle.ax_task.proofs.Sending.{none_below}
use Rattle.ax_task.proofs.engine.Engine.home_with.Goals as goal

pub loop-shard-preserved : goal.loop-shard-preserved
loop-shard-preserved c = none_below (IsHomeWith c.args.self.now c.args.least) c.loop-shard.shard c.is_home_with.result c.loop-shard.invariant c.is_home_with.ensures.1 c.if-is_home_with.false
