use Rattle.std.proofs.Common.{rules}
use Rattle.ax_task.specs.Snapped.{state_at}
use Rattle.ax_task.proofs.Snapping.{snaps_more, kinds_more}
use Rattle.ax_task.proofs.engine.Engine.snaps.Goals as goal

pub loop-key-preserved : goal.loop-key-preserved
loop-key-preserved c =
    let e = c.args.self.now in (
      snaps_more c.loop-key.snaps c.push.new.self c.in_ok-snap.field-0 c.in-Some.key.now c.loop-key.key-iterator c.next.new.self c.args.keys.now.keys (state_at e) (search rules) c.loop-key.invariant.0
          c.in_ok-push.ensures.ok c.in_ok-snap.ensures.part,
      kinds_more e.shards.kinds c.loop-key.snaps c.push.new.self c.in_ok-snap.field-0 c.loop-key.invariant.1 c.in_ok-push.ensures.ok c.in_ok-snap.ensures.kinds,
    )
