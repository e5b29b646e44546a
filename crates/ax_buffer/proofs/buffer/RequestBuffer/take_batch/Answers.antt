use Rattle.std.proofs.Common.{◌∙◌, arith}
use Rattle.ax_buffer.proofs.BatchLemmas.{taken, dropped}
use Rattle.ax_buffer.proofs.buffer.RequestBuffer.take_batch.Goals as goal

pub loop-preserved : goal.loop-preserved
loop-preserved c =
    let kept = c.loop.invariant in
    let first = c.take_first.ensures in
    record {
      batch = c.push_reserved.ensures.items ∙ taken c.args.self.now.queues c.args.shard c.loop.counter c.requires c.loop.self.queues kept.queues c.take_first.result _ first.first c.loop.items.items kept.batch;
      queues = dropped c.args.self.now.queues c.args.shard c.loop.counter c.requires c.loop.self.queues kept.queues c.take_first.result _ first.first c.take_first.new.self.queues first.queues;
      count = omega (arith, first.len, kept.count);
      room = first.room ∙ kept.room;
      len = omega (arith, c.push_reserved.ensures.len, kept.len);
      capacity = c.push_reserved.ensures.capacity ∙ kept.capacity;
    }
