use Rattle.std.proofs.Common.{◌≡◌, ◌+◌, length, take, drop, set, vec_len, vec_capacity}
use Rattle.ax_buffer.specs.Buffer.{queue_of, total}
use Rattle.ax_buffer.proofs.buffer.RequestBuffer.take_batch.Given as goal

abbrev pub invariant-loop : goal.invariant-loop
invariant-loop l = record {
  batch : l.items.items ≡ take l.counter (queue_of l.fn.self l.shard);
  queues : l.self.queues ≡ set l.fn.self.queues l.shard (drop l.counter (queue_of l.fn.self l.shard));
  count : total length l.self.queues + l.counter ≡ total length l.fn.self.queues;
  room : l.self.room ≡ l.fn.self.room;
  len : vec_len l.items ≡ l.counter;
  capacity : vec_capacity l.items ≡ l.many;
}
