use Rattle.std.proofs.Common.{◌+◌, ◌≤◌, ◌<◌, length, drop}
use Rattle.ax_buffer.specs.Buffer.{Buffer, total}
use Rattle.ax_context.specs.Slots.{Slots, Has}
use Rattle.ax_core.specs.declared.record.Record.{Record}
use Rattle.ax_core.specs.Callbacks.{items_for, IsHeld, IsQueued}
use Rattle.ax_core.proofs.callbacks.ask_all.Given as goal

abbrev pub invariant-loop-ask : goal.invariant-loop-ask
invariant-loop-ask l = record {
  few : Has l.contexts l.id (λ c. c.count + length (drop l.ask-index l.asks) ≤ 17);
  shard : l.shard < length l.buffer.queues;
  room : total length l.buffer.queues + length (drop l.ask-index l.asks) ≤ l.buffer.room;
  held : (u : Slots Record) → IsHeld l.contexts u l.id (length (drop l.ask-index l.asks)) → IsHeld l.fn.contexts u l.id (length l.asks);
  queued : (u : Buffer) → IsQueued l.buffer u l.shard (items_for l.id l.key (drop l.ask-index l.asks)) → IsQueued l.fn.buffer u l.shard (items_for l.id l.key l.asks);
}
