use Rattle.std.proofs.Common.{arith, List, length, subst}
use Rattle.ax_future.specs.declared.callback.Ask.{Ask}
use Rattle.ax_core.specs.Callbacks.{items_for, IsHeld, IsQueued}
use Rattle.ax_context.specs.declared.contexts.Context.{Context as Held}
use Rattle.ax_core.specs.declared.record.Record.{Record}
use Rattle.ax_core.proofs.Ends.{Asks, asks_here, several, call_waits}
use Rattle.ax_core.proofs.controller.Controller.wait_on.Goals as goal

pub release_one-requires-clause-more : goal.release_one-requires-clause-more
release_one-requires-clause-more c =
    let it : (h : Held Record) × Asks c.args.self.now c.args.id c.args.turn c.in_ok-key.key c.set_timers.new.timers c.ask_all.new.contexts c.ask_all.new.buffer h =
    asks_here c.args.self.now c.args.id c.args.turn c.in_ok-key.key c.get.result.now c.as_slice.result.now c.set_timers.new.timers c.ask_all.new.contexts c.ask_all.new.buffer c.shard_of-shard.result
    c.requires.ready.may c.get.ensures c.in_ok-key.ensures c.as_slice.ensures c.in_ok-set_timers.ensures.times c.shard_of-shard.ensures.value
    (subst (λ (xs : List Ask). IsHeld c.args.self.now.contexts c.ask_all.new.contexts c.args.id (length xs)) c.as_slice-2.ensures c.in_ok-ask_all.ensures.held)
    (subst (λ (xs : List Ask). IsQueued c.args.self.now.buffer c.ask_all.new.buffer c.shard_of-shard.result (items_for c.args.id c.in_ok-key.key xs)) c.as_slice-2.ensures c.in_ok-ask_all.ensures.queued) in
    several c.args.self.now c.args.id c.args.turn c.in_ok-key.key c.set_timers.new.timers c.ask_all.new.contexts c.ask_all.new.buffer it.0 it.1 c.ask_all.new.contexts c.requires.more

pub returns-clause-ends : goal.returns-clause-ends
returns-clause-ends c =
    let it : (h : Held Record) × Asks c.args.self.now c.args.id c.args.turn c.in_ok-key.key c.set_timers.new.timers c.ask_all.new.contexts c.ask_all.new.buffer h =
    asks_here c.args.self.now c.args.id c.args.turn c.in_ok-key.key c.get.result.now c.as_slice.result.now c.set_timers.new.timers c.ask_all.new.contexts c.ask_all.new.buffer c.shard_of-shard.result
    c.requires.ready.may c.get.ensures c.in_ok-key.ensures c.as_slice.ensures c.in_ok-set_timers.ensures.times c.shard_of-shard.ensures.value
    (subst (λ (xs : List Ask). IsHeld c.args.self.now.contexts c.ask_all.new.contexts c.args.id (length xs)) c.as_slice-2.ensures c.in_ok-ask_all.ensures.held)
    (subst (λ (xs : List Ask). IsQueued c.args.self.now.buffer c.ask_all.new.buffer c.shard_of-shard.result (items_for c.args.id c.in_ok-key.key xs)) c.as_slice-2.ensures c.in_ok-ask_all.ensures.queued) in
    call_waits c.args.self.now c.args.id c.args.turn c.in_ok-key.key c.set_timers.new.timers c.ask_all.new.contexts c.ask_all.new.buffer it.0 it.1 c.release_one.new.self
    (record {
      answer = several c.args.self.now c.args.id c.args.turn c.in_ok-key.key c.set_timers.new.timers c.ask_all.new.contexts c.ask_all.new.buffer it.0 it.1 c.ask_all.new.contexts c.requires.more;
      counted = c.release_one.ensures.counted;
      others = c.release_one.ensures.others;
      len = omega (arith, c.release_one.ensures.len);
      limit = c.release_one.ensures.limit;
      next = c.release_one.ensures.next;
    }) c.args.ran
