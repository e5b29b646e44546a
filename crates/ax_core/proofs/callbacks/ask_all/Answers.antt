use Rattle.std.proofs.Common.{◌≡◌, ◌+◌, ◌≤◌, List, [], ◌∷◌, length, drop, sym, ap, ◌∙◌, subst}
use Rattle.std.proofs.lemmas.List.{drop_all, drop_more}
use Rattle.ax_future.specs.declared.callback.Ask.{Ask}
use Rattle.ax_buffer.specs.Buffer.{total}
use Rattle.ax_context.specs.Slots.{Has}
use Rattle.ax_core.specs.Callbacks.{items_for, IsHeld, IsQueued}
use Rattle.ax_core.proofs.AskLemmas.{held_next, held_none, few_behind, queued_more, queued_none, room_behind, shard_behind}
use Rattle.ax_core.proofs.callbacks.ask_all.Goals as goal

pub loop-ask-preserved : goal.loop-ask-preserved
loop-ask-preserved c =
    let asks : List Ask = c.args.asks.now in
    let rest : List Ask = drop (c.loop-ask.ask-index + 1) asks in
    let at : drop c.loop-ask.ask-index asks ≡ c.ask-item.result ∷ rest = drop_more asks c.loop-ask.ask-index c.ask-item.result c.loop-ask-test.true ∙ ap (λ (x : Ask). x ∷ rest) (sym c.ask-item.is) in
    record {
      few = few_behind c.loop-ask.contexts c.ask_one.new.contexts c.args.id (length rest)
          (subst (λ (xs : List Ask). Has c.loop-ask.contexts c.args.id (λ x. x.count + length xs ≤ 17)) at c.loop-ask.invariant.few) c.in_ok-ask_one.ensures.held;
      shard = shard_behind c.loop-ask.buffer c.ask_one.new.buffer c.args.shard _ c.loop-ask.invariant.shard c.in_ok-ask_one.ensures.queued;
      room = room_behind c.loop-ask.buffer c.ask_one.new.buffer c.args.shard (length rest) _
          (subst (λ (xs : List Ask). total length c.loop-ask.buffer.queues + length xs ≤ c.loop-ask.buffer.room) at c.loop-ask.invariant.room) c.in_ok-ask_one.ensures.queued;
      held = λ u h. c.loop-ask.invariant.held u (subst (λ (xs : List Ask). IsHeld c.loop-ask.contexts u c.args.id (length xs)) (sym at)
          (held_next c.loop-ask.contexts c.ask_one.new.contexts u c.args.id (length rest) c.in_ok-ask_one.ensures.held h));
      queued = λ u h. c.loop-ask.invariant.queued u (subst (λ (xs : List Ask). IsQueued c.loop-ask.buffer u c.args.shard (items_for c.args.id c.args.key.now xs)) (sym at)
          (queued_more c.loop-ask.buffer c.ask_one.new.buffer u c.args.shard _ (items_for c.args.id c.args.key.now rest)
          c.loop-ask.invariant.shard c.in_ok-ask_one.ensures.queued h));
    }

pub returns-clause-held : goal.returns-clause-held
returns-clause-held c =
    let none : drop c.loop-ask.ask-index c.args.asks.now ≡ [] = drop_all c.loop-ask.ask-index c.args.asks.now c.loop-ask-test.false in
    c.loop-ask.invariant.held c.loop-ask.contexts (subst (λ (xs : List Ask). IsHeld c.loop-ask.contexts c.loop-ask.contexts c.args.id (length xs)) (sym none)
    (held_none c.loop-ask.contexts c.args.id (λ x. x.count + length (drop c.loop-ask.ask-index c.args.asks.now) ≤ 17) c.loop-ask.invariant.few))

pub returns-clause-queued : goal.returns-clause-queued
returns-clause-queued c =
    let none : drop c.loop-ask.ask-index c.args.asks.now ≡ [] = drop_all c.loop-ask.ask-index c.args.asks.now c.loop-ask-test.false in
    c.loop-ask.invariant.queued c.loop-ask.buffer (subst (λ (xs : List Ask). IsQueued c.loop-ask.buffer c.loop-ask.buffer c.args.shard (items_for c.args.id c.args.key.now xs)) (sym none)
    (queued_none c.loop-ask.buffer c.args.shard))
