use Rattle.std.proofs.Common.{◌<◌, length, refl, sym, subst}
use Rattle.ax_buffer.specs.Buffer.{queue_of}
use Rattle.ax_task.specs.declared.engine.Engine.{Engine}
use Rattle.ax_task.proofs.Sending.{all_fit, among_shards, sends, sends_less, some_taken, sent_first}
use Rattle.ax_task.proofs.engine.Engine.send.Goals as goal

pub send-requires-clause-fit : goal.send-requires-clause-fit
send-requires-clause-fit c = all_fit c.args.self.now c.requires.ready c.in_ok-batch.batch c.in_ok-batch.ensures.fit

pub returns-clause-moves : goal.returns-clause-moves
returns-clause-moves c =
    let e = c.args.self.now in
    let took = c.in_ok-batch.ensures in
    let sent = c.send.ensures in
    sends e _ refl refl sent.count sent.kinds took.sound took.same took.keys c.args.shard (among_shards e c.requires.ready c.args.shard c.requires.shard) c.in_ok-batch.batch c.requires.home sent.out sent.held
    took.outs took.asks took.keys_of took.stands

pub returns-clause-falls : goal.returns-clause-falls
returns-clause-falls c =
    let e = c.args.self.now in
    let new : Engine = record { alloc = e.alloc; settings = e.settings; batch = e.batch; core = c.batch_for.new.self; shards = c.send.new.self; text = e.text } in
    let took = c.in_ok-batch.ensures in
    let sent = c.send.ensures in
    let some : 0 < length c.in_ok-batch.batch = subst (λ is. 0 < length is) (sym took.batch) (some_taken e.batch (queue_of e.core.buffer c.args.shard) c.requires.ready.stands.batch c.requires.waits) in
    sends_less e new refl refl sent.count sent.kinds took.sound took.same took.keys c.args.shard (among_shards e c.requires.ready c.args.shard c.requires.shard) c.in_ok-batch.batch c.requires.home sent.out sent.held
    took.outs took.asks took.keys_of took.stands c.requires.ready some

pub returns-clause-sent : goal.returns-clause-sent
returns-clause-sent c =
    let e = c.args.self.now in
    let new : Engine = record { alloc = e.alloc; settings = e.settings; batch = e.batch; core = c.batch_for.new.self; shards = c.send.new.self; text = e.text } in
    let took = c.in_ok-batch.ensures in
    let sent = c.send.ensures in
    sent_first e new c.args.shard c.in_ok-batch.batch took.batch took.order sent.out sent.held sent.sent sent.order took.idle took.number refl refl took.stands took.asks
