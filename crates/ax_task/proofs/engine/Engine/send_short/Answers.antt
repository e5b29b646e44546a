use Rattle.ax_task.proofs.Sending.{nothing, nothing_comes, sends_short}
use Rattle.ax_task.proofs.engine.Engine.send_short.Goals as goal

pub returns-in_default-clause-nothing : goal.returns-in_default-clause-nothing
returns-in_default-clause-nothing c = λ _. nothing c.args.self.now c.requires.home c.in_default.ensures.none

pub returns-in_default-clause-exchanges : goal.returns-in_default-clause-exchanges
returns-in_default-clause-exchanges c = nothing_comes c.args.self.now (nothing c.args.self.now c.requires.home c.in_default.ensures.none)

pub returns-clause-exchanges : goal.returns-clause-exchanges
returns-clause-exchanges c =
    let found = c.in-Some.ensures in
    sends_short c.args.self.now c.send.new.self c.in-Some.shard c.requires.none c.requires.home found.below found.some found.first c.in_ok-send.ensures.sent
