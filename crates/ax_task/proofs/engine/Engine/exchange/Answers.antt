use Rattle.std.proofs.Common.{◌≡◌, true, false, IfOk, OnOk, ap, subst}
use Rattle.ax_time.proofs.KeptLemmas.{if_ok}
use Rattle.ax_task.specs.Engines.{MovesOn}
use Rattle.ax_task.specs.Exchanged.{LessIsLeft, Exchanges}
use Rattle.ax_task.specs.declared.engine.Engine.{Engine}
use Rattle.ax_task.proofs.Going.{moved_ready}
use Rattle.ax_task.proofs.Sending.{sends_full, serves}
use Rattle.ax_task.proofs.engine.Engine.exchange.Goals as goal

pub returns-in-Some-clause-exchanges : goal.returns-in-Some-clause-exchanges
returns-in-Some-clause-exchanges c =
    let found = c.in-Some.ensures in
    sends_full c.args.self.now c.send.new.self c.in-Some.shard found.below found.some found.first c.in_ok-send.ensures.sent

pub returns-then-branch-clause-exchanges : goal.returns-then-branch-clause-exchanges
returns-then-branch-clause-exchanges c = serves c.args.self.now c.poll.new.self c.in_default.ensures.none (c.in_ok-poll.ensures.back c.if-branch.true)

pub send_short-requires-clause-ready : goal.send_short-requires-clause-ready
send_short-requires-clause-ready c = moved_ready c.args.self.now c.poll.new.self c.in_ok-poll.ensures.moves c.requires.ready

pub returns-clause-moves : goal.returns-clause-moves
returns-clause-moves c =
    let same : c.poll.new.self ≡ c.args.self.now = c.in_ok-poll.ensures.still c.if-branch.false in
    subst (λ (v : Engine). OnOk c.send_short.result (MovesOn v c.send_short.new.self)) same c.send_short.ensures.moves

pub returns-clause-falls : goal.returns-clause-falls
returns-clause-falls c =
    let same : c.poll.new.self ≡ c.args.self.now = c.in_ok-poll.ensures.still c.if-branch.false in
    subst (λ (v : Engine). IfOk c.send_short.result (λ done. done ≡ true → LessIsLeft v c.send_short.new.self)) same c.send_short.ensures.falls

pub returns-clause-still : goal.returns-clause-still
returns-clause-still c =
    let same : c.poll.new.self ≡ c.args.self.now = c.in_ok-poll.ensures.still c.if-branch.false in
    subst (λ (v : Engine). IfOk c.send_short.result (λ done. done ≡ false → c.send_short.new.self ≡ v)) same c.send_short.ensures.still

pub returns-clause-idle : goal.returns-clause-idle
returns-clause-idle c =
    let same : c.poll.new.self ≡ c.args.self.now = c.in_ok-poll.ensures.still c.if-branch.false in
    let core : Engine → _ = λ (v : Engine). v.core in
    if_ok c.send_short.result (λ done h. λ e. ap core (h e)) (subst (λ (v : Engine). IfOk c.send_short.result (λ done. done ≡ false → c.send_short.new.self ≡ v)) same c.send_short.ensures.still)

pub returns-clause-exchanges : goal.returns-clause-exchanges
returns-clause-exchanges c =
    let same : c.poll.new.self ≡ c.args.self.now = c.in_ok-poll.ensures.still c.if-branch.false in
    subst (λ (v : Engine). IfOk c.send_short.result (λ done. Exchanges v c.send_short.new.self done)) same c.send_short.ensures.exchanges
