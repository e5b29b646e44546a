use Rattle.std.proofs.Common.{refl, ap}
use Rattle.std.specs.Io.KnownBytes.{append_known}
use Rattle.ax_task.proofs.Written.{at_err}
use Rattle.ax_task.proofs.EngineLemmas.{shards_stay, writes_none, unsent_moves, unsent_none, unsent_same, ready_sent, marker_writes_some, marker_moves}
use Rattle.ax_task.proofs.Done.{sends_through, cuts_through}
use Rattle.ax_task.proofs.Lesser.{marker_less, less_as}
use Rattle.ax_task.specs.declared.engine.Engine.{Engine}
use Rattle.ax_core.specs.declared.controller.Controller.{Controller}
use Rattle.ax_task.proofs.engine.Engine.send_marker.Goals as goal

pub returns-in_default-clause-writes : goal.returns-in_default-clause-writes
returns-in_default-clause-writes g c =
    let e' = record c.args.self.now { core = c.next_marker.new.self } in
    writes_none c.args.self.now e' (append_known (g.K.Sink.holds c.args.out.now.inner.now) c.args.out.now.room.now) (unsent_moves c.args.self.now e' (shards_stay _ _ refl refl refl) c.in_default.ensures.event)

pub returns-in_default-clause-none : goal.returns-in_default-clause-none
returns-in_default-clause-none g c = λ _. unsent_none c.args.self.now (record c.args.self.now { core = c.next_marker.new.self }) c.requires.ready c.in_default.ensures.event

pub returns-in_default-clause-core : goal.returns-in_default-clause-core
returns-in_default-clause-core g c = λ _. unsent_same c.args.self.now (record c.args.self.now { core = c.next_marker.new.self }) c.requires.ready c.in_default.ensures.event

pub write_through-requires : goal.write_through-requires
write_through-requires g c =
    let took = c.in-Some.ensures in
    let e' = record c.args.self.now { core = c.next_marker.new.self } in
    record { ready = ready_sent c.args.self.now e' (shards_stay _ _ refl refl refl) took.sound took.same took.outs took.keys c.in-Some.marker took.event c.requires.ready }

pub returns-in_err-write_through-clause-part : goal.returns-in_err-write_through-clause-part
returns-in_err-write_through-clause-part g c =
    let held = g.K.Sink.holds in
    let took = c.in-Some.ensures in
    let e' = record c.args.self.now { core = c.next_marker.new.self } in
    at_err c.from_residual.result
    (marker_writes_some c.args.self.now e' (shards_stay _ _ refl refl refl) took.sound took.same took.outs took.keys c.in-Some.marker took.event
    (append_known (held c.args.out.now.inner.now) c.args.out.now.room.now) (append_known (held c.write_through.new.out.inner.now) c.write_through.new.out.room.now) c.in_err-write_through.ensures.part)

pub returns-clause-writes : goal.returns-clause-writes
returns-clause-writes g c =
    let held = g.K.Sink.holds in
    let took = c.in-Some.ensures in
    let wrote = c.in_ok-write_through.ensures in
    let e' = record c.args.self.now { core = c.next_marker.new.self } in
    marker_moves c.args.self.now e' (shards_stay _ _ refl refl refl) took.sound took.same took.outs took.keys c.in-Some.marker took.event
    c.write_through.new.self (shards_stay _ _ wrote.settings wrote.batch wrote.shards) wrote.core
    (append_known (held c.args.out.now.inner.now) c.args.out.now.room.now) (append_known (held c.write_through.new.out.inner.now) c.write_through.new.out.room.now) wrote.wrote

pub returns-in_default-clause-still : goal.returns-in_default-clause-still
returns-in_default-clause-still g c = λ _.
    let e = c.args.self.now in
    let put : Controller → Engine = λ (a : Controller). record e { core = a } in
    ap put (unsent_same e (record e { core = c.next_marker.new.self }) c.requires.ready c.in_default.ensures.event)

pub returns-clause-falls : goal.returns-clause-falls
returns-clause-falls g c = λ _.
    let took = c.in-Some.ensures in
    let wrote = c.in_ok-write_through.ensures in
    let e' = record c.args.self.now { core = c.next_marker.new.self } in
    less_as c.args.self.now e' c.write_through.new.self (shards_stay _ _ wrote.settings wrote.batch wrote.shards) wrote.core
    (marker_less c.args.self.now e' (shards_stay _ _ refl refl refl) took.same c.requires.ready c.in-Some.marker took.event)

pub returns-clause-sent : goal.returns-clause-sent
returns-clause-sent g c = λ _.
    let held = g.K.Sink.holds in
    let took = c.in-Some.ensures in
    let wrote = c.in_ok-write_through.ensures in
    let behind = c.write_through.new.out in
    sends_through c.args.self.now c.write_through.new.self c.next_marker.new.self (shards_stay _ _ wrote.settings wrote.batch wrote.shards) wrote.core c.in-Some.marker took.event took.order took.idle took.number
    (record { holds = held c.args.out.now.inner.now; gathered = c.args.out.now.room.now }) (record { holds = held behind.inner.now; gathered = behind.room.now }) wrote.wrote wrote.flushed

pub returns-in_err-write_through-clause-broke : goal.returns-in_err-write_through-clause-broke
returns-in_err-write_through-clause-broke g c =
    let held = g.K.Sink.holds in
    let took = c.in-Some.ensures in
    let wrote = c.in_err-write_through.ensures in
    let behind = c.write_through.new.out in
    at_err c.from_residual.result
    (cuts_through c.args.self.now c.write_through.new.self c.next_marker.new.self (shards_stay _ _ wrote.settings wrote.batch wrote.shards) wrote.core c.in-Some.marker took.event took.order took.idle took.number
    (record { holds = held c.args.out.now.inner.now; gathered = c.args.out.now.room.now }) (record { holds = held behind.inner.now; gathered = behind.room.now }) wrote.part)
