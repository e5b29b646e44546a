use Rattle.std.proofs.Common.{◌∙◌, refl, subst}
use Rattle.ax_state.specs.KeyCells.{shown_cells}
use Rattle.ax_future.specs.Machines.{names_of, said_by}
use Rattle.ax_future.specs.Talks.{known_in}
use Rattle.ax_plain.specs.Handler.{run_from, comes_to, TakesTurn}
use Rattle.ax_plain.proofs.RunLemmas.{at_err, starts_turn, start_gone_on, GoneOn-turn, GoneOn-end, GoneOn-failed, GoneOn-cut}
use Rattle.ax_plain.proofs.handler.run_handler.Goals as goal

pub turns-init : goal.turns-init
turns-init g c =
    let p = c.args.program.now in
    let cells = shown_cells c.args.cells.now in
    record {
      gone = start_gone_on c.args.key.now (run_from p c.args.handler c.args.facts.now cells) (g.K.Sink.holds c.args.out.now) c.args.timers.now (said_by c.restart.new.self).outs (said_by c.restart.new.self).timer_ops
          (comes_to (known_in c.known_of-known.result) p c.restart.new.self cells)
          (starts_turn (known_in c.known_of-known.result) p c.args.handler c.restart.new.self (said_by c.restart.new.self) c.args.facts.now cells c.known_of-known.ensures c.in-Ok.ensures.turn);
      sound = c.in-Ok.ensures.sound;
      kinds = c.requires;
      others = λ q e. refl;
      counts = refl;
      base = refl;
    }

pub turns-preserved : goal.turns-preserved
turns-preserved g c =
    let p = c.args.program.now in
    let f = known_in c.known_of-known.result in
    let before = c.turns.invariant in
    let ran = c.in_ok-do_said.ensures in
    let took = c.in-Ok-next_turn.ensures in
    record {
      gone = GoneOn-turn c.args.key.now (run_from p c.args.handler c.args.facts.now (shown_cells c.args.cells.now)) (g.K.Sink.holds c.args.out.now) (g.K.Sink.holds c.turns.out) c.args.timers.now c.turns.timers
          (said_by c.turns.room.machine).outs (said_by c.turns.room.machine).timer_ops (comes_to f p c.turns.room.machine (shown_cells c.turns.cells)) before.gone (g.K.Sink.holds c.do_said.new.out) c.do_said.new.timers ran.lines ran.times
          (said_by c.next_turn.new.machine).outs (said_by c.next_turn.new.machine).timer_ops (comes_to f p c.next_turn.new.machine (shown_cells c.next_turn.new.cells))
          (subst (TakesTurn f p c.turns.room.machine c.next_turn.new.machine (shown_cells c.turns.cells) (shown_cells c.next_turn.new.cells) (said_by c.next_turn.new.machine)) c.if-not-more.false took.turn);
      sound = took.sound;
      kinds = took.kinds;
      others = λ q e. ran.others q e ∙ before.others q e;
      counts = ran.counts ∙ before.counts;
      base = ran.base ∙ before.base;
    }

pub returns-in_err-do_said-clause-part : goal.returns-in_err-do_said-clause-part
returns-in_err-do_said-clause-part g c =
    let p = c.args.program.now in
    at_err c.from_residual.result (GoneOn-failed c.args.key.now (run_from p c.args.handler c.args.facts.now (shown_cells c.args.cells.now)) (g.K.Sink.holds c.args.out.now) (g.K.Sink.holds c.turns.out) c.args.timers.now c.turns.timers
    (said_by c.turns.room.machine).outs (said_by c.turns.room.machine).timer_ops (comes_to (known_in c.known_of-known.result) p c.turns.room.machine (shown_cells c.turns.cells)) c.turns.invariant.gone (g.K.Sink.holds c.do_said.new.out) c.in_err-do_said.ensures.part)

pub returns-in_default-next_turn-clause-part : goal.returns-in_default-next_turn-clause-part
returns-in_default-next_turn-clause-part g c =
    let p = c.args.program.now in
    GoneOn-cut c.args.key.now (run_from p c.args.handler c.args.facts.now (shown_cells c.args.cells.now)) (g.K.Sink.holds c.args.out.now) (g.K.Sink.holds c.turns.out) c.args.timers.now c.turns.timers
    (said_by c.turns.room.machine).outs (said_by c.turns.room.machine).timer_ops (comes_to (known_in c.known_of-known.result) p c.turns.room.machine (shown_cells c.turns.cells)) c.turns.invariant.gone (g.K.Sink.holds c.do_said.new.out) c.in_ok-do_said.ensures.lines

pub returns-then-not-more-clause-times : goal.returns-then-not-more-clause-times
returns-then-not-more-clause-times g c =
    let p = c.args.program.now in
    let f = known_in c.known_of-known.result in
    (GoneOn-end c.args.key.now (run_from p c.args.handler c.args.facts.now (shown_cells c.args.cells.now)) (g.K.Sink.holds c.args.out.now) (g.K.Sink.holds c.turns.out) c.args.timers.now c.turns.timers
    (said_by c.turns.room.machine).outs (said_by c.turns.room.machine).timer_ops (comes_to f p c.turns.room.machine (shown_cells c.turns.cells)) c.turns.invariant.gone (g.K.Sink.holds c.do_said.new.out) c.do_said.new.timers
    c.in_ok-do_said.ensures.lines c.in_ok-do_said.ensures.times (names_of c.turns.room.machine) (shown_cells c.next_turn.new.cells)
    (subst (TakesTurn f p c.turns.room.machine c.next_turn.new.machine (shown_cells c.turns.cells) (shown_cells c.next_turn.new.cells) (said_by c.next_turn.new.machine)) c.if-not-more.true c.in-Ok-next_turn.ensures.turn)).1

pub returns-then-not-more-clause-lines : goal.returns-then-not-more-clause-lines
returns-then-not-more-clause-lines g c =
    let p = c.args.program.now in
    let f = known_in c.known_of-known.result in
    (GoneOn-end c.args.key.now (run_from p c.args.handler c.args.facts.now (shown_cells c.args.cells.now)) (g.K.Sink.holds c.args.out.now) (g.K.Sink.holds c.turns.out) c.args.timers.now c.turns.timers
    (said_by c.turns.room.machine).outs (said_by c.turns.room.machine).timer_ops (comes_to f p c.turns.room.machine (shown_cells c.turns.cells)) c.turns.invariant.gone (g.K.Sink.holds c.do_said.new.out) c.do_said.new.timers
    c.in_ok-do_said.ensures.lines c.in_ok-do_said.ensures.times (names_of c.turns.room.machine) (shown_cells c.next_turn.new.cells)
    (subst (TakesTurn f p c.turns.room.machine c.next_turn.new.machine (shown_cells c.turns.cells) (shown_cells c.next_turn.new.cells) (said_by c.next_turn.new.machine)) c.if-not-more.true c.in-Ok-next_turn.ensures.turn)).2
