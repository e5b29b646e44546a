use Rattle.std.proofs.Common.{◌≡◌, true, false, rules, sym, subst}
use Rattle.ax_task.proofs.TaskLemmas.{took_on, same_underway, short_here}
use Rattle.ax_input.specs.Shown.{shown_event}
use Rattle.ax_task.proofs.ReadingLemmas.{held_as}
use Rattle.ax_task.proofs.Stepping.{next_as}
use Rattle.ax_task.proofs.Going.{took_due, took_ready, goes_as}
use Rattle.ax_task.specs.Engines.{IsReady}
use Rattle.ax_task.proofs.driver.Driver.take_or_exchange.Goals as goal

pub exchange-requires-clause-ready : goal.exchange-requires-clause-ready
exchange-requires-clause-ready c =
    let done : c.in-Ok-false.field-0 ≡ false = search rules in
    subst IsReady (sym (c.in-Ok-false.ensures.same done).0) c.requires.ready

pub returns-in-Ok-true-clause-steps : goal.returns-in-Ok-true-clause-steps
returns-in-Ok-true-clause-steps c = λ now s p from x.
    let done : c.in-Ok-true.field-0 ≡ true = search rules in
    let t = c.in-Ok-true.ensures.taken done in
    took_on s p from c.args.self.now.engine c.args.self.now.reading c.args.lines.now now x c.take_held.new.self.engine c.take_held.new.self.reading t.event t.was t.none t.events t.found t.takes

pub returns-in-Ok-false-clause-steps : goal.returns-in-Ok-false-clause-steps
returns-in-Ok-false-clause-steps c = λ now s p from x.
    let done : c.in-Ok-false.field-0 ≡ false = search rules in
    c.exchange.ensures.steps now s p from
    (same_underway s p from c.args.self.now.engine c.take_held.new.self.engine c.args.self.now.reading c.take_held.new.self.reading c.args.lines.now now (c.in-Ok-false.ensures.same done) x)

pub returns-in-Err-clause-steps : goal.returns-in-Err-clause-steps
returns-in-Err-clause-steps c = λ now s p from x. short_here s p from c.args.self.now.engine c.args.self.now.reading c.args.lines.now now x

pub returns-in-Ok-true-clause-goes : goal.returns-in-Ok-true-clause-goes
returns-in-Ok-true-clause-goes c =
    let done : c.in-Ok-true.field-0 ≡ true = search rules in
    let t = c.in-Ok-true.ensures.taken done in
    took_due c.args.self.now.reading c.take_held.new.self.reading c.args.lines.now t.event t.was t.none t.found

pub returns-in-Ok-false-clause-goes : goal.returns-in-Ok-false-clause-goes
returns-in-Ok-false-clause-goes c =
    let done : c.in-Ok-false.field-0 ≡ false = search rules in
    let same = c.in-Ok-false.ensures.same done in
    goes_as c.args.self.now.engine c.take_held.new.self.engine c.exchange.new.self.engine c.args.self.now.reading c.take_held.new.self.reading c.exchange.new.self.reading c.args.lines.now c.args.lines.now c.exchange.result
    same.0 same.1 c.exchange.ensures.goes

pub returns-in-Ok-true-clause-ready : goal.returns-in-Ok-true-clause-ready
returns-in-Ok-true-clause-ready c =
    let done : c.in-Ok-true.field-0 ≡ true = search rules in
    let t = c.in-Ok-true.ensures.taken done in
    took_ready c.args.self.now.engine c.take_held.new.self.engine (shown_event t.event) t.takes c.requires.ready

pub returns-in-Ok-false-clause-does : goal.returns-in-Ok-false-clause-does
returns-in-Ok-false-clause-does c =
    let done : c.in-Ok-false.field-0 ≡ false = search rules in
    let same = c.in-Ok-false.ensures.same done in
    next_as c.args.self.now.engine c.take_held.new.self.engine c.exchange.new.self.engine c.args.self.now.reading c.take_held.new.self.reading c.exchange.new.self.reading c.exchange.result same.0 same.1 c.exchange.ensures.does

pub returns-in-Ok-false-clause-none : goal.returns-in-Ok-false-clause-none
returns-in-Ok-false-clause-none c = held_as c.take_held.new.self.reading c.exchange.new.self.reading c.exchange.ensures.same c.take_held.ensures.none

pub returns-in-Ok-true-clause-does : goal.returns-in-Ok-true-clause-does
returns-in-Ok-true-clause-does c =
    let done : c.in-Ok-true.field-0 ≡ true = search rules in
    c.in-Ok-true.ensures.took done
