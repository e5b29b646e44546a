use Rattle.std.proofs.Common.{sym, subst, ℕ, Option}
use Rattle.ax_task.specs.Tasks.{Finds, HasEnded}
use Rattle.ax_task.specs.declared.end.End.{End}
use Rattle.ax_task.specs.declared.end.End.TheVariants as end
use Rattle.ax_task.proofs.TaskLemmas.{looked_on, short_read}
use Rattle.ax_task.proofs.Going.{goes_behind}
use Rattle.ax_task.proofs.Stepping.{found_on, looks_next, steady_behind}
use Rattle.ax_task.proofs.driver.Driver.read_on.Goals as goal

pub returns-in-Ok-clause-steps : goal.returns-in-Ok-clause-steps
returns-in-Ok-clause-steps g c = λ holds writes s p from x.
    let left = g.S.Source.left in
    let faults = g.S.Source.faults in
    c.take_or_exchange.ensures.steps (record { left = left c.look.new.input; reads = faults c.look.new.input; holds = holds; writes = writes }) s p from
    (looked_on s p from c.args.self.now.engine c.args.self.now.reading c.args.lines.now (record { left = left c.args.input.now; reads = faults c.args.input.now; holds = holds; writes = writes }) x
    c.look.new.self c.look.new.lines (left c.look.new.input) (faults c.look.new.input) c.in-Ok.ensures.reads)

pub returns-in-Err-clause-steps : goal.returns-in-Err-clause-steps
returns-in-Err-clause-steps g c = λ holds writes s p from x.
    let left = g.S.Source.left in
    let faults = g.S.Source.faults in
    subst (λ (n : ℕ). HasEnded s p from (record { left = left c.look.new.input; reads = n; holds = holds; writes = writes }) end.NoMemory) (sym c.in-Err.ensures.count)
    (short_read s p from c.args.self.now.engine c.args.self.now.reading c.args.lines.now (record { left = left c.args.input.now; reads = faults c.args.input.now; holds = holds; writes = writes }) x
    (left c.look.new.input) c.in-Err.ensures.short)

pub returns-in-Ok-clause-goes : goal.returns-in-Ok-clause-goes
returns-in-Ok-clause-goes g c =
    goes_behind c.args.self.now.engine c.take_or_exchange.new.self.engine c.args.self.now.reading c.look.new.self c.take_or_exchange.new.self.reading c.args.lines.now c.look.new.lines c.take_or_exchange.result
    c.in-Ok.ensures.due c.take_or_exchange.ensures.goes

pub returns-in-Ok-clause-finds : goal.returns-in-Ok-clause-finds
returns-in-Ok-clause-finds g c =
    let left = g.S.Source.left in
    let faults = g.S.Source.faults in
    subst (λ (o : Option End). Finds c.args.self.now.reading.found o (left c.args.input.now) (left c.look.new.input) (faults c.args.input.now) (faults c.look.new.input)) (sym c.take_or_exchange.ensures.found) c.look.ensures.finds

pub take_or_exchange-requires-clause-found : goal.take_or_exchange-requires-clause-found
take_or_exchange-requires-clause-found g c =
    let left = g.S.Source.left in
    let faults = g.S.Source.faults in
    found_on c.args.self.now.reading.found c.look.new.self.found (left c.args.input.now) (left c.look.new.input) (faults c.args.input.now) (faults c.look.new.input) c.requires.found c.look.ensures.finds

pub returns-in-Ok-clause-does : goal.returns-in-Ok-clause-does
returns-in-Ok-clause-does g c =
    let left = g.S.Source.left in
    let faults = g.S.Source.faults in
    looks_next c.args.self.now.engine c.take_or_exchange.new.self.engine (record { reading = c.args.self.now.reading; lines = c.args.lines.now; left = left c.args.input.now; reads = faults c.args.input.now })
    c.look.new.self c.take_or_exchange.new.self.reading c.look.new.lines (left c.look.new.input) (faults c.look.new.input) c.take_or_exchange.result c.in-Ok.ensures.looks c.take_or_exchange.ensures.does

pub returns-in-Ok-clause-steady : goal.returns-in-Ok-clause-steady
returns-in-Ok-clause-steady g c =
    let left = g.S.Source.left in
    let faults = g.S.Source.faults in
    steady_behind c.take_or_exchange.new.self.engine c.look.new.self c.take_or_exchange.new.self.reading c.look.new.lines c.take_or_exchange.result c.take_or_exchange.ensures.found c.in-Ok.ensures.may
    (found_on c.args.self.now.reading.found c.look.new.self.found (left c.args.input.now) (left c.look.new.input) (faults c.args.input.now) (faults c.look.new.input) c.requires.found c.look.ensures.finds)
    c.take_or_exchange.ensures.none c.take_or_exchange.ensures.ready
