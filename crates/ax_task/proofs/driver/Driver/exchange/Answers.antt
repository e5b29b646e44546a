use Rattle.std.proofs.Common.{◌≡◌, true, false, rules, refl, arith}
use Rattle.ax_task.proofs.TaskLemmas.{moved_on, short_here}
use Rattle.ax_task.proofs.Stepping.{end_map, moves_next}
use Rattle.ax_task.proofs.Going.{moved_ready, blocked_as}
use Rattle.ax_task.proofs.driver.Driver.exchange.Goals as goal

pub returns-in-Ok-true-clause-steps : goal.returns-in-Ok-true-clause-steps
returns-in-Ok-true-clause-steps c = λ now s p from x. moved_on s p from c.args.self.now.engine c.args.self.now.reading c.args.lines.now now x c.exchange.new.self c.in-Ok-true.ensures.moves

pub returns-in-Ok-false-clause-steps : goal.returns-in-Ok-false-clause-steps
returns-in-Ok-false-clause-steps c = λ now s p from x.
    c.ended.ensures.well s p from c.args.lines.now now (moved_on s p from c.args.self.now.engine c.args.self.now.reading c.args.lines.now now x c.exchange.new.self c.in-Ok-false.ensures.moves)

pub returns-in-Err-clause-steps : goal.returns-in-Err-clause-steps
returns-in-Err-clause-steps c = λ now s p from x. short_here s p from c.args.self.now.engine c.args.self.now.reading c.args.lines.now now x

pub returns-in-Ok-true-clause-goes : goal.returns-in-Ok-true-clause-goes
returns-in-Ok-true-clause-goes c =
    let done : c.in-Ok-true.field-0 ≡ true = search rules in
    (c.in-Ok-true.ensures.falls done, omega arith)

pub ended-requires-clause-ready : goal.ended-requires-clause-ready
ended-requires-clause-ready c = moved_ready c.args.self.now.engine c.exchange.new.self c.in-Ok-false.ensures.moves c.requires.ready

pub ended-requires-clause-blocked : goal.ended-requires-clause-blocked
ended-requires-clause-blocked c =
    let done : c.in-Ok-false.field-0 ≡ false = search rules in
    blocked_as c.args.self.now.engine.core c.exchange.new.self.core c.args.self.now.reading.next (c.in-Ok-false.ensures.idle done) c.requires.blocked

pub returns-in-Ok-true-clause-does : goal.returns-in-Ok-true-clause-does
returns-in-Ok-true-clause-does c =
    let done : c.in-Ok-true.field-0 ≡ true = search rules in
    moves_next c.args.self.now.engine c.exchange.new.self c.args.self.now.reading c.in-Ok-true.field-0 c.requires.cant done c.in-Ok-true.ensures.exchanges

pub returns-in-Ok-true-clause-ready : goal.returns-in-Ok-true-clause-ready
returns-in-Ok-true-clause-ready c = moved_ready c.args.self.now.engine c.exchange.new.self c.in-Ok-true.ensures.moves c.requires.ready

pub returns-in-Ok-false-clause-does : goal.returns-in-Ok-false-clause-does
returns-in-Ok-false-clause-does c =
    let done : c.in-Ok-false.field-0 ≡ false = search rules in
    end_map (λ x. record { engine = c.in-Ok-false.ensures.still done; reading = refl; left = x }) c.ended.result c.ended.ensures.left
