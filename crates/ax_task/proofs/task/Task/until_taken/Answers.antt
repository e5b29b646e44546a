use Rattle.ax_task.specs.Due.{due}
use Rattle.ax_task.specs.Running.{state_of}
use Rattle.ax_task.proofs.Running.{no_more, nearer_worked}
use Rattle.ax_task.proofs.task.Task.until_taken.Goals as goal

pub returns-then-self-clause-goes : goal.returns-then-self-clause-goes
returns-then-self-clause-goes g c = λ s p from x. c.in-Went.ensures.goes s p from (c.round.invariant.runs s p from x)

pub round-preserved : goal.round-preserved
round-preserved g c = record {
  runs = λ s p from x. c.in-Went.ensures.goes s p from (c.round.invariant.runs s p from x);
  due = no_more (due c.step.new.self.driver.reading c.step.new.self.lines) (due c.round.self.driver.reading c.round.self.lines) (due c.args.self.now.driver.reading c.args.self.now.lines)
      (nearer_worked c.step.new.self.took (state_of c.round.self) (state_of c.step.new.self) c.if-self.false c.in-Went.ensures.nearer).1 c.round.invariant.due;
  going = c.in-Went.ensures.ended;
  steady = c.in-Went.ensures.steady;
}

pub returns-in-End-clause-goes : goal.returns-in-End-clause-goes
returns-in-End-clause-goes g c = λ s p from x. c.in-End.ensures.goes s p from (c.round.invariant.runs s p from x)
