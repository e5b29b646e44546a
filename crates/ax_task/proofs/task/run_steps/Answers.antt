use Rattle.ax_task.proofs.task.run_steps.Goals as goal

pub step-preserved : goal.step-preserved
step-preserved g c = record {
  runs = λ s p from x. c.in-None.ensures.goes s p from (c.step.invariant.runs s p from x);
  going = c.in-None.ensures.going;
  steady = c.in-None.ensures.steady;
}

pub returns-in-Some : goal.returns-in-Some
returns-in-Some g c = record { ended = λ s p from x. c.in-Some.ensures.goes s p from (c.step.invariant.runs s p from x) }
