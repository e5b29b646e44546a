use Rattle.ax_task.proofs.Stepping.{end_does}
use Rattle.ax_task.proofs.task.Task.step.Goals as goal

pub returns-in-End-clause-cause : goal.returns-in-End-clause-cause
returns-in-End-clause-cause g c = (c.in-End.ensures.rest, c.in-End.ensures.counts)

pub returns-in-End-clause-does : goal.returns-in-End-clause-does
returns-in-End-clause-does g c = end_does _ _ _ _ c.in-End.end c.in-End.ensures.does c.in-End.ensures.breaks
