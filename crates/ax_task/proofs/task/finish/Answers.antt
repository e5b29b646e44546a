use Rattle.ax_task.proofs.Running.{begins_trans}
use Rattle.ax_task.proofs.task.finish.Goals as goal

pub returns-in-Went-clause-leaves : goal.returns-in-Went-clause-leaves
returns-in-Went-clause-leaves g c = λ s p from e r lines left reads b x. record {
  underway = rw c.in-Went.is at x;
  begun = begins_trans from.outer.holds g.B.Begun.held (g.K.Sink.holds c.args.out.now.inner.now) b c.args.out.now.begun;
}

pub returns-in-Took-clause-leaves : goal.returns-in-Took-clause-leaves
returns-in-Took-clause-leaves g c = λ s p from e r lines left reads b x. record {
  underway = rw c.in-Took.is at x;
  begun = begins_trans from.outer.holds g.B.Begun.held (g.K.Sink.holds c.args.out.now.inner.now) b c.args.out.now.begun;
}

pub returns-in-End-clause-leaves : goal.returns-in-End-clause-leaves
returns-in-End-clause-leaves g c = λ s p from e r lines left reads b x. c.finish_end.ensures.ended s p from left reads b (rw c.in-End.is at x)

pub returns-in-End-clause-rest : goal.returns-in-End-clause-rest
returns-in-End-clause-rest g c = λ a found h. c.finish_end.ensures.rest a found (rw c.in-End.is at h)

pub returns-in-End-clause-counts : goal.returns-in-End-clause-counts
returns-in-End-clause-counts g c = λ before h. c.finish_end.ensures.counts before (rw c.in-End.is at h)

pub returns-in-End-clause-does : goal.returns-in-End-clause-does
returns-in-End-clause-does g c = λ t old e r lines left reads h. c.finish_end.ensures.ends t old e r lines left reads (rw c.in-End.is at h)

pub returns-in-End-clause-breaks : goal.returns-in-End-clause-breaks
returns-in-End-clause-breaks g c = λ t old e r lines left reads h k. c.finish_end.ensures.breaks t old e r lines left reads (rw c.in-End.is at h) (rw c.in-End.is at k)
