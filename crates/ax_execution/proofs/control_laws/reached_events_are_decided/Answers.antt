use Rattle.ax_execution.proofs.ControlTests.{passes_on, decides_on, allowed_over}
use Rattle.ax_execution.proofs.ReachedOrderly.{reached_in_order}
use Rattle.ax_execution.proofs.control_laws.reached_events_are_decided.Goals as goal

pub returns-clause-passes : goal.returns-clause-passes
returns-clause-passes c r p m e accepted reached h = passes_on r m (reached_in_order r p m accepted reached) e h

pub returns-clause-is_so : goal.returns-clause-is_so
returns-clause-is_so c r p m e accepted reached h = decides_on r m (reached_in_order r p m accepted reached) e h

pub returns-clause-busy : goal.returns-clause-busy
returns-clause-busy c r e ks m a b = allowed_over m ks a b r e
