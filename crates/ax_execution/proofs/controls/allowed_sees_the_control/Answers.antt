use Rattle.ax_execution.proofs.ControlsAllowed.{allowed_to, allowed_from, allowed_same, run_to, run_from}
use Rattle.ax_execution.proofs.controls.allowed_sees_the_control.Goals as goal

pub returns-clause-seen : goal.returns-clause-seen
returns-clause-seen c r e m h = allowed_to r e m h

pub returns-clause-is_so : goal.returns-clause-is_so
returns-clause-is_so c r e m h = allowed_from r e m h

pub returns-clause-test : goal.returns-clause-test
returns-clause-test c r e m = allowed_same r e m

pub returns-clause-run : goal.returns-clause-run
returns-clause-run c r g p es m h = run_to r g p es m h

pub returns-clause-is_run : goal.returns-clause-is_run
returns-clause-is_run c r g p es m h = run_from r g p es m h
