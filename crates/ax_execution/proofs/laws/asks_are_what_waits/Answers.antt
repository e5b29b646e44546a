use Rattle.ax_execution.proofs.Waits.{event_waits, asks_rise, deliver_outside}
use Rattle.ax_execution.proofs.ControlWaits.{none_asked}
use Rattle.ax_execution.specs.Runs.{end_of}
use Rattle.ax_execution.proofs.WholeRuns.{run_good, run_orderly}
use Rattle.ax_execution.proofs.laws.asks_are_what_waits.Goals as goal

pub returns-clause-waits : goal.returns-clause-waits
returns-clause-waits c run e k h = event_waits run.rules (end_of run) (run_orderly run) (run_good run) run.groups run.program e k h

pub returns-clause-rise : goal.returns-clause-rise
returns-clause-rise c run e h = asks_rise run.rules (end_of run) (run_orderly run) (run_good run) run.groups run.program e h

pub returns-clause-new : goal.returns-clause-new
returns-clause-new c run k slot h = deliver_outside run.rules (end_of run) (run_orderly run) (run_good run) run.groups run.program k slot h

pub returns-clause-none : goal.returns-clause-none
returns-clause-none c g p e m a b = none_asked g p e m a b
