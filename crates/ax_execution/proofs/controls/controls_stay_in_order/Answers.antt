use Rattle.ax_execution.specs.Machine.{machine_from}
use Rattle.ax_execution.proofs.Orderly.{start_orderly}
use Rattle.ax_execution.proofs.ControlOrder.{order_from, event_in_order}
use Rattle.ax_execution.specs.Runs.{end_of}
use Rattle.ax_execution.proofs.WholeRuns.{run_orderly, run_rises}
use Rattle.ax_execution.proofs.controls.controls_stay_in_order.Goals as goal

pub returns-clause-origin : goal.returns-clause-origin
returns-clause-origin c r p from fits = order_from r (machine_from from) (start_orderly r p from fits) fits.keys

pub returns-clause-event : goal.returns-clause-event
returns-clause-event c r p e a m o h = event_in_order r p m o e a h

pub returns-clause-run : goal.returns-clause-run
returns-clause-run c run = order_from run.rules (end_of run) (run_orderly run) (run_rises run)
