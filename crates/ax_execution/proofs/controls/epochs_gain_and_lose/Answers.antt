use Rattle.ax_execution.proofs.ControlChanges.{epoch_changes, machine_epochs}
use Rattle.ax_execution.specs.Runs.{end_of}
use Rattle.ax_execution.proofs.WholeRuns.{run_orderly, run_rises}
use Rattle.ax_execution.proofs.controls.epochs_gain_and_lose.Goals as goal

pub returns-clause-control : goal.returns-clause-control
returns-clause-control c r p u e a m busy h = epoch_changes m busy r p u e a h

pub returns-clause-run : goal.returns-clause-run
returns-clause-run c run e u h = machine_epochs run.rules (end_of run) (run_orderly run) (run_rises run) run.groups run.program u e h
