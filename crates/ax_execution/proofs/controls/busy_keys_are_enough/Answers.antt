use Rattle.ax_execution.specs.ControlTurns.{contexts_on}
use Rattle.ax_execution.specs.MachineControls.{control_of_epoch, control_numbered, control_references}
use Rattle.ax_execution.proofs.ControlSums.{busy_total}
use Rattle.ax_execution.proofs.ControlCounts.{free_contexts, free_numbered, free_references}
use Rattle.ax_execution.proofs.ControlChanges.{free_epoch, keys_hold}
use Rattle.ax_execution.specs.Runs.{end_of}
use Rattle.ax_execution.proofs.WholeRuns.{run_orderly, run_rises}
use Rattle.ax_execution.proofs.controls.busy_keys_are_enough.Goals as goal

pub returns-clause-flight : goal.returns-clause-flight
returns-clause-flight c ks m a b = busy_total contexts_on free_contexts m ks m.keys a b

pub returns-clause-epochs : goal.returns-clause-epochs
returns-clause-epochs c u ks m a b = busy_total (control_of_epoch u) (free_epoch u) m ks m.keys a b

pub returns-clause-numbers : goal.returns-clause-numbers
returns-clause-numbers c n ks m a b = busy_total (control_numbered n) (free_numbered n) m ks m.keys a b

pub returns-clause-references : goal.returns-clause-references
returns-clause-references c n ks m a b = busy_total (control_references n) (free_references n) m ks m.keys a b

pub returns-clause-keys : goal.returns-clause-keys
returns-clause-keys c run = keys_hold run.rules (end_of run) (run_orderly run) (run_rises run)
