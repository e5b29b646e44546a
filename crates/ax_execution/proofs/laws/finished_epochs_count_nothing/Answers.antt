use Rattle.ax_execution.proofs.Outside.{finished_counts, counts_finished}
use Rattle.ax_execution.specs.Runs.{end_of}
use Rattle.ax_execution.proofs.WholeRuns.{run_orderly, run_punctual}
use Rattle.ax_execution.proofs.laws.finished_epochs_count_nothing.Goals as goal

pub returns-clause-finished : goal.returns-clause-finished
returns-clause-finished c e m h u a = finished_counts e m h u a

pub returns-clause-counts : goal.returns-clause-counts
returns-clause-counts c run e counts = counts_finished run.rules (end_of run) (run_orderly run) (run_punctual run) e counts
