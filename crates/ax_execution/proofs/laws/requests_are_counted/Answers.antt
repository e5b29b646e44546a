use Rattle.std.proofs.Common.{[]}
use Rattle.ax_execution.proofs.Falls.{served_more}
use Rattle.ax_execution.proofs.Handlers.{Good, handles}
use Rattle.ax_execution.proofs.Waits.{started_length, delivered_length}
use Rattle.ax_execution.specs.Runs.{end_of}
use Rattle.ax_execution.proofs.WholeRuns.{run_good, run_orderly}
use Rattle.ax_execution.proofs.laws.requests_are_counted.Goals as goal

pub returns-clause-started : goal.returns-clause-started
returns-clause-started c run k h = started_length run.rules (end_of run) (run_orderly run) (run_good run) run.groups run.program k h

pub returns-clause-delivered : goal.returns-clause-delivered
returns-clause-delivered c run k slot h = delivered_length run.rules (end_of run) (run_orderly run) (run_good run) run.groups run.program k slot h

pub returns-clause-served : goal.returns-clause-served
returns-clause-served c p job running state accepted = served_more p Good (handles p accepted) job running (record { state = state; groups = [] })
