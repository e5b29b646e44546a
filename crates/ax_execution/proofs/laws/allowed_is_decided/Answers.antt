use Rattle.ax_execution.proofs.Handlers.{Good, handles}
use Rattle.ax_execution.proofs.RunTests.{allowed_is, allowed_so, is_run, run_passes}
use Rattle.ax_execution.specs.Runs.{end_of}
use Rattle.ax_execution.proofs.WholeRuns.{run_orderly}
use Rattle.ax_execution.proofs.laws.allowed_is_decided.Goals as goal

pub returns-clause-passes : goal.returns-clause-passes
returns-clause-passes c r m e h = allowed_so r m e h

pub returns-clause-is_so : goal.returns-clause-is_so
returns-clause-is_so c run e = allowed_is run.rules (end_of run) (run_orderly run) e

pub returns-clause-run : goal.returns-clause-run
returns-clause-run c r g p from es accepted fits h = is_run g p Good (handles p accepted) from fits r es h

pub returns-clause-is_passed : goal.returns-clause-is_passed
returns-clause-is_passed c r g p es m h = run_passes r g p es m h
