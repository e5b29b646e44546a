use Rattle.ax_execution.proofs.GivenUp.{flight_changes, numbers_change}
use Rattle.ax_execution.specs.Runs.{end_of}
use Rattle.ax_execution.proofs.WholeRuns.{run_good, run_orderly, run_rises}
use Rattle.ax_execution.proofs.laws.contexts_are_given_up.Goals as goal

pub returns-clause-flight : goal.returns-clause-flight
returns-clause-flight c run e h = flight_changes run.rules (end_of run) (run_orderly run) (run_rises run) (run_good run) run.groups run.program e h

pub returns-clause-numbers : goal.returns-clause-numbers
returns-clause-numbers c run e n h = numbers_change run.rules (end_of run) (run_orderly run) (run_rises run) (run_good run) run.groups run.program n e h
