use Rattle.ax_execution.proofs.Outside.{is_at_rest, rest_none, rest_fires_none}
use Rattle.ax_execution.specs.Runs.{end_of}
use Rattle.ax_execution.proofs.WholeRuns.{run_orderly, run_punctual}
use Rattle.ax_execution.proofs.laws.rest_is_seen_from_outside.Goals as goal

pub returns-clause-enough : goal.returns-clause-enough
returns-clause-enough c run none sent = is_at_rest run.rules (end_of run) (run_orderly run) (run_punctual run) run.groups run.program none sent

pub returns-clause-needed : goal.returns-clause-needed
returns-clause-needed c m h = rest_none m h

pub returns-clause-none_must : goal.returns-clause-none_must
returns-clause-none_must c run rest = rest_fires_none run.rules (end_of run) (run_orderly run) rest
