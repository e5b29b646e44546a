use Rattle.ax_execution.proofs.Falls as falls
use Rattle.ax_execution.proofs.Handlers.{Good, handles}
use Rattle.ax_execution.proofs.Measure.{silent_work}
use Rattle.ax_execution.proofs.RestWork.{rest_work}
use Rattle.ax_execution.proofs.laws.work_falls.Goals as goal

pub returns-clause-falls : goal.returns-clause-falls
returns-clause-falls c run e i h = falls.work_falls run.program Good (handles run.program run.accepted) run.groups run.from run.origin run.rules run.events run.allowed e i h

pub returns-clause-silent : goal.returns-clause-silent
returns-clause-silent c p part accepted = silent_work p Good (handles p accepted) part

pub returns-clause-rest : goal.returns-clause-rest
returns-clause-rest c p m h = rest_work p m h
