use Rattle.ax_execution.proofs.Orderly as orderly
use Rattle.ax_execution.proofs.Handlers.{Good, handles}
use Rattle.ax_execution.proofs.laws.never_stuck.Goals as goal

pub returns : goal.returns
returns c run some none = orderly.never_stuck run.groups run.program Good (handles run.program run.accepted) run.from run.origin run.rules run.events run.allowed some none
