use Rattle.std.proofs.Common.{refl}
use Rattle.ax_execution.proofs.Lawfully.{always_in_step, so_far, at_rest}
use Rattle.ax_execution.proofs.Handlers.{Good, handles}
use Rattle.ax_execution.specs.Machine.{taken}
use Rattle.ax_execution.specs.Runs.{end_of}
use Rattle.ax_execution.proofs.laws.written_is_lawful.Goals as goal

pub returns-clause-so_far : goal.returns-clause-so_far
returns-clause-so_far c run = so_far run.groups run.program Good (handles run.program run.accepted) run.from run.origin run.rules.serial (end_of run) (taken run.events) (always_in_step run.groups run.program Good (handles run.program run.accepted) run.from run.origin run.rules.serial run.rules refl run.events run.allowed)

pub returns-clause-at_rest : goal.returns-clause-at_rest
returns-clause-at_rest c run rest = at_rest run.groups run.program Good (handles run.program run.accepted) run.from run.origin run.rules.serial (end_of run) (taken run.events) (always_in_step run.groups run.program Good (handles run.program run.accepted) run.from run.origin run.rules.serial run.rules refl run.events run.allowed) rest
