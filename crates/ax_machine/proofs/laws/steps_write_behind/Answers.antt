use Rattle.ax_machine.proofs.StepLemmas.{steps_behind}
use Rattle.ax_machine.proofs.laws.steps_write_behind.Goals as goal

pub returns : goal.returns
returns c = steps_behind
