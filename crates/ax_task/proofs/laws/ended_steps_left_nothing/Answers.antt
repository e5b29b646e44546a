use Rattle.ax_task.proofs.Telling.{left_nothing}
use Rattle.ax_task.proofs.laws.ended_steps_left_nothing.Goals as goal

pub returns : goal.returns
returns c = left_nothing
