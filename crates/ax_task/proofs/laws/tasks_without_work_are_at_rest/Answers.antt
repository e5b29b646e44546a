use Rattle.ax_task.proofs.Telling.{without_work, without_work_none}
use Rattle.ax_task.proofs.laws.tasks_without_work_are_at_rest.Goals as goal

pub returns-clause-free : goal.returns-clause-free
returns-clause-free c = without_work

pub returns-clause-none : goal.returns-clause-none
returns-clause-none c = without_work_none
