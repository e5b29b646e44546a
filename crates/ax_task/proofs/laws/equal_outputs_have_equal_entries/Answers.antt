use Rattle.ax_task.proofs.Parsed.{so_far_tell, whole_tell}
use Rattle.ax_task.proofs.laws.equal_outputs_have_equal_entries.Goals as goal

pub returns-clause-whole : goal.returns-clause-whole
returns-clause-whole c = whole_tell

pub returns-clause-so_far : goal.returns-clause-so_far
returns-clause-so_far c = so_far_tell
