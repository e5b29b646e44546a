use Rattle.ax_task.proofs.Parsed.{plain_so_far, plain_whole}
use Rattle.ax_task.proofs.laws.plain_list_may_be_written.Goals as goal

pub returns-clause-whole : goal.returns-clause-whole
returns-clause-whole c = plain_whole

pub returns-clause-so_far : goal.returns-clause-so_far
returns-clause-so_far c = plain_so_far
