use Rattle.ax_task.proofs.Telling.{ended_ok, ended_input, ended_program}
use Rattle.ax_task.proofs.laws.runs_that_end_wrote_all.Goals as goal

pub returns-clause-ok : goal.returns-clause-ok
returns-clause-ok c = ended_ok

pub returns-clause-input : goal.returns-clause-input
returns-clause-input c = ended_input

pub returns-clause-program : goal.returns-clause-program
returns-clause-program c = ended_program
