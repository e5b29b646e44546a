use Rattle.ax_task.proofs.Telling.{read_wrote, write_wrote, memory_wrote}
use Rattle.ax_task.proofs.laws.stopped_runs_wrote_a_part.Goals as goal

pub returns-clause-read : goal.returns-clause-read
returns-clause-read c = read_wrote

pub returns-clause-write : goal.returns-clause-write
returns-clause-write c = write_wrote

pub returns-clause-memory : goal.returns-clause-memory
returns-clause-memory c = memory_wrote
