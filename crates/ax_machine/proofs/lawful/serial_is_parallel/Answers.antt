use Rattle.ax_machine.proofs.MeaningLemmas.{parallel_whole, parallel_so_far}
use Rattle.ax_machine.proofs.lawful.serial_is_parallel.Goals as goal

pub returns-clause-whole : goal.returns-clause-whole
returns-clause-whole c = parallel_whole

pub returns-clause-so_far : goal.returns-clause-so_far
returns-clause-so_far c = parallel_so_far
