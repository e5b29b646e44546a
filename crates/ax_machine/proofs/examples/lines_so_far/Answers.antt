use Rattle.ax_machine.proofs.ExampleLemmas.{firing_missing_so_far, row_too_early_so_far, row_in_parallel_so_far, last_too_early_so_far}
use Rattle.ax_machine.proofs.examples.lines_so_far.Goals as goal

pub returns-clause-missing : goal.returns-clause-missing
returns-clause-missing c = firing_missing_so_far

pub returns-clause-serial : goal.returns-clause-serial
returns-clause-serial c = row_too_early_so_far

pub returns-clause-parallel : goal.returns-clause-parallel
returns-clause-parallel c = row_in_parallel_so_far

pub returns-clause-block : goal.returns-clause-block
returns-clause-block c = last_too_early_so_far
