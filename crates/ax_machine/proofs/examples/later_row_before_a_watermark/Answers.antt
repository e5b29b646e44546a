use Rattle.ax_machine.proofs.ExampleLemmas.{row_too_early, row_in_parallel}
use Rattle.ax_machine.proofs.examples.later_row_before_a_watermark.Goals as goal

pub returns-clause-serial : goal.returns-clause-serial
returns-clause-serial c = row_too_early

pub returns-clause-parallel : goal.returns-clause-parallel
returns-clause-parallel c = row_in_parallel
