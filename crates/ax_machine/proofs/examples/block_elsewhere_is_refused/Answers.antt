use Rattle.ax_machine.proofs.ExampleLemmas.{block_too_early, block_too_late}
use Rattle.ax_machine.proofs.examples.block_elsewhere_is_refused.Goals as goal

pub returns-clause-earlier : goal.returns-clause-earlier
returns-clause-earlier c = block_too_early

pub returns-clause-later : goal.returns-clause-later
returns-clause-later c = block_too_late
