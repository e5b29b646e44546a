use Rattle.ax_machine.proofs.BoundLemmas.{ticks_to_the_bound}
use Rattle.ax_machine.proofs.examples.firings_have_a_bound.Goals as goal

pub returns : goal.returns
returns c = ticks_to_the_bound
