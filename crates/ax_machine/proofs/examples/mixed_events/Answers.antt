use Rattle.ax_machine.proofs.ExampleLemmas.{mixed_is}
use Rattle.ax_machine.proofs.examples.mixed_events.Goals as goal

pub returns : goal.returns
returns c = mixed_is
