use Rattle.ax_machine.proofs.ExampleLemmas.{firing_missing}
use Rattle.ax_machine.proofs.examples.watermark_before_its_firing_is_refused.Goals as goal

pub returns : goal.returns
returns c = firing_missing
