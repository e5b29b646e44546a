use Rattle.std.proofs.Common.{refl}
use Rattle.ax_machine.specs.Firings.{most_firings}
use Rattle.ax_machine.proofs.examples.lower_watermark_is_skipped.Goals as goal

pub returns : goal.returns
unfolding most_firings
returns c = refl
