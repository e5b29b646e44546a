use Rattle.std.proofs.Common.{refl}
use Rattle.ax_machine.specs.Firings.{most_firings}
use Rattle.ax_machine.proofs.examples.same_timer_fires_once.Goals as goal

pub returns : goal.returns
unfolding most_firings
returns c = refl
