use Rattle.std.proofs.Common.{refl}
use Rattle.ax_text.specs.Exprs.{apply_op}
use Rattle.ax_machine.specs.Firings.{most_firings}
use Rattle.ax_machine.proofs.examples.firing_may_set_a_timer.Goals as goal

pub returns : goal.returns
unfolding most_firings apply_op
returns c = refl
