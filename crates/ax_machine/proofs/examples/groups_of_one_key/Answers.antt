use Rattle.std.proofs.Common.{refl}
use Rattle.ax_text.specs.Exprs.{apply_op}
use Rattle.ax_machine.specs.Firings.{most_firings}
use Rattle.ax_machine.proofs.examples.groups_of_one_key.Goals as goal

pub returns-clause-rows : goal.returns-clause-rows
unfolding apply_op
returns-clause-rows c = refl

pub returns-clause-firing : goal.returns-clause-firing
unfolding most_firings
returns-clause-firing c = refl
