use Rattle.std.proofs.Common.{refl}
use Rattle.std.specs.Fmt.{digits}
use Rattle.ax_text.specs.Exprs.{apply_op}
use Rattle.ax_machine.specs.Firings.{most_firings}
use Rattle.ax_machine.proofs.examples.block_by_group.Goals as goal

pub returns : goal.returns
unfolding most_firings digits apply_op
returns c = refl
