use Rattle.std.proofs.Common.{refl}
use Rattle.ax_text.specs.Exprs.{apply_op}
use Rattle.ax_machine.proofs.examples.counts_by_key.Goals as goal

pub returns : goal.returns
unfolding apply_op
returns c = refl
