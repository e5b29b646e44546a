use Rattle.std.proofs.Common.{refl}
use Rattle.std.specs.Fmt.{digits}
use Rattle.ax_machine.specs.Firings.{most_firings}
use Rattle.ax_machine.proofs.examples.empty_block.Goals as goal

pub returns : goal.returns
unfolding most_firings digits
returns c = refl
