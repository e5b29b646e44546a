use Rattle.ax_core.proofs.Numbered.{counted}
use Rattle.ax_core.proofs.laws.contexts_are_counted.Goals as goal

pub returns : goal.returns
returns c = λ a calls new run few. counted a calls new run few
