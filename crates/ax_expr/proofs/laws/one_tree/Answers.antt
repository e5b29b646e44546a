use Rattle.ax_expr.proofs.DerivationLemmas.{spells_one}
use Rattle.ax_expr.proofs.laws.one_tree.Goals as goal

pub returns : goal.returns
returns c = spells_one
