-- Trees that the code holds.
use Rattle.std.proofs.Common.{◌≡◌}
use Rattle.ax_text.specs.declared.vocabulary.Atom.{Atom}
use Rattle.ax_text.specs.Exprs.{Leaf}
use Rattle.ax_expr.specs.declared.tree.Expr.TheVariants as v
use Rattle.ax_expr.specs.Shown.{shown_expr}
use Rattle.ax_expr.proofs.ShownLemmas.{shown_leaf}

pub leaf_shown : (a : Atom) → shown_expr (v.Leaf a) ≡ Leaf a
leaf_shown a = shown_leaf a
