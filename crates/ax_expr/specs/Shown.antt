-- The expression that a tree of the code stands for.
use Rattle.ax_text.specs.Exprs.{Expr, Leaf, Join}
use Rattle.ax_expr.specs.declared.tree.Expr.{Expr as Code, fold-Expr}
use Rattle.ax_expr.specs.declared.tree.Expr.TheOpen.{Expr-F}
use Rattle.ax_expr.specs.declared.tree.Expr.TheOpen as e

abbrev pub shown_level : Expr-F Expr → Expr
shown_level (e.Leaf a) = Leaf a
shown_level (e.Join o a b) = Join o a b

unfoldable pub shown_expr : Code → Expr
shown_expr code = fold-Expr Expr shown_level code
