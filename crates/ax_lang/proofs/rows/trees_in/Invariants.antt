use Rattle.std.proofs.Common.{◌≡◌, ◌++◌, length, map}
use Rattle.ax_syntax.specs.Shapes.{parts_of}
use Rattle.ax_expr.specs.Shown.{shown_expr}
use Rattle.ax_lang.specs.Rows.{tree_in}
use Rattle.ax_lang.proofs.rows.trees_in.Given as goal

abbrev pub invariant-part : goal.invariant-part
invariant-part l = map shown_expr l.trees ++ map (tree_in l.locals) (parts_of l.rest) ≡ map (tree_in l.locals) (parts_of l.words)

abbrev pub decreases-part : goal.decreases-part
decreases-part l = length l.rest
