use Rattle.std.proofs.Common.{◌≡◌, ◌+◌, ◌&&◌, length, nat_le}
use Rattle.std.specs.List.{list_all}
use Rattle.ax_syntax.specs.Shapes.{is_expr, is_exprs, parts_of}
use Rattle.ax_syntax.proofs.shape.is_exprs.Given as goal

abbrev pub invariant-loop-count : goal.invariant-loop-count
invariant-loop-count l = (list_all is_expr (parts_of l.rest) && nat_le (l._count + length (parts_of l.rest)) 16) ≡ is_exprs l.words
