use Rattle.std.proofs.Common.{◌≡◌, map, take}
use Rattle.ax_text.specs.Exprs.{value}
use Rattle.ax_expr.specs.Shown.{shown_expr}
use Rattle.ax_future.specs.Talks.{names_at, known_in}
use Rattle.ax_future.proofs.going.values_in.Given as goal

abbrev pub invariant-loop-expr : goal.invariant-loop-expr
invariant-loop-expr l = l.line ≡ map (value (known_in l.facts) (names_at l.names.items)) (map shown_expr (take l.expr-index l.exprs))
