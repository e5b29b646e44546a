use Rattle.std.proofs.Common.{◌≡◌, drop}
use Rattle.ax_expr.specs.Reading.{walk, tree_of, stack_of, expr_some}
use Rattle.ax_expr.proofs.read.read_expr.Given as goal

abbrev pub invariant-loop-token : goal.invariant-loop-token
invariant-loop-token l = walk (expr_some l.operand) (stack_of l.waiting.items) (drop l.token-index l.tokens) ≡ tree_of l.tokens
