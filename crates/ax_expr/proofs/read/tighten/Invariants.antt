use Rattle.std.proofs.Common.{◌≡◌, vec_len}
use Rattle.ax_expr.specs.Shown.{shown_expr}
use Rattle.ax_expr.specs.Reading.{joined, stack_of}
use Rattle.ax_expr.proofs.read.tighten.Given as goal

abbrev pub invariant-reduce : goal.invariant-reduce
invariant-reduce l = joined l.level (shown_expr l.value) (stack_of l.waiting.items) ≡ joined l.level (shown_expr l.fn.operand) (stack_of l.fn.waiting.items)

abbrev pub decreases-reduce : goal.decreases-reduce
decreases-reduce l = vec_len l.waiting
