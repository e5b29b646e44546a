use Rattle.std.proofs.Common.{◌≡◌, ◌≤◌, drop}
use Rattle.ax_syntax.specs.Shapes.{goes_on, is_expr}
use Rattle.ax_syntax.proofs.shape.is_expr.Given as goal

abbrev pub invariant-loop-word : goal.invariant-loop-word
invariant-loop-word l = record {
  few : l.opened ≤ l.word-index;
  same : goes_on l.opened l.ended (drop l.word-index l.words) ≡ is_expr l.words;
}
