use Rattle.std.proofs.Common.{◌≡◌, ◌++◌, take, drop}
use Rattle.ax_syntax.specs.Shapes.{before_or, behind_or}
use Rattle.ax_syntax.proofs.shape.around_or.Given as goal

abbrev pub invariant-loop-i : goal.invariant-loop-i
invariant-loop-i l = record {
  before : take l.i l.words ++ before_or (drop l.i l.words) ≡ before_or l.words;
  behind : behind_or (drop l.i l.words) ≡ behind_or l.words;
}
