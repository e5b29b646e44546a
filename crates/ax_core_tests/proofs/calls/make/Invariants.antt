use Rattle.ax_core_tests.specs.Hands.{IsReady}
use Rattle.ax_core_tests.proofs.calls.make.Given as goal

abbrev pub invariant-loop-line : goal.invariant-loop-line
invariant-loop-line g l = record {
  next : (goal.iterator-loop-line g).can_next l.line-iterator;
  ends : (goal.iterator-loop-line g).is_finite l.line-iterator;
  hand : IsReady l.hand;
}
