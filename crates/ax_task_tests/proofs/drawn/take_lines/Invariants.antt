use Rattle.ax_lang.specs.Shown.{shown_kinds}
use Rattle.ax_plain.specs.Plain.{ThreadFits}
use Rattle.ax_task_tests.proofs.drawn.take_lines.Given as goal

abbrev pub invariant-loop-line : goal.invariant-loop-line
invariant-loop-line g l = record {
  next : (goal.iterator-loop-line g).can_next l.line-iterator;
  ends : (goal.iterator-loop-line g).is_finite l.line-iterator;
  thread : ThreadFits (shown_kinds l.program) l.thread;
}
