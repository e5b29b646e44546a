use Rattle.ax_lang.specs.Shown.{shown_kinds}
use Rattle.ax_plain.specs.Plain.{ThreadFits}
use Rattle.ax_core_tests.specs.Hands.{IsReady}
use Rattle.ax_core_tests.proofs.drawn.both_take.Given as goal

abbrev pub invariant-loop-time : goal.invariant-loop-time
invariant-loop-time g l = record {
  hand : IsReady l.hand;
  thread : ThreadFits (shown_kinds l.program) l.thread;
}
