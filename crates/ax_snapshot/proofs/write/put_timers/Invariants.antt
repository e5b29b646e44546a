use Rattle.std.proofs.Common.{drop}
use Rattle.ax_machine.specs.Blocks.{timer_lines}
use Rattle.ax_snapshot.proofs.AddedLemmas.{GoesOn}
use Rattle.ax_snapshot.proofs.write.put_timers.Given as goal

abbrev pub invariant-loop-time : goal.invariant-loop-time
invariant-loop-time l = GoesOn l.fn.block l.block (timer_lines l.key l.times) (timer_lines l.key (drop l.time-index l.times))
