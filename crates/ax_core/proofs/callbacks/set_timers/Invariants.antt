use Rattle.std.proofs.Common.{List, drop}
use Rattle.ax_text.specs.Run.{times_after}
use Rattle.ax_time.specs.declared.timer.Timer.{Timer}
use Rattle.ax_time.specs.Timers.{times_of, PutsTimes}
use Rattle.ax_core.proofs.callbacks.set_timers.Given as goal

abbrev pub invariant-op : goal.invariant-op
invariant-op l = (u : List Timer) → PutsTimes l.timers u l.key (times_after (drop l.op-index l.ops) (times_of l.timers l.key)) → PutsTimes l.fn.timers u l.key (times_after l.ops (times_of l.fn.timers l.key))
