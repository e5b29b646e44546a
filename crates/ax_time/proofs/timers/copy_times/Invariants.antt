use Rattle.std.proofs.Common.{◌≡◌, ◌++◌}
use Rattle.ax_time.proofs.timers.copy_times.Given as goal

abbrev pub invariant-loop-time : goal.invariant-loop-time
invariant-loop-time l = l.list ++ l.time-iterator ≡ l.fn.list ++ l.times.keys
