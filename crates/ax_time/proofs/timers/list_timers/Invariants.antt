use Rattle.std.proofs.Common.{◌≡◌, ◌++◌}
use Rattle.ax_time.specs.Held.{timers_at}
use Rattle.ax_time.proofs.timers.list_timers.Given as goal

abbrev pub invariant-loop-time : goal.invariant-loop-time
invariant-loop-time l = l.list ++ timers_at l.key l.time-iterator ≡ l.fn.list ++ timers_at l.key l.times.keys
