use Rattle.std.proofs.Common.{◌≡◌, ◌++◌}
use Rattle.ax_time.specs.Held.{listed}
use Rattle.ax_time.proofs.timers.list_all.Given as goal

abbrev pub invariant-loop-key : goal.invariant-loop-key
invariant-loop-key l = l.timers ++ listed l.key-iterator ≡ listed l.by_key.entries
