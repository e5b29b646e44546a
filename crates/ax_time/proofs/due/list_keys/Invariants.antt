use Rattle.std.proofs.Common.{◌≡◌, ◌++◌}
use Rattle.ax_time.proofs.due.list_keys.Given as goal

abbrev pub invariant-loop-key : goal.invariant-loop-key
invariant-loop-key l = l.list ++ l.key-iterator ≡ l.fn.keys.keys
