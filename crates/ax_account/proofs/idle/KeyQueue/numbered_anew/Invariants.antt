use Rattle.std.proofs.Common.{◌≡◌, ◌++◌, length}
use Rattle.ax_account.proofs.idle.KeyQueue.numbered_anew.Given as goal

abbrev pub invariant-loop-key : goal.invariant-loop-key
invariant-loop-key l = record { keys : l.fresh.keys ++ l.key-iterator ≡ l.fn.self.keys; next : l.fresh.next ≡ length l.fresh.keys }
