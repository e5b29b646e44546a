use Rattle.std.proofs.Common.{length}
use Rattle.ax_time.specs.Timers.{times_of}
use Rattle.ax_account.specs.Accounts.{waiting_of}
use Rattle.ax_core.proofs.MarkLemmas.{Going}
use Rattle.ax_core.proofs.callbacks.hand_over.Given as goal

abbrev pub invariant-loop-epoch : goal.invariant-loop-epoch
invariant-loop-epoch l = Going l.key (times_of l.timers l.key) l.fn.accounts l.accounts l.fn.epochs l.epochs l.next

abbrev pub decreases-loop-epoch : goal.decreases-loop-epoch
decreases-loop-epoch l = length (waiting_of l.accounts l.key)
