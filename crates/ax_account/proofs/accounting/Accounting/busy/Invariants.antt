use Rattle.std.proofs.Common.{◌≡◌, ◌++◌}
use Rattle.ax_account.specs.Accounts.{busy_keys}
use Rattle.ax_account.proofs.accounting.Accounting.busy.Given as goal

abbrev pub invariant-loop-key : goal.invariant-loop-key
invariant-loop-key l = l.keys ++ l.key-iterator ≡ busy_keys l.fn.self
