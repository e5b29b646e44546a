use Rattle.std.proofs.Common.{◌≡◌, ◌++◌, drop}
use Rattle.ax_store.specs.Entries.{part, seen_all}
use Rattle.ax_store.proofs.run.copy_first.Given as goal

abbrev pub invariant-loop-entry : goal.invariant-loop-entry
invariant-loop-entry l = l.found.items ++ seen_all l.values (part l.prefix (drop l.entry-index l.rest)) ≡ seen_all l.values (part l.prefix l.rest)
