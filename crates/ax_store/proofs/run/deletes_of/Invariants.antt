use Rattle.std.proofs.Common.{◌≡◌, ◌++◌, length}
use Rattle.std.specs.Vec.Iter.{into_iter_items}
use Rattle.ax_store.specs.Entries.{deletes, live}
use Rattle.ax_store.proofs.run.deletes_of.Given as goal

abbrev pub invariant-loop-key : goal.invariant-loop-key
invariant-loop-key l = l.found.items ++ deletes (live (into_iter_items l.rest)) ≡ deletes (live l.fn.entries.items)

abbrev pub decreases-loop-key : goal.decreases-loop-key
decreases-loop-key l = length (into_iter_items l.rest)
