use Rattle.std.proofs.Common.{◌≡◌, ◌++◌, map, length}
use Rattle.std.specs.Vec.Iter.{into_iter_items}
use Rattle.ax_store.specs.Held.{pair_of}
use Rattle.ax_store.specs.Entries.{live}
use Rattle.ax_store.proofs.run.cells_of.Given as goal

abbrev pub invariant-loop-key : goal.invariant-loop-key
invariant-loop-key l = map pair_of l.cells ++ live (into_iter_items l.rest) ≡ live l.fn.entries.items

abbrev pub decreases-loop-key : goal.decreases-loop-key
decreases-loop-key l = length (into_iter_items l.rest)
