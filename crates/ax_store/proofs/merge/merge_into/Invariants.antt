use Rattle.std.proofs.Common.{◌≡◌, ◌+◌, ◌++◌, ◌≤◌, length, vec_len}
use Rattle.std.specs.Vec.{vec_capacity}
use Rattle.ax_store.specs.Entries.{merged}
use Rattle.ax_store.specs.Merge.{left, IsCounted}
use Rattle.ax_store.proofs.merge.merge_into.Given as goal

abbrev pub invariant-loop-entry : goal.invariant-loop-entry
invariant-loop-entry l = record {
  moved : l.out.items ++ left l.merge ≡ l.fn.out.items ++ merged l.fn.newer.items l.fn.older.items;
  room : vec_len l.out + length (left l.merge) ≤ vec_capacity l.out;
  counted : IsCounted l.merge;
}

abbrev pub decreases-loop-entry : goal.decreases-loop-entry
decreases-loop-entry l = length (left l.merge)
