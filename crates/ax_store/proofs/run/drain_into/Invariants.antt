use Rattle.std.proofs.Common.{◌≡◌, ◌+◌, ◌++◌, ◌≤◌, length, vec_len}
use Rattle.std.specs.Vec.{vec_capacity}
use Rattle.ax_store.proofs.run.drain_into.Given as goal

abbrev pub invariant-loop-entry : goal.invariant-loop-entry
invariant-loop-entry l = record {
  moved : l.entries.items ++ l.memtable ≡ l.fn.entries.items ++ l.fn.memtable;
  room : vec_len l.entries + length l.memtable ≤ vec_capacity l.entries;
}

abbrev pub decreases-loop-entry : goal.decreases-loop-entry
decreases-loop-entry l = length l.memtable
