use Rattle.std.proofs.Common.{◌≡◌, ◌≤◌, min, length}
use Rattle.ax_store.specs.Layers.{content_of, layers_of}
use Rattle.ax_store.proofs.layers.Layers.compact.Given as goal

abbrev pub invariant-loop-alloc : goal.invariant-loop-alloc
invariant-loop-alloc l = record {
  memtable : l.self.memtable ≡ l.fn.self.memtable;
  content : content_of (layers_of l.self) ≡ content_of (layers_of l.fn.self);
  runs : min 1 (length l.self.runs.items) ≡ min 1 (length l.fn.self.runs.items);
  few : length l.self.runs.items ≤ length l.fn.self.runs.items;
}

abbrev pub decreases-loop-alloc : goal.decreases-loop-alloc
decreases-loop-alloc l = length l.self.runs.items
