use Rattle.std.proofs.Common.{◌≤◌, ◌+◌, length, drop}
use Rattle.ax_core.specs.Closings.{Books, MarksAll, books, current_count, every}
use Rattle.ax_core.proofs.closing.mark_all.Given as goal

abbrev pub invariant-loop-key : goal.invariant-loop-key
invariant-loop-key l = record {
  marks : (t : Books) → MarksAll every l.time (drop l.key-index l.keys) (books l.accounts l.epochs) t → MarksAll every l.time l.keys (books l.fn.accounts l.fn.epochs) t;
  count : current_count l.epochs + length (drop l.key-index l.keys) ≤ current_count l.fn.epochs + length l.keys;
}
