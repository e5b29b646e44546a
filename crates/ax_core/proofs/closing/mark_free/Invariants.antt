use Rattle.std.proofs.Common.{◌≤◌, ◌+◌, length, drop}
use Rattle.ax_account.specs.Parts.{is_free}
use Rattle.ax_core.specs.Closings.{Books, MarksAll, books, current_count}
use Rattle.ax_core.proofs.closing.mark_free.Given as goal

abbrev pub invariant-loop-key : goal.invariant-loop-key
invariant-loop-key l = record {
  marks : (t : Books) → MarksAll is_free l.time (drop l.key-index l.keys) (books l.accounts l.epochs) t → MarksAll is_free l.time l.keys (books l.fn.accounts l.fn.epochs) t;
  count : current_count l.epochs + length (drop l.key-index l.keys) ≤ current_count l.fn.epochs + length l.keys;
}
