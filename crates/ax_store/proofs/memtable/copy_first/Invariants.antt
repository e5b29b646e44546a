use Rattle.std.proofs.Common.{◌≡◌, ◌++◌, false, length}
use Rattle.std.specs.List.{All}
use Rattle.ax_store.specs.Entries.{IsRising, is_before, part, texts}
use Rattle.ax_store.proofs.memtable.copy_first.Given as goal

abbrev pub invariant-loop-key : goal.invariant-loop-key
invariant-loop-key l = record {
  found : l.found.items ++ part l.prefix (texts l.rest) ≡ part l.prefix (texts l.fn.rest);
  rising : IsRising (texts l.rest);
  from : All (λ e. is_before l.prefix e ≡ false) (texts l.rest);
}

abbrev pub decreases-loop-key : goal.decreases-loop-key
decreases-loop-key l = length l.rest
