use Rattle.std.proofs.Common.{drop}
use Rattle.ax_snapshot.specs.Snaps.{pair_lines}
use Rattle.ax_snapshot.proofs.AddedLemmas.{GoesOn}
use Rattle.ax_snapshot.proofs.write.put_pairs.Given as goal

abbrev pub invariant-loop-pair : goal.invariant-loop-pair
invariant-loop-pair l = GoesOn l.fn.block l.block (pair_lines l.key l.name l.pairs) (pair_lines l.key l.name (drop l.pair-index l.pairs))
