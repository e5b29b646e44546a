use Rattle.std.proofs.Common.{drop}
use Rattle.ax_machine.specs.Blocks.{item_lines}
use Rattle.ax_snapshot.proofs.AddedLemmas.{GoesOn}
use Rattle.ax_snapshot.proofs.write.put_items.Given as goal

abbrev pub invariant-loop-number : goal.invariant-loop-number
invariant-loop-number l = GoesOn l.fn.block l.block (item_lines l.key l.name l.items) (item_lines l.key l.name (drop l.number-index l.items))
