use Rattle.std.proofs.Common.{◌≡◌, ◌++◌, take}
use Rattle.ax_core.specs.Events.{names_in}
use Rattle.ax_core.proofs.batches.put_names.Given as goal

abbrev pub invariant-loop-item : goal.invariant-loop-item
invariant-loop-item l = l.out ≡ l.fn.out ++ names_in (take l.item-index l.batch)
