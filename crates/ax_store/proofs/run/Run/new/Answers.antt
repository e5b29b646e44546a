use Rattle.std.proofs.Common.{sym, subst}
use Rattle.std.specs.List.Sorted.{IsStrictlySortedBy}
use Rattle.ax_store.specs.Entries.{IsRising}
use Rattle.ax_store.proofs.run.Run.new.Goals as goal

pub invariant_of-result : goal.invariant_of-result
unfolding IsStrictlySortedBy
invariant_of-result c = subst IsRising (sym c.new.ensures.items) tt
