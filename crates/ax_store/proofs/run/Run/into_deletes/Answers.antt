use Rattle.std.proofs.Common.{sym, subst}
use Rattle.ax_store.specs.Entries.{IsRising}
use Rattle.ax_store.proofs.DeleteLemmas.{rising-live}
use Rattle.ax_store.proofs.run.Run.into_deletes.Goals as goal

pub invariant_of-result : goal.invariant_of-result
invariant_of-result c = subst IsRising (sym c.in_ok-entries.ensures) (rising-live c.self.inside.entries.items c.self.invariant)
