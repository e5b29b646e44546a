use Rattle.std.proofs.Common.{subst}
use Rattle.ax_store.specs.Entries.{IsRising}
use Rattle.ax_store.proofs.KeyLemmas.{rising-texts}
use Rattle.ax_store.proofs.memtable.Memtable.len.Goals as goal

pub returns-clause-rising : goal.returns-clause-rising
returns-clause-rising c = subst IsRising c.self.view_is (rising-texts c.self.inside.entries.entries c.len.ensures.ordered)
