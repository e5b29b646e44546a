use Rattle.std.proofs.Common.{◌∙◌, ap}
use Rattle.ax_store.specs.Entries.{Layer, entry_at}
use Rattle.ax_store.proofs.KeyLemmas.{entry-texts}
use Rattle.ax_store.proofs.memtable.Memtable.get.Goals as goal

pub returns : goal.returns
returns c = c.get.ensures.value ∙ entry-texts c.self.inside.entries.entries c.args.key.now ∙ ap (λ (l : Layer). entry_at l c.args.key.now) c.self.view_is
