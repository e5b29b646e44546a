use Rattle.std.proofs.Common.{◌∙◌, ap, cond, Some}
use Rattle.std.specs.BTreeMap.{is_at}
use Rattle.ax_store.specs.Held.{bytes_cmp}
use Rattle.ax_store.specs.Entries.{Layer, entry_at, texts}
use Rattle.ax_store.proofs.KeyLemmas.{entry-insert, texts-insert}
use Rattle.ax_store.proofs.memtable.Memtable.insert.Goals as goal

pub returns-in-Ok-clause-ok : goal.returns-in-Ok-clause-ok
returns-in-Ok-clause-ok c q =
    ap (λ (l : Layer). entry_at l q) (ap texts c.in-Ok.ensures.entries ∙ texts-insert c.self.inside.entries.entries c.args.key c.args.change)
    ∙ entry-insert (texts c.self.inside.entries.entries) c.args.key.items c.args.change q
    ∙ ap (λ (l : Layer). cond (is_at (bytes_cmp q) c.args.key.items) (Some c.args.change) (entry_at l q)) c.self.view_is
