use Rattle.std.proofs.Common.{◌∙◌, ap}
use Rattle.std.proofs.lemmas.Result.{on_ok_weaker}
use Rattle.ax_store.specs.Held.{Held}
use Rattle.ax_store.specs.Layers.{changed, content_of}
use Rattle.ax_store.proofs.ContentLemmas.{one_changed}
use Rattle.ax_store.proofs.run_store.RunStore.insert.Goals as goal

pub returns-clause-ok : goal.returns-clause-ok
returns-clause-ok c =
    on_ok_weaker c.insert.result (λ h.
    one_changed c.self.inside.layers.memtable c.insert.new.self c.args.key.items c.args.change (content_of c.self.inside.layers.runs.items) h
    ∙ ap (λ (s : Held). changed c.args.key.items c.args.change s.content) c.self.view_is) c.insert.ensures.ok
