use Rattle.std.proofs.Common.{◌∙◌, ap}
use Rattle.std.specs.FinMap.{entries, retain_keys}
use Rattle.std.proofs.lemmas.Result.{IfOk-weaker}
use Rattle.ax_store.specs.Held.{Held, begins}
use Rattle.ax_store.specs.Layers.{layers_of}
use Rattle.ax_store.proofs.LiveLemmas.{cells_are}
use Rattle.ax_store.proofs.run_store.RunStore.scan_prefix.Goals as goal

pub returns : goal.returns
returns c =
    let is = cells_are c.args.prefix.now (layers_of c.self.inside.layers) c.in_ok-run.run' c.into_cells.ensures.rising c.in_ok-run.ensures
    ∙ ap (λ (s : Held). entries (retain_keys s.content (begins c.args.prefix.now))) c.self.view_is in
    IfOk-weaker c.into_cells.result _ _ (λ cells h. h ∙ is) c.into_cells.ensures.cells
