use Rattle.std.proofs.Common.{◌≡◌, ◌∙◌, ◌++◌, ◌∷◌, [], ap, arith}
use Rattle.std.proofs.lemmas.Grind.{common_steps}
use Rattle.ax_store.specs.Entries.{Layer, is_put}
use Rattle.ax_store.specs.Layers.{content_of}
use Rattle.ax_store.proofs.LiveLemmas.{content_only}
use Rattle.ax_store.proofs.PrefixLemmas.{rising-filter}
use Rattle.ax_store.proofs.layers.drop_deletes.Goals as goal

pub returns-in-Some-clause-content : goal.returns-in-Some-clause-content
returns-in-Some-clause-content c =
    let rest = c.pop.new.self.items in
    let run = c.in-Some.run' in
    let rising = c.without_deletes.ensures.rising in
    let pushed : c.push-entered.new.self.items ≡ rest ++ c.without_deletes.result ∷ [] = grind (arith, common_steps) in
    ap content_of (pushed ∙ ap (λ (r : Layer). rest ++ r ∷ []) c.without_deletes.ensures.value)
    ∙ content_only rest c.args.runs.now.items run c.in-Some.ensures.items c.requires rising (rising-filter is_put run rising)
