use Rattle.std.proofs.Common.{◌≡◌, ◌∙◌, ap, set, arith}
use Rattle.std.proofs.lemmas.Grind.{common_steps}
use Rattle.ax_store.specs.Layers.{content_of, merged_first}
use Rattle.ax_store.proofs.MergeLemmas.{content_first}
use Rattle.ax_store.proofs.layers.merge_first.Goals as goal

pub returns-clause-content : goal.returns-clause-content
returns-clause-content c =
    let ok : set (set c.remove-older.new.self.items 0 c.replace-newer.new.dest) 0 c.merge.result ≡ merged_first c.args.runs.now.items = grind (arith, common_steps) in
    ap content_of ok ∙ content_first c.args.runs.now.items c.index.result.now c.index-2.result.now c.requires c.index.ensures c.index-2.ensures c.len.ensures.rising c.len-2.ensures.rising
