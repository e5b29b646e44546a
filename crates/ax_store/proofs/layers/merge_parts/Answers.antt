use Rattle.std.proofs.Common.{◌≡◌, ◌∙◌, ◌+◌, ap, cond, drop, None, Option, option_map, sym}
use Rattle.std.proofs.lemmas.List.{at_drop_more}
use Rattle.ax_store.specs.declared.change.Change.{Change}
use Rattle.ax_store.specs.Held.{begins}
use Rattle.ax_store.specs.Entries.{Layer, entry_at, or_below, seen}
use Rattle.ax_store.specs.Layers.{newest_of}
use Rattle.ax_store.proofs.MergeLemmas.{joined}
use Rattle.ax_store.proofs.SeenLemmas.{seen_or}
use Rattle.ax_store.proofs.layers.merge_parts.Goals as goal

pub loop-run-preserved : goal.loop-run-preserved
loop-run-preserved c q =
    let b = begins c.args.prefix.now q in
    let values = c.args.values in
    let rest = newest_of (drop (c.loop-run.run-index + 1) c.args.runs.now) q in
    let before = entry_at c.loop-run.found q in
    let item = entry_at c.run-item.result q in
    let here : newest_of (drop c.loop-run.run-index c.args.runs.now) q ≡ or_below item rest
    = at_drop_more (λ l. newest_of l q) c.args.runs.now c.loop-run.run-index c.run-item.result c.loop-run-test.true
    ∙ ap (λ (l : Layer). or_below (entry_at l q) rest) (sym c.run-item.is) in
    ap (λ (o : Option Change). or_below o (cond b (option_map (seen values) rest) None)) (c.merge-found.ensures.entries q ∙ ap (or_below before) (c.in_ok-older.ensures q))
    ∙ joined b before (option_map (seen values) item) (option_map (seen values) rest)
    ∙ ap (λ (o : Option Change). or_below before (cond b o None)) (seen_or values item rest ∙ ap (option_map (seen values)) (sym here))
    ∙ c.loop-run.invariant q
