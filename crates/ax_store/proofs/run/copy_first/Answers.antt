use Rattle.std.proofs.Common.{◌≡◌, ◌∙◌, ◌++◌, ap, sym, drop, append-nil, false, rules}
use Rattle.ax_store.specs.Held.{begins}
use Rattle.ax_store.specs.Entries.{Layer, part, seen_all}
use Rattle.ax_store.proofs.PrefixLemmas.{none_from}
use Rattle.ax_store.proofs.run.copy_first.Goals as goal

pub returns-then-not-starts_with : goal.returns-then-not-starts_with
returns-then-not-starts_with c =
    let begins_not : begins c.args.prefix.now c.entry-item.result.0 ≡ false = search rules in
    let none : part c.args.prefix.now (drop c.loop-entry.entry-index c.args.rest.now) ≡ _ =
    none_from c.args.prefix.now c.args.rest.now c.loop-entry.entry-index c.entry-item.result c.requires.rising c.requires.from c.loop-entry-test.true c.entry-item.is begins_not in
    sym (append-nil c.loop-entry.found.items) ∙ ap (λ (l : Layer). c.loop-entry.found.items ++ seen_all c.args.values l) (sym none) ∙ c.loop-entry.invariant
