use Rattle.std.proofs.Common.{◌≡◌, ◌∙◌, ap, rules, subst, sym}
use Rattle.std.specs.List.{filter}
use Rattle.std.proofs.lemmas.Fn.{filter_same}
use Rattle.ax_store.specs.Entries.{IsRising, is_put}
use Rattle.ax_store.proofs.PrefixLemmas.{rising-filter}
use Rattle.ax_store.proofs.run.Run.without_deletes.Goals as goal

pub invariant_of-result : goal.invariant_of-result
invariant_of-result c =
    let is : c.retain.new.self.items ≡ filter is_put c.self.inside.entries.items = filter_same _ is_put _ (λ x b f' k. search rules) _ _ c.retain.ensures.filtered in
    subst IsRising (sym is) (rising-filter is_put c.self.inside.entries.items c.self.invariant)

pub returns-clause-value : goal.returns-clause-value
returns-clause-value c =
    let is : c.retain.new.self.items ≡ filter is_put c.self.inside.entries.items = filter_same _ is_put _ (λ x b f' k. search rules) _ _ c.retain.ensures.filtered in
    is ∙ ap (filter is_put) c.self.view_is
