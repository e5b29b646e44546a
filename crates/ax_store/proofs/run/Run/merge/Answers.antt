use Rattle.std.proofs.Common.{◌≡◌, ◌∙◌, ◌++◌, ap, ap₂, sym, subst}
use Rattle.ax_store.specs.Entries.{Layer, IsRising, entry_at, merged}
use Rattle.ax_store.proofs.MergeLemmas.{entry-merged, rising-merged}
use Rattle.ax_store.proofs.run.Run.merge.Goals as goal

pub invariant_of-result : goal.invariant_of-result
invariant_of-result c =
    let is = c.merge_into.ensures ∙ ap (λ (l : Layer). l ++ merged c.newer.inside.entries.items c.older.inside.entries.items) c.requires.empty in
    subst IsRising (sym is) (rising-merged c.newer.inside.entries.items c.older.inside.entries.items c.newer.invariant c.older.invariant)

pub returns-clause-entries : goal.returns-clause-entries
returns-clause-entries c q =
    let is : c.merge_into.new.out.items ≡ merged c.args.newer c.args.older = c.merge_into.ensures
    ∙ ap (λ (l : Layer). l ++ merged c.newer.inside.entries.items c.older.inside.entries.items) c.requires.empty
    ∙ ap₂ merged c.newer.view_is c.older.view_is in
    ap (λ (l : Layer). entry_at l q) is
    ∙ entry-merged c.args.newer c.args.older (subst IsRising c.newer.view_is c.newer.invariant) (subst IsRising c.older.view_is c.older.invariant) q
