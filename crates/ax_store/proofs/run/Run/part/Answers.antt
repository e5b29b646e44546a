use Rattle.std.proofs.Common.{◌≡◌, ◌∙◌, ap, sym, subst}
use Rattle.ax_store.specs.Entries.{Layer, IsRising, entry_at, part, seen_all}
use Rattle.ax_store.proofs.SeenLemmas.{entry-seen_part, rising-seen}
use Rattle.ax_store.proofs.run.Run.part.Goals as goal

pub invariant_of-result : goal.invariant_of-result
invariant_of-result c =
    let is = c.in_ok-entries.ensures ∙ ap (λ (l : Layer). seen_all c.args.values (part c.args.prefix.now l)) c.deref.ensures.value in
    subst IsRising (sym is) (rising-seen c.args.values c.args.prefix.now c.self.inside.entries.items c.self.invariant)

pub returns : goal.returns
returns c q =
    let is : c.in_ok-entries.entries.items ≡ seen_all c.args.values (part c.args.prefix.now c.args.self.now)
    = c.in_ok-entries.ensures ∙ ap (λ (l : Layer). seen_all c.args.values (part c.args.prefix.now l)) (c.deref.ensures.value ∙ c.self.view_is) in
    ap (λ (l : Layer). entry_at l q) is ∙ entry-seen_part c.args.values c.args.prefix.now c.args.self.now q
