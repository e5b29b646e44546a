use Rattle.std.proofs.Common.{◌≡◌, ◌∙◌, None, sym, ap, subst}
use Rattle.ax_state.specs.Decls.{kinds}
use Rattle.ax_task.specs.Serving.{Holding, HoldsKinds, content_of, content_with}
use Rattle.ax_task.proofs.BatchLemmas.{applied_first, either_way, kinds_kept, held_at}
use Rattle.ax_task.proofs.shard.Shard.apply_first.Goals as goal

pub invariant_of-self : goal.invariant_of-self
invariant_of-self c =
    let inside = c.self.inside in
    let held = kinds inside.decls in
    either_way c.insert.result c.insert.ensures.updates c.insert.ensures.err
    (λ now. kinds_kept held inside.states.entries c.insert.new.self.entries c.in_ok-key.key c.apply.new.self now.0 (c.in_ok-answer.ensures.kinds ∙ c.in_ok-cells.ensures.kinds) c.self.invariant)
    (λ same. subst (HoldsKinds held) (sym same) c.self.invariant)

pub invariant_of-self-2 : goal.invariant_of-self-2
invariant_of-self-2 c =
    let inside = c.self.inside in
    kinds_kept (kinds inside.decls) inside.states.entries c.insert.new.self.entries c.in_ok-key.key c.apply.new.self (c.in-Ok.ensures.updates).0 (c.in_ok-answer.ensures.kinds ∙ c.in_ok-cells.ensures.kinds) c.self.invariant

pub returns-clause-content : goal.returns-clause-content
returns-clause-content c =
    let inside = c.self.inside in
    let P : Holding → Type 0 = λ h. held_at h.entries c.args.item.now.key ≡ None in
    let absent = subst P (sym c.self.view_is) c.requires.absent in
    applied_first (kinds inside.decls) inside.states.entries c.insert.new.self.entries c.in_ok-key.key c.apply.new.self (c.in-Ok.ensures.updates).0 c.args.item.now c.in_ok-cells.cells c.in_ok-key.ensures absent
    c.in_ok-cells.ensures.untouched c.in_ok-answer.ensures.cells
    ∙ ap (λ (h : Holding). content_with c.args.item.now (content_of h)) c.self.view_is
