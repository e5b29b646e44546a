use Rattle.std.proofs.Common.{◌≡◌, ◌∙◌, Some, IsSome, refl, sym, ap, subst}
use mathlib.Core.Path.{fun_ext}
use Rattle.ax_text.specs.Cells.{Cells, cells_after}
use Rattle.ax_state.specs.KeyCells.{shown_cells}
use Rattle.ax_state.specs.Decls.{kinds}
use Rattle.ax_task.specs.Serving.{Holding, cells_or, content_of, content_with}
use Rattle.ax_task.proofs.BatchLemmas.{applied, unchanged, at_err, held_at}
use Rattle.ax_task.proofs.shard.Shard.apply_held.Goals as goal

pub returns-in_err-answer-clause-err : goal.returns-in_err-answer-clause-err
returns-in_err-answer-clause-err c =
    let inside = c.self.inside in
    let some : IsSome (held_at inside.states.entries c.args.item.now.key) = subst IsSome c.in-Some.ensures.value refl in
    let after = c.get_mut.follows.holds c.apply.new.self in
    at_err c.from_residual.result (unchanged (kinds inside.decls) inside.states.entries (c.get_mut.follows.lender c.apply.new.self).entries c.args.item.now.key c.apply.new.self (after.3 some).0
    (sym c.in-Some.ensures.value ∙ ap Some (sym c.in_err-answer.ensures.err)) ∙ ap content_of c.self.view_is)

pub returns-clause-content : goal.returns-clause-content
returns-clause-content c =
    let inside = c.self.inside in
    let ks = kinds inside.decls in
    let key = c.args.item.now.key in
    let some : IsSome (held_at inside.states.entries key) = subst IsSome c.in-Some.ensures.value refl in
    let after = c.get_mut.follows.holds c.apply.new.self in
    let P : Cells → Type 0 = λ x. shown_cells c.apply.new.self ≡ cells_after c.args.item.now.request x in
    applied ks inside.states.entries (c.get_mut.follows.lender c.apply.new.self).entries key c.apply.new.self (after.3 some).0 c.args.item.now refl
    (subst P (ap (cells_or ks) c.in-Some.ensures.value) (fun_ext c.in_ok-answer.ensures.cells))
    ∙ ap (λ (h : Holding). content_with c.args.item.now (content_of h)) c.self.view_is
