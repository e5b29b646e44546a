use Rattle.ax_context.proofs.SlotLemmas.{has_it}
use Rattle.ax_context.proofs.contexts.Contexts.number.Goals as goal

pub returns-clause-own : goal.returns-clause-own
returns-clause-own g c = λ other has.
    let it = has_it _ _ (rw (← c.self.view_is) at has) in
    c.self.invariant.differ other c.args.id it.0 c.index.result.now it.1 c.index.ensures it.2
