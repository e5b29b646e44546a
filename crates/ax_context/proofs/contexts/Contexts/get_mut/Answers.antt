use Rattle.std.proofs.Common.{refl}
use Rattle.ax_context.proofs.SlotLemmas.{sound_put}
use Rattle.ax_context.proofs.contexts.Contexts.get_mut.Goals as goal

pub invariant_of-self-lent : goal.invariant_of-self-lent
invariant_of-self-lent g c = λ w.
    let context = c.index_mut-context.result.now in
    let there = c.index_mut-context.ensures.value in
    let counted = c.self.invariant.counted c.args.id context there in
    sound_put _ c.args.id context _ _ _ there refl counted.0 counted.1 c.self.invariant
