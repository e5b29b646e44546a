use Rattle.std.proofs.Common.{refl, ◌<◌, arith}
use Rattle.ax_context.proofs.SlotLemmas.{sound_put}
use Rattle.ax_context.proofs.contexts.Contexts.retain.Goals as goal

pub invariant_of-self : goal.invariant_of-self
invariant_of-self g c =
    let context = c.index_mut-context.result.now in
    let few : context.count < 17 = rw (← c.self.view_is, c.index_mut-context.ensures.value) at c.requires.few in
    sound_put _ c.args.id context _ _ _ c.index_mut-context.ensures.value refl (omega arith) (omega arith) c.self.invariant
