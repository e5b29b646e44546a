use Rattle.std.proofs.Common.{◌≡◌, refl, arith}
use Rattle.ax_context.proofs.SlotLemmas.{sound_put, sound_gone}
use Rattle.ax_context.proofs.contexts.Contexts.release.Goals as goal

pub invariant_of-self : goal.invariant_of-self
invariant_of-self g c =
    let context = c.index_mut.result.now in
    let there = c.index_mut.ensures.value in
    let count : c.count.result ≡ context.count = rw (← c.self.view_is, there) at c.count.ensures.value in
    let most = (c.self.invariant.counted c.args.id context there).1 in
    sound_put _ c.args.id context _ _ _ there refl (omega arith) (omega arith) c.self.invariant

pub invariant_of-self-2 : goal.invariant_of-self-2
invariant_of-self-2 g c =
    rw (c.remove-gone.ensures.slots, c.remove-gone.ensures.capacity)
    (sound_gone _ c.args.id _ _ _ c.remove-gone.ensures.value c.self.invariant)
