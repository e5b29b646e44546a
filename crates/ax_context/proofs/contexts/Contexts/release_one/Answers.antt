use Rattle.std.proofs.Common.{refl, ◌<◌, arith}
use Rattle.ax_context.proofs.SlotLemmas.{sound_put}
use Rattle.ax_context.proofs.contexts.Contexts.release_one.Goals as goal

pub invariant_of-self : goal.invariant_of-self
invariant_of-self g c =
    let context = c.index_mut-context.result.now in
    let there = c.index_mut-context.ensures.value in
    let more : 1 < context.count = rw (← c.self.view_is, there) at c.requires.more in
    let most = (c.self.invariant.counted c.args.id context there).1 in
    sound_put _ c.args.id context _ _ _ there refl (omega arith) (omega arith) c.self.invariant
