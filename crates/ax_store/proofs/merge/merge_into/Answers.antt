use Rattle.std.proofs.Common.{◌≡◌, arith, rules, refl, length}
use Rattle.std.specs.Vec.Iter.{into_iter_len}
use Rattle.ax_store.proofs.MergeLemmas.{length-merged}
use Rattle.ax_store.proofs.merge.merge_into.Goals as goal

pub loop-entry-init : goal.loop-entry-init
loop-entry-init c =
    let h = length-merged c.args.newer.items c.args.older.items in
    let a : length c.args.newer.items ≡ into_iter_len c.into_iter.result = search rules in
    let b : length c.args.older.items ≡ into_iter_len c.into_iter-2.result = search rules in
    rw (c.into_iter.ensures.rest, c.into_iter-2.ensures.rest) (record { moved = refl; room = omega (arith, h); counted = (a, b) })
