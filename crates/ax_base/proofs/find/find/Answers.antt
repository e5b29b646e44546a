use Rattle.std.proofs.Common.{ap, length, arith}
use Rattle.ax_base.proofs.PieceLemmas.{last_told}
use Rattle.ax_base.proofs.find.find.Goals as goal

pub returns-in-Ok-eq0-clause-told : goal.returns-in-Ok-eq0-clause-told
returns-in-Ok-eq0-clause-told g c =
    let w1 = c.loop-n.window in
    let size = c.as_slice-from.ensures.value in
    last_told _ _ _ c.args.window.now w1 c.fill.new.self c.args.limit _ (ap length size)
    c.loop-n.invariant.same (c.in-Ok-eq0.ensures.end (omega arith)) c.in-Ok-eq0.ensures.taken c.in-Ok-eq0.ensures.grown (omega (arith, c.in-Ok-eq0.ensures.size))
    (rw c.as_slice.ensures.value at c.in-Rest.ensures.0) (omega (arith, ap length size)) (rw c.as_slice.ensures.value at c.in-Rest.ensures.1) (rw c.as_slice.ensures.value at c.in-Rest.ensures.2)
