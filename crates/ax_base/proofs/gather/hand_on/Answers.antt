use Rattle.std.proofs.Common.{◌∙◌}
use Rattle.ax_base.proofs.GatherLemmas.{Moves-more}
use Rattle.ax_base.proofs.gather.hand_on.Goals as goal

pub loop-out-preserved : goal.loop-out-preserved
loop-out-preserved g c =
    let inv = c.loop-out.invariant in
    record {
      moved = Moves-more _ _ _ _ _ _ _ _ inv.moved c.in_ok-n.ensures.taken c.as_slice-in-loop-out.ensures c.pass.ensures;
      counts = c.in_ok-n.ensures.counts ∙ inv.counts;
      base = c.write.ensures.base ∙ inv.base;
    }
