use Rattle.std.proofs.Common.{arith}
use Rattle.ax_base.proofs.PieceLemmas.{no_feed_more}
use Rattle.ax_base.proofs.find.feed_from.Goals as goal

pub loop-i-preserved : goal.loop-i-preserved
loop-i-preserved c = no_feed_more c.args.held.now c.loop-i.i (omega arith) c.loop-i.invariant c.if-held-i-eq10.false
