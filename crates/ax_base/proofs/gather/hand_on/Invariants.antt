use Rattle.std.proofs.Common.{◌≡◌, length}
use Rattle.ax_base.specs.Gathered.{Moves}
use Rattle.ax_base.proofs.gather.hand_on.Given as goal

abbrev pub invariant-loop-out : goal.invariant-loop-out
invariant-loop-out g l = record {
  moved : Moves (g.K.Sink.holds l.fn.out) (g.K.Sink.holds l.out) l.fn.room l.room;
  counts : g.K.Sink.counts l.out ≡ g.K.Sink.counts l.fn.out;
  base : g.K.Sink.base l.out ≡ g.K.Sink.base l.fn.out;
}

abbrev pub decreases-loop-out : goal.decreases-loop-out
decreases-loop-out g l = length l.room
