use Rattle.std.proofs.Common.{◌≡◌, true, take}
use Rattle.ax_base.specs.Lines.{no_feed}
use Rattle.ax_base.proofs.find.feed_from.Given as goal

abbrev pub invariant-loop-i : goal.invariant-loop-i
invariant-loop-i l = no_feed (take l.i l.held) ≡ true
