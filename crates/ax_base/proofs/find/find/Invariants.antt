use Rattle.std.proofs.Common.{◌≡◌, ◌-◌, ◌≤◌, ◌++◌, ◌+◌, true, length, take}
use Rattle.ax_base.specs.Lines.{no_feed, Grows}
use Rattle.ax_base.specs.Outside.{Told}
use Rattle.ax_base.proofs.find.find.Given as goal

abbrev pub invariant-loop-n : goal.invariant-loop-n
invariant-loop-n g l = record {
  within : l.from ≤ length l.window;
  none : no_feed (take l.from l.window) ≡ true;
  same : Told (g.S.Source.left l.fn.input) (g.S.Source.left l.input) (λ a b. l.fn.window ++ a ≡ l.window ++ b);
  grown : Grows (g.S.Source.left l.fn.input) (g.S.Source.left l.input) l.fn.window l.window;
  count : g.S.Source.faults l.input ≡ g.S.Source.faults l.fn.input;
  near : length l.window ≤ l.limit + 1;
}

abbrev pub decreases-loop-n : goal.decreases-loop-n
decreases-loop-n g l = 131072 - length l.window
