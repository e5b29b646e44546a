use Rattle.std.proofs.Common.{◌≡◌, ◌+◌, ◌≤◌, false}
use Rattle.ax_base.specs.Outside.{Told}
use Rattle.ax_base.specs.Given.{ahead}
use Rattle.ax_task.specs.Parse.{stream_of}
use Rattle.ax_task.specs.Passes.{events_at, feed_of}
use Rattle.ax_task.proofs.Passing.{Goes}
use Rattle.ax_task.proofs.stream.EventReader.next.Given as goal

abbrev pub invariant-line : goal.invariant-line
invariant-line g l = record {
  same : Told (g.S.Source.left l.fn.input) (g.S.Source.left l.input)
      (λ a b. stream_of l.fn.self.fields l.fn.self.last (l.fn.lines.number + 1) (ahead l.fn.lines a) ≡ stream_of l.self.fields l.self.last (l.lines.number + 1) (ahead l.lines b));
  goes : Told (g.S.Source.left l.fn.input) (g.S.Source.left l.input)
      (λ a b. Goes (events_at l.fn.self.fields l.fn.self.last l.fn.lines) (events_at l.self.fields l.self.last l.lines) (feed_of l.fn.lines a) (feed_of l.lines b));
  sound : l.lines.failed ≡ false;
  less : l.lines.limit ≤ l.fn.lines.limit;
  count : g.S.Source.faults l.input ≡ g.S.Source.faults l.fn.input;
}

abbrev pub decreases-line : goal.decreases-line
decreases-line g l = l.lines.limit
