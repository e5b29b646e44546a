use Rattle.std.proofs.Common.{◌≡◌, ◌≤◌, false}
use Rattle.ax_core.specs.declared.settings.Settings.{Settings}
use Rattle.ax_lang.specs.declared.program.Program.{Program}
use Rattle.ax_task.specs.Tasks.{From}
use Rattle.ax_task.specs.Due.{due}
use Rattle.ax_task.specs.Exchanged.{left}
use Rattle.ax_task.specs.Running.{state_of, has_ended, IsSteady, IsRunning}
use Rattle.ax_task.proofs.task.Task.until_taken.Given as goal

abbrev pub invariant-round : goal.invariant-round
invariant-round g l = record {
  runs : (s : Settings) (p : Program) (from : From)
      → IsRunning s p from (state_of l.fn.self) (record { left = g.S.Source.left l.fn.input; reads = g.S.Source.faults l.fn.input; holds = g.K.Sink.holds l.fn.out; writes = g.K.Sink.counts l.fn.out })
      → IsRunning s p from (state_of l.self) (record { left = g.S.Source.left l.input; reads = g.S.Source.faults l.input; holds = g.K.Sink.holds l.out; writes = g.K.Sink.counts l.out });
  due : due l.self.driver.reading l.self.lines ≤ due l.fn.self.driver.reading l.fn.self.lines;
  going : has_ended l.self ≡ false;
  steady : IsSteady l.self;
}

abbrev pub decreases-round : goal.decreases-round
decreases-round g l = left l.self.driver.engine
