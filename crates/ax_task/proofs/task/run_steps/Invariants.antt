use Rattle.std.proofs.Common.{◌≡◌, false}
use Rattle.ax_core.specs.declared.settings.Settings.{Settings}
use Rattle.ax_lang.specs.declared.program.Program.{Program}
use Rattle.ax_task.specs.Tasks.{From}
use Rattle.ax_task.specs.Due.{due}
use Rattle.ax_task.specs.Running.{state_of, has_ended, IsSteady, IsRunning}
use Rattle.ax_task.proofs.task.run_steps.Given as goal

abbrev pub invariant-step : goal.invariant-step
invariant-step g l = record {
  runs : (s : Settings) (p : Program) (from : From)
      → IsRunning s p from (state_of l.fn.task) (record { left = g.S.Source.left l.fn.input; reads = g.S.Source.faults l.fn.input; holds = g.K.Sink.holds l.fn.out; writes = g.K.Sink.counts l.fn.out })
      → IsRunning s p from (state_of l.task) (record { left = g.S.Source.left l.input; reads = g.S.Source.faults l.input; holds = g.K.Sink.holds l.out; writes = g.K.Sink.counts l.out });
  going : has_ended l.task ≡ false;
  steady : IsSteady l.task;
}

abbrev pub decreases-step : goal.decreases-step
decreases-step g l = due l.task.driver.reading l.task.lines
