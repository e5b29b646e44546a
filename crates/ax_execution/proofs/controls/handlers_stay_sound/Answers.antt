use Rattle.ax_text.proofs.Slots.{split_differ}
use Rattle.ax_execution.proofs.ControlSound.{machine_sound, event_sound}
use Rattle.ax_execution.specs.Runs.{end_of}
use Rattle.ax_execution.proofs.WholeRuns.{run_good}
use Rattle.ax_execution.proofs.controls.handlers_stay_sound.Goals as goal

pub returns-clause-origin : goal.returns-clause-origin
returns-clause-origin c from k = tt

pub returns-clause-event : goal.returns-clause-event
returns-clause-event c r p e a m accepted sound h = event_sound m sound r p accepted e a h

pub returns-clause-slots : goal.returns-clause-slots
returns-clause-slots c running h = split_differ running.control h.split

pub returns-clause-run : goal.returns-clause-run
returns-clause-run c run = machine_sound (end_of run) (run_good run)
