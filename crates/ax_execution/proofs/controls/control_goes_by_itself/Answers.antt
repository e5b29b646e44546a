use Rattle.ax_execution.proofs.EventControls.{event_control, origin_control}
use Rattle.ax_execution.proofs.ControlsAllowed.{all_control}
use Rattle.ax_execution.proofs.controls.control_goes_by_itself.Goals as goal

pub returns-clause-event : goal.returns-clause-event
returns-clause-event c g p e m = event_control g p e m

pub returns-clause-events : goal.returns-clause-events
returns-clause-events c g p es m = all_control g p es m

pub returns-clause-origin : goal.returns-clause-origin
returns-clause-origin c from = origin_control from
