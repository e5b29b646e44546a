use Rattle.ax_execution.proofs.ReachedLemmas.{origin_reached, event_reached}
use Rattle.ax_execution.proofs.control_laws.reached_controls_go_on.Goals as goal

pub returns-clause-origin : goal.returns-clause-origin
returns-clause-origin c r p from fits = origin_reached r p from fits

pub returns-clause-event : goal.returns-clause-event
returns-clause-event c r p e a m reached allowed answered = event_reached r p e a m reached allowed answered
