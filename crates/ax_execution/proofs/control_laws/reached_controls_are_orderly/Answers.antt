use Rattle.ax_execution.proofs.ReachedOrderly.{reached_orderly, reached_in_order, reached_sound, reached_busy}
use Rattle.ax_execution.proofs.control_laws.reached_controls_are_orderly.Goals as goal

pub returns-clause-orderly : goal.returns-clause-orderly
returns-clause-orderly c r p m accepted reached = reached_orderly r p m accepted reached

pub returns-clause-in_order : goal.returns-clause-in_order
returns-clause-in_order c r p m accepted reached = reached_in_order r p m accepted reached

pub returns-clause-sound : goal.returns-clause-sound
returns-clause-sound c r p m accepted reached = reached_sound r p m accepted reached

pub returns-clause-busy : goal.returns-clause-busy
returns-clause-busy c r p m accepted reached = reached_busy r p m accepted reached
