use Rattle.ax_execution.proofs.ControlChanges.{epoch_changes}
use Rattle.ax_execution.proofs.ControlCounts.{flight_change, numbers_of_change, references_of_change}
use Rattle.ax_execution.proofs.ReachedOrderly.{reached_in_order, reached_sound, reached_busy}
use Rattle.ax_execution.proofs.control_laws.reached_contexts_come_and_go.Goals as goal

pub returns-clause-flight : goal.returns-clause-flight
returns-clause-flight c r p e a m accepted reached h = flight_change r p m (reached_in_order r p m accepted reached) (reached_sound r p m accepted reached) e a h

pub returns-clause-numbers : goal.returns-clause-numbers
returns-clause-numbers c r p n e a m accepted reached h = numbers_of_change r p m (reached_in_order r p m accepted reached) (reached_sound r p m accepted reached) n e a h

pub returns-clause-references : goal.returns-clause-references
returns-clause-references c r p n e a m accepted reached h = references_of_change r p m (reached_in_order r p m accepted reached) (reached_sound r p m accepted reached) n e a h

pub returns-clause-epochs : goal.returns-clause-epochs
returns-clause-epochs c r p u e a m accepted reached h = epoch_changes m (reached_busy r p m accepted reached) r p u e a h
