use Rattle.ax_execution.proofs.ControlsAllowed.{flight_on, epochs_on, numbers_on, referred_on}
use Rattle.ax_execution.proofs.controls.counts_see_the_control.Goals as goal

pub returns-clause-flight : goal.returns-clause-flight
returns-clause-flight c m = flight_on m

pub returns-clause-epochs : goal.returns-clause-epochs
returns-clause-epochs c u m = epochs_on u m

pub returns-clause-numbers : goal.returns-clause-numbers
returns-clause-numbers c n m = numbers_on n m

pub returns-clause-references : goal.returns-clause-references
returns-clause-references c n m = referred_on n m
