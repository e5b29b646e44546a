use Rattle.ax_execution.proofs.EventControls.{entries_on, asks_on, gone_on, fires_on}
use Rattle.ax_execution.proofs.controls.outcomes_see_the_control.Goals as goal

pub returns-clause-entries : goal.returns-clause-entries
returns-clause-entries c g p e m = entries_on g p e m

pub returns-clause-asks : goal.returns-clause-asks
returns-clause-asks c g p e m = asks_on g p e m

pub returns-clause-gone : goal.returns-clause-gone
returns-clause-gone c g p e m = gone_on g p e m

pub returns-clause-fires : goal.returns-clause-fires
returns-clause-fires c g p e m = fires_on g p e m
