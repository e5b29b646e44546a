use Rattle.ax_execution.proofs.ControlOwed.{owed_changes_on}
use Rattle.ax_execution.proofs.ReachedOrderly.{reached_in_order, reached_sound}
use Rattle.ax_execution.proofs.control_laws.owners_gain_and_lose.Goals as goal

pub returns : goal.returns
returns c r p e a m accepted reached h = owed_changes_on r p m (reached_in_order r p m accepted reached) (reached_sound r p m accepted reached) e a h
