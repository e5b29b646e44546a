use Rattle.ax_execution.proofs.ControlWaits.{none_asked_on, waits_on, rise_on, outside_on}
use Rattle.ax_execution.proofs.ReachedOrderly.{reached_in_order, reached_sound}
use Rattle.ax_execution.proofs.control_laws.reached_asks_are_what_waits.Goals as goal

pub returns-clause-waits : goal.returns-clause-waits
returns-clause-waits c r p m e a k accepted reached h = waits_on r p m (reached_in_order r p m accepted reached) (reached_sound r p m accepted reached) e a k h

pub returns-clause-rise : goal.returns-clause-rise
returns-clause-rise c r p m e accepted reached h = rise_on r p m (reached_in_order r p m accepted reached) (reached_sound r p m accepted reached) e h

pub returns-clause-new : goal.returns-clause-new
returns-clause-new c r p m k slot accepted reached h = outside_on r p m (reached_in_order r p m accepted reached) (reached_sound r p m accepted reached) k slot h

pub returns-clause-none : goal.returns-clause-none
returns-clause-none c p e m a b = none_asked_on p e m a b
