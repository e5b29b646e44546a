-- What the controller stands for: a control of the machine, whatever the states hold.
use Rattle.std.specs.Prelude.{◌≡◌, true}
use Rattle.ax_machine.specs.Entries.{Key}
use Rattle.ax_context.specs.Slots.{live_count}
use Rattle.ax_account.specs.Queues.{has_key}
use Rattle.ax_execution.specs.Reached.{owed_in}
use Rattle.ax_execution.specs.ControlTurns.{is_idle_on}
use Rattle.ax_execution.specs.MachineControls.{MachineControl, in_flight_on}
use Rattle.ax_core.specs.declared.controller.Controller.{Controller}
use Rattle.ax_core.specs.Keys.{KeyStands}
use Rattle.ax_core.specs.Flow.{on_the_way}
use Rattle.ax_core.specs.Epochs.{EpochsStand}

pub record Stands (a : Controller) (m : MachineControl) : Type 0 where
  pub wm : a.wm ≡ m.wm
  pub keys : (k : Key) → KeyStands a k (m.controls k)
  pub idle : (k : Key) → is_idle_on (m.controls k) ≡ true → has_key a.accounts.idle k ≡ true
  pub flight : live_count a.contexts ≡ in_flight_on m
  pub way : on_the_way a ≡ owed_in m
  pub epochs : EpochsStand a.epochs a.barrier m
