-- Where nothing is left of the control of the machine.
use Rattle.std.specs.Prelude.{◌≡◌, [], None}
use Rattle.ax_machine.specs.Entries.{Key}
use Rattle.ax_execution.specs.MachineControls.{MachineControl}

-- nothing is in flight, every key is free, and every marker is sent
pub record IsAtRestOn (m : MachineControl) : Type 0 where
  pub owners : (k : Key) → (m.controls k).owner ≡ None
  pub waiting : (k : Key) → (m.controls k).waiting ≡ []
  pub unsent : m.unsent ≡ []
