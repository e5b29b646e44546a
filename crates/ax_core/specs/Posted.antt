-- Where the callbacks stand that the machine may run: in the mailbox, each once.
use Rattle.std.specs.Prelude.{ℕ, nat_eq, Bool, false, ◌&&◌, Option, Some, None}
use Rattle.std.specs.List.{Contains}
use Rattle.ax_machine.specs.Entries.{Key}
use Rattle.ax_execution.specs.Contexts.{Context}
use Rattle.ax_execution.specs.MachineControls.{MachineControl}
use Rattle.ax_execution.specs.ControlsAllowed.{AllowedOn}
use Rattle.ax_core.specs.declared.effects.Ran.{Ran}
use Rattle.ax_core.specs.declared.effects.Ran.TheVariants as ran
use Rattle.ax_core.specs.declared.controller.Controller.{Controller}
use Rattle.ax_core.specs.Views.{settings_of}
use Rattle.ax_core.specs.Sound.{rules_of}
use Rattle.ax_core.specs.Events.{event_of, number_of, IsOwnedBy}
use Rattle.ax_core.specs.Order.{callbacks_in}

-- a callback of a key's owner is to run
abbrev pub IsPosted : Controller → (ℕ → Ran) → Option Context → Type 0
IsPosted a run None = ⊥
IsPosted a run (Some c) = Contains (callbacks_in a) (run c.number)

-- a callback is one of the owner of a key, and may run
pub record IsToRun (a : Controller) (m : MachineControl) (r : Ran) : Type 0 where
  pub key : Key
  pub owner : IsOwnedBy (number_of r) (m.controls key).owner
  pub may : AllowedOn (rules_of (settings_of a)) (event_of key r) m

abbrev pub same_callback : Ran → Ran → Bool
same_callback (ran.Start n) (ran.Start k) = nat_eq n k
same_callback (ran.Start n) (ran.Reply k slot) = false
same_callback (ran.Reply n slot) (ran.Start k) = false
same_callback (ran.Reply n slot) (ran.Reply k other) = nat_eq n k && nat_eq slot other
