-- What may still come, and what goes on towards its end.
use Rattle.std.specs.Prelude.{◌≡◌, ◌<◌, ◌≤◌, ℕ, suc, ◌+◌, [], Option, Some, None, IsSome}
use Rattle.ax_base.specs.Reader.{Reader}
use Rattle.ax_input.specs.declared.event.Event.{Event as CodeEvent}
use Rattle.ax_execution.specs.MachineControls.{MachineControl, in_flight_on}
use Rattle.ax_execution.specs.ControlsAllowed.{NoneIsIdleOn}
use Rattle.ax_core.specs.declared.controller.Controller.{Controller}
use Rattle.ax_core.specs.Views.{settings_of}
use Rattle.ax_core.specs.Sound.{StandsFor, IsSound}
use Rattle.ax_task.specs.Exchanged.{LessIsLeft}
use Rattle.ax_task.specs.declared.end.End.{End}
use Rattle.ax_task.specs.declared.engine.Engine.{Engine}
use Rattle.ax_task.specs.declared.reading.Reading.{Reading}
use Rattle.ax_task.specs.declared.driver.Did.{Did}
use Rattle.ax_task.specs.declared.driver.Did.TheVariants as did

-- nothing is in flight, no key is idle and no marker is to be sent
pub record IsFree (a : Controller) : Type 0 where
  pub control : MachineControl
  pub sound : IsSound a
  pub stands : StandsFor a control
  pub none : in_flight_on control ≡ 0
  pub unsent : control.unsent ≡ []
  pub idle : NoneIsIdleOn control
  pub some : 0 < (settings_of a).in_flight

-- the event that is held, and what may be read: at most one event for each byte within the limit, and the end
abbrev pub one_held : Option CodeEvent → ℕ
one_held None = 0
one_held (Some e) = 1

abbrev pub unread : Option End → ℕ → ℕ
unread None limit = suc limit
unread (Some e) limit = 0

abbrev pub due : Reading → Reader → ℕ
due r lines = one_held r.next + unread r.found lines.limit

-- an event is held only where no end was found
abbrev pub HeldBeforeEnd : Reading → Type 0
HeldBeforeEnd r = IsSome r.found → r.next ≡ None

-- an event is held, or an end was found
abbrev pub IsLooked : Reading → Type 0
IsLooked r = r.next ≡ None → IsSome r.found

-- what comes closer to its end by what was done
abbrev pub Goes : Engine → Engine → Reading → Reading → Reader → Reader → Did → Type 0
Goes e e' r r' lines lines' did.Went = LessIsLeft e e' × (due r' lines' ≤ due r lines)
Goes e e' r r' lines lines' did.Took = due r' lines' < due r lines
Goes e e' r r' lines lines' (did.End end) = Unit {0}
