-- What holds of a controller between its calls.
use Rattle.std.specs.Prelude.{◌≡◌, ◌≤◌, ◌+◌, ◌*◌, None}
use Rattle.ax_text.specs.Programs.{program_width}
use Rattle.ax_lang.specs.Shown.{shown_program}
use Rattle.ax_keys.specs.Groups.{MayCut}
use Rattle.ax_execution.specs.Machine.{Rules}
use Rattle.ax_execution.specs.MachineControls.{MachineControl}
use Rattle.ax_execution.specs.Reached.{IsReached}
use Rattle.ax_core.specs.declared.settings.Settings.{Settings}
use Rattle.ax_core.specs.declared.controller.Controller.{Controller}
use Rattle.ax_core.specs.Views.{buffer_of, contexts_of, mails_of, program_of, settings_of}
use Rattle.ax_core.specs.Flow.{IsFlow}
use Rattle.ax_core.specs.Stands.{Stands}

-- the settings are in their ranges
pub record InRange (s : Settings) : Type 0 where
  pub shards : MayCut s.groups s.shards
  pub in_flight : s.in_flight ≤ 65536

abbrev pub rules_of : Settings → Rules
rules_of s = record { serial = s.serial; limit = s.in_flight }

-- no key must fire: that is so between any two calls
pub record StandsFor (a : Controller) (m : MachineControl) : Type 0 where
  pub reached : IsReached (rules_of (settings_of a)) (shown_program (program_of a)) m
  pub stands : Stands a m
  pub settled : m.must ≡ None

-- the rooms that were taken
pub record HasRooms (a : Controller) : Type 0 where
  pub contexts : (contexts_of a).limit ≡ (settings_of a).in_flight
  pub requests : (buffer_of a).room ≡ (settings_of a).in_flight * program_width (shown_program (program_of a))
  pub mails : (mails_of a).room ≡ (settings_of a).in_flight * (program_width (shown_program (program_of a)) + 1)

pub record IsSound (a : Controller) : Type 0 where
  pub ranges : InRange (settings_of a)
  pub rooms : HasRooms a
  pub flow : IsFlow a
  pub control : MachineControl
  pub stands : StandsFor a control
