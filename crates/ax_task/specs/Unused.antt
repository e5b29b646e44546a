-- A controller that was not used yet.
use Rattle.std.specs.Prelude.{◌≡◌}
use Rattle.ax_lang.specs.Shown.{shown_program}
use Rattle.ax_execution.specs.Origins.{first}
use Rattle.ax_execution.specs.MachineControls.{at_origin}
use Rattle.ax_core.specs.declared.settings.Settings.{Settings}
use Rattle.ax_core.specs.declared.controller.Controller.{Controller}
use Rattle.ax_core.specs.Views.{program_of, settings_of}
use Rattle.ax_core.specs.Sound.{IsSound, StandsFor}

-- a controller that was made with these settings, and in which nothing was admitted or closed
pub record IsUnused (s : Settings) (a : Controller) : Type 0 where
  pub sound : IsSound a
  pub settings : settings_of a ≡ s
  pub stands : StandsFor a (at_origin (first (shown_program (program_of a))))
