use Rattle.std.proofs.Common.{ℕ, sym, subst}
use Rattle.ax_lang.specs.declared.program.Program.{Program}
use Rattle.ax_lang.specs.Shown.{shown_program}
use Rattle.ax_execution.specs.Origins.{first}
use Rattle.ax_execution.specs.MachineControls.{at_origin}
use Rattle.ax_core.specs.declared.settings.Settings.{Settings}
use Rattle.ax_core.specs.Rooms.{AreTaken}
use Rattle.ax_core.specs.Sound.{InRange, StandsFor}
use Rattle.ax_core.proofs.Begins.{begins, fresh_sound}
use Rattle.ax_core.proofs.Numbered.{nothing_numbered}
use Rattle.ax_core.proofs.controller.Controller.new.Goals as goal

pub begin-requires : goal.begin-requires
begin-requires c = subst (λ (width : ℕ). AreTaken c.args.settings width c.in_ok-rooms.rooms) c.width.ensures.value c.in_ok-rooms.ensures

pub returns-clause-sound : goal.returns-clause-sound
returns-clause-sound c = fresh_sound c.begin.result c.begin.ensures.new (subst (λ (s : Settings). InRange s) (sym c.begin.ensures.settings) c.requires)

pub returns-clause-stands : goal.returns-clause-stands
returns-clause-stands c =
    let ranges : InRange c.begin.result.settings = subst (λ (s : Settings). InRange s) (sym c.begin.ensures.settings) c.requires in
    subst (λ (p : Program). StandsFor c.begin.result (at_origin (first (shown_program p)))) c.begin.ensures.program (begins c.begin.result c.begin.ensures.new ranges)

pub returns-clause-number : goal.returns-clause-number
returns-clause-number c = nothing_numbered c.begin.result c.begin.ensures.new
