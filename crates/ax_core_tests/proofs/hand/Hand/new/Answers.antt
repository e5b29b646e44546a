use Rattle.std.proofs.Common.{[], replicate, ap, sym, ◌∙◌, subst}
use Rattle.ax_lang.specs.Shown.{shown_program}
use Rattle.ax_lang.specs.declared.program.Program.{Program}
use Rattle.ax_execution.specs.Origins.{first}
use Rattle.ax_execution.specs.MachineControls.{at_origin}
use Rattle.ax_core.specs.declared.settings.Settings.{Settings}
use Rattle.ax_core.specs.Sound.{StandsFor}
use Rattle.ax_core_tests.specs.Hands.{AreFor}
use Rattle.ax_core_tests.proofs.Hands.{nothing_out}
use Rattle.ax_core_tests.proofs.hand.Hand.new.Goals as goal

pub returns : goal.returns
returns c = record {
  sound = c.in_ok-core.ensures.sound;
  states = subst (λ (p : Program). AreFor p c.in_ok-states.states) (sym c.in_ok-core.ensures.program) c.in_ok-states.ensures;
  out = nothing_out c.in_ok-core.core c.in_ok-core.ensures.sound
      (subst (λ (p : Program). StandsFor c.in_ok-core.core (at_origin (first (shown_program p)))) (sym c.in_ok-core.ensures.program) c.in_ok-core.ensures.stands)
      c.in_ok-served.served.items (c.in_ok-served.ensures ∙ ap (λ (s : Settings). replicate s.shards []) (sym c.in_ok-core.ensures.settings));
}
