-- Less is left to do behind each thing that the engine does between two events.
use Rattle.std.proofs.Common.{◌≡◌, ◌<◌, sym, subst}
use Rattle.ax_time.specs.declared.epoch.Marker.{Marker}
use Rattle.ax_execution.specs.MachineControls.{MachineControl, control_of_machine}
use Rattle.ax_core.specs.declared.settings.Settings.{Settings}
use Rattle.ax_core.specs.declared.effects.Fired.{Fired}
use Rattle.ax_core.specs.declared.effects.Effects.{Effects}
use Rattle.ax_core.specs.declared.controller.Controller.{Controller}
use Rattle.ax_core.specs.Sound.{StandsFor}
use Rattle.ax_core.specs.Events.{SameRules, Fires, Runs, Sends}
use Rattle.ax_task.specs.Shards.{Serving, held, out}
use Rattle.ax_task.specs.Refined.{content_over}
use Rattle.ax_task.specs.Work.{left_to_do}
use Rattle.ax_task.specs.Engines.{Stands, ShardsStay, IsReady}
use Rattle.ax_task.specs.Exchanged.{LessIsLeft}
use Rattle.ax_task.specs.declared.engine.Engine.{Engine}
use Rattle.ax_task.proofs.Falling.{fires_fall, runs_fall, sends_fall}

module _ (e e' : Engine) (d : ShardsStay e e') (same : SameRules e.core e'.core) (r : IsReady e) where
  abbrev x : Stands r.settings r.program e r.read r.written
  x = r.stands

  abbrev c : MachineControl
  c = control_of_machine r.stands.refines.machine

  lesser : left_to_do e'.core (content_over r.settings (held e.shards)) < left_to_do e.core (content_over r.settings (held e.shards)) → LessIsLeft e e'
  lesser h = subst (λ (v : Serving). left_to_do e'.core (content_over e'.settings (held v)) < left_to_do e.core (content_over e.settings (held e.shards))) (sym d.shards)
      (subst (λ (s : Settings). left_to_do e'.core (content_over s (held e.shards)) < left_to_do e.core (content_over e.settings (held e.shards))) (sym d.settings)
      (subst (λ (s : Settings). left_to_do e'.core (content_over s (held e.shards)) < left_to_do e.core (content_over s (held e.shards))) (sym x.settings) h))

  pub fire_less : (f : Fired) → ((m : MachineControl) → StandsFor e.core m → Fires e.core e'.core f m) → LessIsLeft e e'
  fire_less f h = lesser (fires_fall r.settings r.program e.core e'.core (content_over r.settings (held e.shards)) (out e.shards) r.read r.written x.refines same f (h c x.refines.stands))

  pub mail_less : (f : Effects) → ((m : MachineControl) → StandsFor e.core m → Runs e.core e'.core f m) → LessIsLeft e e'
  mail_less f h = lesser (runs_fall r.settings r.program e.core e'.core (content_over r.settings (held e.shards)) (out e.shards) r.read r.written x.refines same f (h c x.refines.stands))

  pub marker_less : (k : Marker) → ((m : MachineControl) → StandsFor e.core m → Sends e.core e'.core k m) → LessIsLeft e e'
  marker_less k h = lesser (sends_fall r.settings r.program e.core e'.core (content_over r.settings (held e.shards)) (out e.shards) r.read r.written x.refines same k (h c x.refines.stands))

-- the same of an engine whose controller and shards are those
pub less_as : (e e' e'' : Engine) → ShardsStay e' e'' → e''.core ≡ e'.core → LessIsLeft e e' → LessIsLeft e e''
less_as e e' e'' d core h = subst (λ (v : Serving). left_to_do e''.core (content_over e''.settings (held v)) < left_to_do e.core (content_over e.settings (held e.shards))) (sym d.shards)
    (subst (λ (s : Settings). left_to_do e''.core (content_over s (held e'.shards)) < left_to_do e.core (content_over e.settings (held e.shards))) (sym d.settings)
    (subst (λ (a : Controller). left_to_do a (content_over e'.settings (held e'.shards)) < left_to_do e.core (content_over e.settings (held e.shards))) (sym core) h))
