use Rattle.std.proofs.Common.{sym, ◌∙◌}
use Rattle.ax_core.proofs.FiresStand.{may_is, is_may}
use Rattle.ax_core.proofs.controller.Controller.may_fire.Goals as goal

pub returns : goal.returns
returns c = record {
  value = c.fires.ensures.value;
  exact = λ m sound h. (λ t. may_is c.args.self.now m h sound.rooms c.fires.ensures.sound (sym c.fires.ensures.value ∙ t), λ o. c.fires.ensures.value ∙ is_may c.args.self.now m h sound.rooms o);
}
