use Rattle.std.proofs.Common.{sym, ◌∙◌}
use Rattle.ax_core.proofs.Open.{may_is, is_may}
use Rattle.ax_core.proofs.controller.Controller.may_admit.Goals as goal

pub returns : goal.returns
returns c = record {
  value = c.admits.ensures.value;
  exact = λ m sound h. (λ t. may_is c.args.self.now m h sound.rooms (sym c.admits.ensures.value ∙ t), λ o. c.admits.ensures.value ∙ is_may c.args.self.now m h sound.rooms c.admits.ensures.sound o);
}
