use Rattle.std.proofs.Common.{sym, ◌∙◌}
use Rattle.ax_core.proofs.Open.{is_open, open_is}
use Rattle.ax_core.proofs.controller.Controller.may_close.Goals as goal

pub returns : goal.returns
returns c = record {
  value = c.is_open.ensures;
  exact = λ m h. (λ t. is_open c.args.self.now m h.stands.epochs (sym c.is_open.ensures ∙ t), λ o. c.is_open.ensures ∙ open_is c.args.self.now m h.stands.epochs o);
}
