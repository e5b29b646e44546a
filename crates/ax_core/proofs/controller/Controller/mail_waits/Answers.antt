use Rattle.std.proofs.Common.{sym, ◌∙◌}
use Rattle.ax_core.proofs.MailWaits.{mail_is}
use Rattle.ax_core.proofs.controller.Controller.mail_waits.Goals as goal

pub returns : goal.returns
returns c = record {
  value = c.has_mail.ensures;
  exact = λ m sound h. (λ t. (mail_is c.args.self.now m sound.flow h).0 (sym c.has_mail.ensures ∙ t), λ o. c.has_mail.ensures ∙ (mail_is c.args.self.now m sound.flow h).1 o);
}
