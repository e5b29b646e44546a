use Rattle.std.proofs.Common.{◌≡◌, ◌∷◌, [], ◌++◌, ap, arith}
use Rattle.std.proofs.lemmas.Grind.{common_steps}
use Rattle.ax_mailbox.specs.Queue.{mails_of}
use Rattle.ax_mailbox.proofs.MailLemmas.{mails_of-append}
use Rattle.ax_mailbox.proofs.mailbox.Mailbox.post.Goals as goal

pub returns-clause-total : goal.returns-clause-total
returns-clause-total c = λ test.
    let last = c.args.m ∷ [] in
    let posted : c.push_back.new.self.items ≡ c.args.self.now.mails ++ last = grind (arith, common_steps) in
    omega (arith, ap (mails_of test) posted, mails_of-append test c.args.self.now.mails last)
