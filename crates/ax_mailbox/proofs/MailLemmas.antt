-- Counts of mails, for this crate and those above.
use Rattle.std.proofs.Common.{◌≡◌, ◌+◌, Bool, List, [], ◌∷◌, ◌++◌, arith}
use Rattle.ax_mailbox.specs.declared.mail.Mail.{Mail}
use Rattle.ax_mailbox.specs.Queue.{mails_of}

pub mails_of-append : (test : Mail → Bool) (front back : List Mail) → mails_of test (front ++ back) ≡ mails_of test front + mails_of test back
mails_of-append test [] back = omega arith
mails_of-append test (m ∷ front) back = omega (arith, mails_of-append test front back)
