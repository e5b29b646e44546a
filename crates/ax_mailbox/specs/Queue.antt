-- What contracts see of a mailbox.
use Rattle.std.specs.Prelude.{ℕ, ◌+◌, Bool, cond, Option, Some, None, List, [], ◌∷◌}
use Rattle.ax_mailbox.specs.declared.mail.Mail.{Mail}

-- the mails, the one that waits longest first, and how many may wait at once
pub record Queue : Type 0 where
  pub mails : List Mail
  pub room : ℕ

-- 1 where the mail passes a test, and 0 where it does not or where there is none
abbrev pub one_of : (Mail → Bool) → Mail → ℕ
one_of test m = cond (test m) 1 0

abbrev pub some_of : (Mail → Bool) → Option Mail → ℕ
some_of test None = 0
some_of test (Some m) = one_of test m

-- how many mails pass a test
abbrev pub mails_of : (Mail → Bool) → List Mail → ℕ
mails_of test [] = 0
mails_of test (m ∷ ms) = one_of test m + mails_of test ms
