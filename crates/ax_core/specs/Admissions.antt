-- A row that comes in: its context, what its key gets, and its mail.
use Rattle.std.specs.Prelude.{◌≡◌, ◌+◌, ℤ, List, [], ◌∷◌, ◌++◌, None}
use Rattle.ax_text.specs.declared.vocabulary.Handler.TheVariants as handler
use Rattle.ax_machine.specs.Entries.{Key}
use Rattle.ax_context.specs.declared.id.Id.{Id}
use Rattle.ax_context.specs.Slots.{ahead, at, Has, live_count, OthersStay, IsFirstFree}
use Rattle.ax_account.specs.declared.part.Occupied.{Occupied}
use Rattle.ax_account.specs.declared.part.Occupied.TheVariants as occupied
use Rattle.ax_account.specs.Accounts.{part_of, Changes, answer_to, occupied}
use Rattle.ax_mailbox.specs.declared.mail.Mail.{Mail}
use Rattle.ax_mailbox.specs.declared.mail.Mail.TheVariants as mail
use Rattle.ax_time.specs.Epochs.{current_of, count_of, with_count}
use Rattle.ax_core.specs.declared.record.Record.{Record}
use Rattle.ax_core.specs.declared.controller.Controller.{Controller}

-- a row that hasn't begun
abbrev pub row_record : Key → ℤ → ℤ → List ℤ → Record
row_record key time wm values = record { facts = record { key = key; time = time; wm = wm; values = values }; handler = handler.Row; machine = None }

-- an owner is to be started
abbrev pub start_mails : Occupied → Id → List Mail
start_mails occupied.Owner id = mail.Start id ∷ []
start_mails occupied.Waits id = []

-- a context is made and counted in the current epoch, it comes for its key, and where it owns that, it is to be started
pub record TakesIn (old new : Controller) (r : Record) (id : Id) : Type 0 where
  pub same : new ≡ record old { contexts = new.contexts; accounts = new.accounts; mails = new.mails; epochs = new.epochs }
  pub free : at old.contexts id ≡ None
  pub made : Has new.contexts id (λ c. c ≡ record { payload = r; epoch = current_of old.epochs; number = c.number; count = 1 })
  pub number : Has new.contexts id (λ c. IsFirstFree old.contexts c.number)
  pub next : Has new.contexts id (λ c. new.contexts.next ≡ ahead c.number 1)
  pub others : OthersStay old.contexts new.contexts id
  pub len : live_count new.contexts ≡ live_count old.contexts + 1
  pub limit : new.contexts.limit ≡ old.contexts.limit
  pub part : Changes old.accounts new.accounts r.facts.key (occupied id (part_of old.accounts r.facts.key))
  pub idle : new.accounts.idle ≡ old.accounts.idle
  pub mails : new.mails.mails ≡ old.mails.mails ++ start_mails (answer_to (part_of old.accounts r.facts.key)) id
  pub room : new.mails.room ≡ old.mails.room
  pub epochs : new.epochs ≡ with_count old.epochs (current_of old.epochs) (count_of old.epochs (current_of old.epochs) + 1)
