-- What the firing of a timer changes.
use Rattle.std.specs.Prelude.{◌≡◌, ℕ, ◌+◌, ℤ, [], ◌∷◌, ◌++◌, Some, None}
use Rattle.ax_text.specs.declared.vocabulary.Handler.TheVariants as handler
use Rattle.ax_text.specs.Times.{least_time, later_times}
use Rattle.ax_machine.specs.Entries.{Key}
use Rattle.ax_context.specs.declared.id.Id.{Id}
use Rattle.ax_context.specs.Slots.{ahead, at, IsFirstFree, OthersStay, live_count}
use Rattle.ax_account.specs.declared.part.Next.TheVariants as next
use Rattle.ax_account.specs.Parts.{next_of, fired_by}
use Rattle.ax_account.specs.Queues.{without}
use Rattle.ax_account.specs.Accounts.{part_of, owner_of, waiting_of, Changes}
use Rattle.ax_mailbox.specs.declared.mail.Mail.TheVariants as mail
use Rattle.ax_time.specs.Timers.{PutsTimes, times_of}
use Rattle.ax_core.specs.declared.record.Record.{Record}
use Rattle.ax_core.specs.declared.effects.Fired.{Fired}
use Rattle.ax_core.specs.declared.controller.Controller.{Controller}

-- what is held of a timer of a key that fires at a watermark, and hasn't begun
abbrev pub firing : Key → ℤ → ℤ → Record
firing key time mark = record { facts = record { key = key; time = time; wm = mark; values = [] }; handler = handler.Timer; machine = None }

-- the mark in front of a key that nobody owns fires the key's least timer: a new context owns the key, its start mail is posted, and nothing else changes
pub record FiresAt (old new : Controller) (key : Key) (f : Fired) : Type 0 where
  pub id : Id
  pub epoch : ℕ
  pub fired : ℕ
  pub named : f.key ≡ key
  pub none : owner_of old.accounts key ≡ None
  pub front : next_of (waiting_of old.accounts key) ≡ next.Mark epoch f.mark fired
  pub least : least_time (times_of old.timers key) ≡ Some f.time
  pub times : PutsTimes old.timers new.timers key (later_times (times_of old.timers key))
  pub free : at old.contexts id ≡ None
  pub made : at new.contexts id ≡ Some (record { payload = firing key f.time f.mark; epoch = epoch; number = f.context; count = 1 })
  pub number : IsFirstFree old.contexts f.context
  pub next : new.contexts.next ≡ ahead f.context 1
  pub others : OthersStay old.contexts new.contexts id
  pub len : live_count new.contexts ≡ live_count old.contexts + 1
  pub limit : new.contexts.limit ≡ old.contexts.limit
  pub part : Changes old.accounts new.accounts key (fired_by id (part_of old.accounts key))
  pub idle : new.accounts.idle ≡ without key old.accounts.idle
  pub mails : new.mails.mails ≡ old.mails.mails ++ mail.Fire id ∷ []
  pub room : new.mails.room ≡ old.mails.room
  pub same : new ≡ record old { contexts = new.contexts; accounts = new.accounts; timers = new.timers; mails = new.mails }
