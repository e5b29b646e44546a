-- What a controller holds, by names that clauses may use.
use Rattle.std.specs.Prelude.{ℤ, Bool, List, Vec}
use Rattle.std.specs.declared.alloc.Global.{Global}
use Rattle.ax_lang.specs.declared.program.Program.{Program}
use Rattle.ax_context.specs.Slots.{Slots}
use Rattle.ax_account.specs.Accounts.{Accounts}
use Rattle.ax_buffer.specs.Buffer.{Buffer}
use Rattle.ax_mailbox.specs.Queue.{Queue}
use Rattle.ax_time.specs.declared.timer.Timer.{Timer}
use Rattle.ax_time.specs.Epochs.{Book}
use Rattle.ax_core.specs.declared.record.Record.{Record}
use Rattle.ax_core.specs.declared.record.Name.{Name}
use Rattle.ax_core.specs.declared.settings.Settings.{Settings}
use Rattle.ax_core.specs.declared.controller.Controller.{Controller}

-- the program that it runs, and how it works
abbrev pub program_of : Controller → Program
program_of a = a.program

abbrev pub settings_of : Controller → Settings
settings_of a = a.settings

-- the greatest watermark that was closed, and whether a barrier was closed and isn't sent
abbrev pub wm_of : Controller → ℤ
wm_of a = a.wm

abbrev pub barrier_of : Controller → Bool
barrier_of a = a.barrier

-- the contexts, and what each key has and waits for
abbrev pub contexts_of : Controller → Slots Record
contexts_of a = a.contexts

abbrev pub accounts_of : Controller → Accounts
accounts_of a = a.accounts

-- the requests that wait, those that are out of each shard, and the mails
abbrev pub buffer_of : Controller → Buffer
buffer_of a = a.buffer

abbrev pub outs_of : Controller → Vec (List Name) Global
outs_of a = a.outs

abbrev pub mails_of : Controller → Queue
mails_of a = a.mails

-- the timers of all keys, and the work that is left of each epoch
abbrev pub timers_of : Controller → List Timer
timers_of a = a.timers

abbrev pub epochs_of : Controller → Book
epochs_of a = a.epochs
