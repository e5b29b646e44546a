-- A controller that was just made, and the rooms that it takes.
use Rattle.std.specs.Prelude.{◌≡◌, ℕ, ◌+◌, ◌*◌, [], replicate, false}
use Rattle.ax_text.specs.Programs.{program_width}
use Rattle.ax_lang.specs.Shown.{shown_program}
use Rattle.ax_machine.specs.Sync.{first_wm}
use Rattle.ax_time.specs.Epochs.{fresh}
use Rattle.ax_core.specs.declared.settings.Settings.{Settings}
use Rattle.ax_core.specs.declared.rooms.Rooms.{Rooms}
use Rattle.ax_core.specs.declared.controller.Controller.{Controller}

-- room for all contexts with their requests and mails, and nothing in it
pub record AreTaken (s : Settings) (width : ℕ) (r : Rooms) : Type 0 where
  pub contexts : r.contexts ≡ record { slots = []; limit = s.in_flight; next = 1 }
  pub queues : r.buffer.queues ≡ replicate s.shards []
  pub requests : r.buffer.room ≡ s.in_flight * width
  pub outs : r.outs.items ≡ replicate s.shards []
  pub mails : r.mails ≡ record { mails = []; room = s.in_flight * (width + 1) }

-- nothing was admitted or closed
pub record IsNew (a : Controller) : Type 0 where
  pub wm : a.wm ≡ first_wm
  pub barrier : a.barrier ≡ false
  pub contexts : a.contexts ≡ record { slots = []; limit = a.settings.in_flight; next = 1 }
  pub accounts : a.accounts ≡ record { parts = []; idle = [] }
  pub queues : a.buffer.queues ≡ replicate a.settings.shards []
  pub requests : a.buffer.room ≡ a.settings.in_flight * program_width (shown_program a.program)
  pub outs : a.outs.items ≡ replicate a.settings.shards []
  pub mails : a.mails ≡ record { mails = []; room = a.settings.in_flight * (program_width (shown_program a.program) + 1) }
  pub timers : a.timers ≡ []
  pub epochs : a.epochs ≡ fresh
