-- The order of the requests that wait in queues and of the callbacks that are to run, by the numbers of contexts, and of the keys that are idle.
use Rattle.std.specs.Prelude.{◌≡◌, ◌≢◌, ◌↔◌, ℕ, ℤ, Bool, true, false, List, [], ◌∷◌, ◌++◌, map, take, drop, Option, Some, None}
use Rattle.std.specs.List.{Contains}
use Rattle.std.specs.List.Sorted.{IsStrictlySortedBy}
use Rattle.ax_keys.specs.Keys.{key_cmp}
use Rattle.ax_text.specs.Controls.{Ask'}
use Rattle.ax_text.specs.Times.{HasDue}
use Rattle.ax_lang.specs.Shown.{shown_program}
use Rattle.ax_machine.specs.Entries.{Key}
use Rattle.ax_buffer.specs.declared.items.Item.{Item}
use Rattle.ax_buffer.specs.declared.items.Reply.{Reply}
use Rattle.ax_buffer.specs.Buffer.{queue_of}
use Rattle.ax_context.specs.declared.id.Id.{Id}
use Rattle.ax_context.specs.declared.contexts.Context.{Context as Held}
use Rattle.ax_context.specs.Slots.{at}
use Rattle.ax_mailbox.specs.declared.mail.Mail.{Mail}
use Rattle.ax_mailbox.specs.declared.mail.Mail.TheVariants as mail
use Rattle.ax_time.specs.declared.epoch.Marker.{Marker}
use Rattle.ax_time.specs.declared.epoch.Marker.TheVariants as marker
use Rattle.ax_execution.specs.Contexts.{Stage, Unbegun, Begun, Context}
use Rattle.ax_execution.specs.MachineControls.{MachineControl, happens_on, outcome_on}
use Rattle.ax_execution.specs.OwedChanges.{is_free_on}
use Rattle.ax_core.specs.declared.record.Record.{Record}
use Rattle.ax_core.specs.declared.record.Name.{Name}
use Rattle.ax_core.specs.declared.effects.Fired.{Fired}
use Rattle.ax_core.specs.declared.effects.Ran.{Ran}
use Rattle.ax_core.specs.declared.effects.Ran.TheVariants as ran
use Rattle.ax_core.specs.declared.effects.Effects.{Effects}
use Rattle.ax_core.specs.declared.controller.Controller.{Controller}
use Rattle.ax_core.specs.Views.{accounts_of, buffer_of, contexts_of, mails_of, program_of, settings_of}
use Rattle.ax_core.specs.Flow.{shard_of, out_of}
use Rattle.ax_core.specs.Events.{event_of, number_of}

-- the number of the context that an id names
abbrev pub number_in : Option (Held Record) → ℕ
number_in None = 0
number_in (Some h) = h.number

abbrev pub number_at : Controller → Id → ℕ
number_at a id = number_in (at (contexts_of a) id)

-- a request, by the number of the context that asked and the slot that waits
pub record Asked : Type 0 where
  pub context : ℕ
  pub slot : ℕ

-- what waits in a shard's queue, in order
abbrev pub asked_by : Controller → Item → Asked
asked_by a i = record { context = number_at a i.id; slot = i.slot }

abbrev pub queue_in : Controller → ℕ → List Asked
queue_in a shard = map (asked_by a) (queue_of (buffer_of a) shard)

-- the callbacks that are to run, in order
abbrev pub callback_by : Controller → Mail → Ran
callback_by a (mail.Start id) = ran.Start (number_at a id)
callback_by a (mail.Fire id) = ran.Start (number_at a id)
callback_by a (mail.Reply id slot answer) = ran.Reply (number_at a id) slot

abbrev pub callbacks_in : Controller → List Ran
callbacks_in a = map (callback_by a) (mails_of a).mails

-- the callbacks that replies lead to
abbrev pub replies_in : Controller → List Reply → List Ran
replies_in a rs = map (λ r. ran.Reply (number_at a r.id) r.slot) rs

-- the queues are as they were
abbrev pub SameQueues : Controller → Controller → Type 0
SameQueues old new = (shard : ℕ) → queue_in new shard ≡ queue_in old shard

-- each request that is out is of the context that it was of
abbrev pub NumbersStay : Controller → Controller → Type 0
NumbersStay old new = (shard : ℕ) (n : Name) → Contains (out_of old shard) n → number_at new n.id ≡ number_at old n.id

-- these callbacks go last, and all else stays in order
pub record Posts (old new : Controller) (rs : List Ran) : Type 0 where
  pub queues : SameQueues old new
  pub callbacks : callbacks_in new ≡ callbacks_in old ++ rs
  pub numbers : NumbersStay old new

-- a row that comes for a free key is to run
abbrev pub begins_where : Bool → ℕ → List Ran
begins_where true n = ran.Start n ∷ []
begins_where false n = []

-- the first requests of a queue go out, in order
pub record SendsFirst (old new : Controller) (shard max : ℕ) (batch : List Item) : Type 0 where
  pub taken : map (asked_by new) batch ≡ take max (queue_in old shard)
  pub queue : queue_in new shard ≡ drop max (queue_in old shard)
  pub others : (other : ℕ) → other ≢ shard → queue_in new other ≡ queue_in old other
  pub callbacks : callbacks_in new ≡ callbacks_in old
  pub numbers : NumbersStay old new

-- the requests of a callback, by its context's number
abbrev pub asks_of : ℕ → List Ask' → List Asked
asks_of n asks = map (λ a. record { context = n; slot = a.slot }) asks

-- the row that owns a key and hasn't begun
abbrev pub stage_begins : ℕ → Stage → List Ran
stage_begins n Unbegun = ran.Start n ∷ []
stage_begins n (Begun r) = []

abbrev pub owner_begins : Option Context → List Ran
owner_begins None = []
owner_begins (Some c) = stage_begins c.number c.stage

-- a timer that fires
abbrev pub firing_begins : Option Fired → List Ran
firing_begins None = []
firing_begins (Some f) = ran.Start f.context ∷ []

-- the first callback ran: its requests go last into the queue of its key's shard, in the order of their slots, and the next of its key goes last
pub record RunsFirst (old new : Controller) (f : Effects) (m : MachineControl) : Type 0 where
  pub rest : List Ran
  pub first : callbacks_in old ≡ f.ran ∷ rest
  pub next : callbacks_in new ≡ rest ++ (owner_begins ((happens_on (shown_program (program_of old)) (event_of f.key f.ran) None m).controls f.key).owner ++ firing_begins f.fired)
  pub queue : queue_in new (shard_of (settings_of old) f.key) ≡ queue_in old (shard_of (settings_of old) f.key)
      ++ asks_of (number_of f.ran) (outcome_on (shown_program (program_of old)) (event_of f.key f.ran) m).asks
  pub others : (other : ℕ) → other ≢ shard_of (settings_of old) f.key → queue_in new other ≡ queue_in old other
  pub numbers : NumbersStay old new

-- the keys that are idle, the one that has been idle longest first
abbrev pub idle_in : Controller → List Key
idle_in a = (accounts_of a).idle

-- keys become idle, the last of all: those that are free and have a timer that is due at a watermark, in rising order of keys
pub record BecomeIdle (old new : Controller) (w : ℤ) (m : MachineControl) : Type 0 where
  pub keys : List Key
  pub which : (k : Key) → Contains keys k ↔ ((is_free_on (m.controls k) ≡ true) × HasDue w (m.controls k).times)
  pub rising : IsStrictlySortedBy key_cmp keys
  pub last : idle_in new ≡ idle_in old ++ keys

-- a watermark makes keys idle, and a barrier none
abbrev pub IdleBehind : Controller → Controller → Marker → MachineControl → Type 0
IdleBehind old new (marker.Mark time) m = BecomeIdle old new time m
IdleBehind old new (marker.Barrier id) m = idle_in new ≡ idle_in old
