-- A callback of a context, from its start to its end.
use Rattle.std.specs.Prelude.{◌≡◌, ◌≤◌, ◌<◌, ◌+◌, ◌-◌, ℕ, Bool, true, false, length, Option, Some, None}
use Rattle.ax_text.specs.declared.vocabulary.Answer.{Answer}
use Rattle.ax_text.specs.declared.vocabulary.Handler.{Handler}
use Rattle.ax_text.specs.Run.{times_after}
use Rattle.ax_future.specs.declared.callback.Turn.{Turn}
use Rattle.ax_time.specs.Timers.{PutsTimes, times_of}
use Rattle.ax_machine.specs.Entries.{Key}
use Rattle.ax_buffer.specs.Buffer.{total}
use Rattle.ax_context.specs.declared.id.Id.{Id}
use Rattle.ax_context.specs.declared.contexts.Context.{Context as Held}
use Rattle.ax_context.specs.declared.contexts.Released.{Released}
use Rattle.ax_context.specs.declared.contexts.Released.TheVariants as released
use Rattle.ax_context.specs.Released.{Answers, left, gone_count}
use Rattle.ax_context.specs.Slots.{Slots, at, Has, IsLive, live_count, OthersStay}
use Rattle.ax_account.specs.Accounts.{owner_of, waiting_of}
use Rattle.ax_core.specs.declared.record.Record.{Record}
use Rattle.ax_core.specs.declared.effects.Fired.{Fired}
use Rattle.ax_core.specs.declared.effects.Effects.{Effects}
use Rattle.ax_core.specs.declared.controller.Controller.{Controller}
use Rattle.ax_core.specs.Flow.{shard_of}
use Rattle.ax_core.specs.Sound.{InRange}
use Rattle.ax_core.specs.Callbacks.{WaitsAt, HasBegun, HasResumed, items_for, IsHeld, IsQueued, ended, all_left, AllMayLeave, row_epochs, GoesOn}

-- the timers of a callback are set, and its requests are asked
pub record IsDone (a b : Controller) (id : Id) (h : Held Record) (t : Turn) : Type 0 where
  pub times : PutsTimes a.timers b.timers h.payload.facts.key (times_after t.timer_ops (times_of a.timers h.payload.facts.key))
  pub held : IsHeld a.contexts b.contexts id (length t.asks)
  pub queued : IsQueued a.buffer b.buffer (shard_of a.settings h.payload.facts.key) (items_for id h.payload.facts.key t.asks)
  pub same : b ≡ record a { contexts = b.contexts; buffer = b.buffer; timers = b.timers }

-- a reference is given up
pub record Leaves (old new : Slots Record) (id : Id) (result : Released Record) : Type 0 where
  pub answer : Has old id (λ c. Answers c result)
  pub counted : Has old id (λ c. at new id ≡ left c result)
  pub others : OthersStay old new id
  pub len : live_count new + gone_count result ≡ live_count old
  pub limit : new.limit ≡ old.limit
  pub next : new.next ≡ old.next

-- the last reference is given up, of a context with this key, handler and epoch
pub record IsLast (old new : Slots Record) (id : Id) (key : Key) (handler : Handler) (epoch : ℕ) : Type 0 where
  pub payload : Record
  pub number : ℕ
  pub named : key ≡ payload.facts.key
  pub handles : handler ≡ payload.handler
  pub leaves : Leaves old new id (released.Gone payload epoch number)

-- its reference is given up, and its context waits on
pub record WaitsOn (a b : Controller) (id : Id) (h : Held Record) : Type 0 where
  pub more : 1 < h.count
  pub left : at b.contexts id ≡ Some (record h { count = h.count - 1 })
  pub others : OthersStay a.contexts b.contexts id
  pub len : live_count b.contexts ≡ live_count a.contexts
  pub limit : b.contexts.limit ≡ a.contexts.limit
  pub next : b.contexts.next ≡ a.contexts.next
  pub same : b ≡ record a { contexts = b.contexts }

-- or that was the last: its context is given up, and its row leaves its epoch
pub record IsGivenUp (a b : Controller) (id : Id) (h : Held Record) : Type 0 where
  pub last : h.count ≡ 1
  pub free : at b.contexts id ≡ None
  pub others : OthersStay a.contexts b.contexts id
  pub len : live_count b.contexts + 1 ≡ live_count a.contexts
  pub limit : b.contexts.limit ≡ a.contexts.limit
  pub next : b.contexts.next ≡ a.contexts.next
  pub epochs : b.epochs ≡ all_left (row_epochs h.payload.handler h.epoch) a.epochs
  pub same : b ≡ record a { contexts = b.contexts; epochs = b.epochs }

-- and then its key goes on
pub record GivesUp (a b : Controller) (id : Id) (h : Held Record) (fired : Option Fired) : Type 0 where
  pub mid : Controller
  pub given : IsGivenUp a mid id h
  pub goes : GoesOn mid b h.payload.facts.key fired

-- whether the context is given up, and which timer of its key fires then
abbrev pub EndsBy : Controller → Controller → Id → Held Record → Bool → Option Fired → Type 0
EndsBy a b id h false None = WaitsOn a b id h
EndsBy a b id h false (Some f) = ⊥
EndsBy a b id h true fired = GivesUp a b id h fired

-- a callback that left this turn ends
pub record CallEnds (a b : Controller) (id : Id) (h : Held Record) (t : Turn) (f : Effects) : Type 0 where
  pub mid : Controller
  pub done : IsDone a mid id h t
  pub ends : EndsBy mid b id (record h { count = h.count + length t.asks }) f.gone f.fired
  pub key : f.key ≡ h.payload.facts.key
  pub outs : f.outs ≡ t.outs

-- what its end wants: few references, its key's owner, and work of its epochs that is left
pub record MayEnd (a : Controller) (id : Id) (t : Turn) (h : Held Record) : Type 0 where
  pub few : h.count + length t.asks ≤ 17
  pub owner : owner_of a.accounts h.payload.facts.key ≡ Some id
  pub left : h.count + length t.asks ≡ 1 → AllMayLeave (row_epochs h.payload.handler h.epoch) a.epochs
      × AllMayLeave (ended (times_after t.timer_ops (times_of a.timers h.payload.facts.key)) (waiting_of a.accounts h.payload.facts.key)) (all_left (row_epochs h.payload.handler h.epoch) a.epochs)

-- and rooms for its requests, a start and a firing
pub record IsReady (a : Controller) (id : Id) (t : Turn) : Type 0 where
  pub may : Has a.contexts id (MayEnd a id t)
  pub ranges : InRange a.settings
  pub shards : length a.buffer.queues ≡ a.settings.shards
  pub requests : total length a.buffer.queues + length t.asks ≤ a.buffer.room
  pub contexts : live_count a.contexts ≤ a.contexts.limit
  pub mails : length a.mails.mails < a.mails.room

-- the handler of a context may begin, and its callback may end
pub record MayStart (a : Controller) (id : Id) : Type 0 where
  pub live : IsLive a.contexts id
  pub ready : (s : Slots Record) (t : Turn) → Has a.contexts id (λ h. HasBegun a.program a.contexts s id h t) → IsReady (record a { contexts = s }) id t

-- the same where an answer is given
pub record MayReply (a : Controller) (id : Id) (slot : ℕ) (answer : Answer) : Type 0 where
  pub waits : Has a.contexts id (λ h. WaitsAt a.program h.payload.machine slot)
  pub ready : (s : Slots Record) (t : Turn) → Has a.contexts id (λ h. HasResumed a.program a.contexts s id h slot answer t) → IsReady (record a { contexts = s }) id t

-- a handler has begun, and its callback has ended
pub record Started (a b : Controller) (id : Id) (f : Effects) (h : Held Record) : Type 0 where
  pub contexts : Slots Record
  pub turn : Turn
  pub begun : HasBegun a.program a.contexts contexts id h turn
  pub ended : CallEnds (record a { contexts = contexts }) b id (record h { payload = begun.payload }) turn f

-- it was given an answer
pub record Replied (a b : Controller) (id : Id) (slot : ℕ) (answer : Answer) (f : Effects) (h : Held Record) : Type 0 where
  pub contexts : Slots Record
  pub turn : Turn
  pub resumed : HasResumed a.program a.contexts contexts id h slot answer turn
  pub ended : CallEnds (record a { contexts = contexts }) b id (record h { payload = resumed.payload }) turn f
