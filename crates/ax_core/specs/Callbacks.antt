-- What the parts of a callback's end do.
use Rattle.std.specs.Prelude.{◌≡◌, ◌<◌, ℕ, ◌+◌, ◌-◌, ℤ, pos, nat_lt, Bool, true, false, ◌&&◌, if◌then◌else◌, List, [], ◌∷◌, ◌++◌, map, length, Option, Some, None}
use Rattle.std.specs.List.{slice_set}
use Rattle.ax_keys.specs.declared.TheConstants.{MOST_FIRINGS}
use Rattle.ax_text.specs.declared.vocabulary.Answer.{Answer}
use Rattle.ax_text.specs.declared.vocabulary.Handler.{Handler}
use Rattle.ax_text.specs.declared.vocabulary.Handler.TheVariants as handler
use Rattle.ax_text.specs.Controls.{Rest, slots, waiting, replaced, begin, give}
use Rattle.ax_text.specs.Prints.{has}
use Rattle.ax_text.specs.Jobs.{text_for}
use Rattle.ax_text.specs.Silent.{silent}
use Rattle.ax_text.specs.Underway.{SlotsRise}
use Rattle.ax_lang.specs.declared.program.Program.{Program}
use Rattle.ax_lang.specs.Shown.{shown_program}
use Rattle.ax_future.specs.declared.callback.Ask.{Ask}
use Rattle.ax_future.specs.declared.callback.Turn.{Turn}
use Rattle.ax_future.specs.declared.machine.Machine.{Machine}
use Rattle.ax_future.specs.Machines as machine
use Rattle.ax_future.specs.Talks.{facts_in, asks_in}
use Rattle.ax_machine.specs.Entries.{Key}
use Rattle.ax_execution.specs.Contexts.{is_due}
use Rattle.ax_buffer.specs.declared.items.Item.{Item}
use Rattle.ax_buffer.specs.Buffer.{Buffer, queue_of, total}
use Rattle.ax_context.specs.declared.id.Id.{Id}
use Rattle.ax_context.specs.declared.contexts.Context.{Context}
use Rattle.ax_context.specs.Slots.{Slots, at, Has, OthersStay, live_count, IsPaid}
use Rattle.ax_account.specs.declared.part.Waiting.{Waiting}
use Rattle.ax_account.specs.declared.part.Waiting.TheVariants as item
use Rattle.ax_account.specs.declared.part.Next.{Next}
use Rattle.ax_account.specs.declared.part.Next.TheVariants as next
use Rattle.ax_account.specs.Queues.{has_key}
use Rattle.ax_account.specs.Parts.{next_of, taken_up, is_mark}
use Rattle.ax_account.specs.Accounts.{waiting_of, Changes}
use Rattle.ax_mailbox.specs.declared.mail.Mail.{Mail}
use Rattle.ax_mailbox.specs.declared.mail.Mail.TheVariants as mail
use Rattle.ax_time.specs.Epochs.{Book, IsOpen, count_of, with_count}
use Rattle.ax_time.specs.Timers.{times_of}
use Rattle.ax_core.specs.declared.record.Record.{Record}
use Rattle.ax_core.specs.declared.effects.Fired.{Fired}
use Rattle.ax_core.specs.declared.controller.Controller.{Controller}
use Rattle.ax_core.specs.Firings.{FiresAt}

-- the record has this machine
abbrev pub with_machine : Record → Machine → Record
with_machine r m = record { facts = r.facts; handler = r.handler; machine = Some m }

-- a handler has begun, and this is what its first callback left
pub record Begins (p : Program) (old new : Record) (t : Turn) : Type 0 where
  pub after : Machine
  pub there : new ≡ with_machine old after
  pub turn : begin (facts_in old.facts) (Rest (text_for (shown_program p) old.handler) ∷ []) [] (silent (λ i. pos 0)) ≡ machine.left_by p after t
  pub sound : machine.IsSound p after
  pub asks : waiting (machine.control_of p after) ≡ asks_in t.asks
  pub rise : SlotsRise (asks_in t.asks)

-- a handler waits for an answer at this slot
abbrev pub WaitsAt : Program → Option Machine → ℕ → Type 0
WaitsAt p None slot = ⊥
WaitsAt p (Some m) slot = machine.IsSound p m × (has slot (slots (machine.control_of p m)) ≡ true)

-- a machine was given an answer, and this is what the callback left
pub record Resumed (p : Program) (old new : Record) (before : Machine) (slot : ℕ) (a : Answer) (t : Turn) : Type 0 where
  pub after : Machine
  pub there : new ≡ with_machine old after
  pub turn : give (facts_in old.facts) (machine.control_of p before) slot a (silent (machine.names_of before)) ≡ machine.left_by p after t
  pub sound : machine.IsSound p after
  pub asks : waiting (machine.control_of p after) ≡ replaced slot (asks_in t.asks) (waiting (machine.control_of p before))
  pub rise : SlotsRise (asks_in t.asks)

abbrev pub ResumedAt : Program → Record → Record → Option Machine → ℕ → Answer → Turn → Type 0
ResumedAt p old new None slot a t = ⊥
ResumedAt p old new (Some m) slot a t = Resumed p old new m slot a t

-- the handler of a context has begun, or was given an answer, and nothing else has changed
pub record HasBegun (p : Program) (old new : Slots Record) (id : Id) (c : Context Record) (t : Turn) : Type 0 where
  pub payload : Record
  pub begins : Begins p c.payload payload t
  pub paid : IsPaid old new id payload

pub record HasResumed (p : Program) (old new : Slots Record) (id : Id) (c : Context Record) (slot : ℕ) (a : Answer) (t : Turn) : Type 0 where
  pub payload : Record
  pub resumed : ResumedAt p c.payload payload c.payload.machine slot a t
  pub paid : IsPaid old new id payload

-- the items of a callback's requests
abbrev pub item_for : Id → Key → Ask → Item
item_for id key a = record { id = id; slot = a.slot; key = key; request = a.request }

abbrev pub items_for : Id → Key → List Ask → List Item
items_for id key asks = map (item_for id key) asks

-- a context has so many references more, and all else is as before
pub record IsHeld (old new : Slots Record) (id : Id) (n : ℕ) : Type 0 where
  pub counted : Has old id (λ c. at new id ≡ Some (record c { count = c.count + n }))
  pub others : OthersStay old new id
  pub len : live_count new ≡ live_count old
  pub limit : new.limit ≡ old.limit
  pub next : new.next ≡ old.next

-- items went last into a shard's queue, in order
pub record IsQueued (old new : Buffer) (shard : ℕ) (is : List Item) : Type 0 where
  pub queues : new.queues ≡ slice_set old.queues shard (queue_of old shard ++ is)
  pub total : total length new.queues ≡ total length old.queues + length is
  pub room : new.room ≡ old.room

-- a mark of this time that has fired so often fires one of these timers
abbrev pub fires : ℤ → ℕ → List ℤ → Bool
fires w fired times = nat_lt fired MOST_FIRINGS && is_due w times

-- the epoch of the mark in front, where that fires none of these timers
abbrev pub ending : List ℤ → Next → Option ℕ
ending times next.Free = None
ending times (next.Row id) = None
ending times (next.Mark e w fired) = if fires w fired times then None else Some e

-- behind the marks that fire none of these timers
abbrev pub behind_marks : List ℤ → List Waiting → List Waiting
behind_marks times [] = []
behind_marks times (item.Row id ∷ is) = item.Row id ∷ is
behind_marks times (item.Mark e w fired ∷ is) = if fires w fired times then item.Mark e w fired ∷ is else behind_marks times is

-- the epochs of the marks that are taken off
abbrev pub ended : List ℤ → List Waiting → List ℕ
ended times [] = []
ended times (item.Row id ∷ is) = []
ended times (item.Mark e w fired ∷ is) = if fires w fired times then [] else e ∷ ended times is

-- one of an epoch's work is done, for each of these
abbrev pub left_by_one : Book → ℕ → Book
left_by_one book e = with_count book e (count_of book e - 1)

abbrev pub all_left : List ℕ → Book → Book
all_left [] book = book
all_left (e ∷ es) book = all_left es (left_by_one book e)

abbrev pub AllMayLeave : List ℕ → Book → Type 0
AllMayLeave [] book = Unit {0}
AllMayLeave (e ∷ es) book = (IsOpen book e × (0 < count_of book e)) × AllMayLeave es (left_by_one book e)

-- the epoch that a row is work of; a firing is none, since its mark is
abbrev pub row_epochs : Handler → ℕ → List ℕ
row_epochs handler.Row e = e ∷ []
row_epochs handler.Timer e = []

-- the mails with the start of a row that owns its key now
abbrev pub with_start : Next → List Mail → List Mail
with_start next.Free ms = ms
with_start (next.Row id) ms = ms ++ mail.Start id ∷ []
with_start (next.Mark e w fired) ms = ms

-- what waits for a key behind the marks that fire nothing
abbrev pub waits_next : Controller → Key → List Waiting
waits_next a key = behind_marks (times_of a.timers key) (waiting_of a.accounts key)

-- a key was handed over, and a row that owns it now is to be started; nothing else changes, and the key isn't idle
pub record HandsOver (old new : Controller) (key : Key) : Type 0 where
  pub part : Changes old.accounts new.accounts key (taken_up (waits_next old key))
  pub idle : new.accounts.idle ≡ old.accounts.idle
  pub busy : has_key new.accounts.idle key ≡ false
  pub epochs : new.epochs ≡ all_left (ended (times_of old.timers key) (waiting_of old.accounts key)) old.epochs
  pub mails : new.mails.mails ≡ with_start (next_of (waits_next old key)) old.mails.mails
  pub room : new.mails.room ≡ old.mails.room
  pub same : new ≡ record old { accounts = new.accounts; epochs = new.epochs; mails = new.mails }

-- and then the mark in front fires, where one is there
abbrev pub GoesOn : Controller → Controller → Key → Option Fired → Type 0
GoesOn old new key None = (is_mark (next_of (waits_next old key)) ≡ false) × HandsOver old new key
GoesOn old new key (Some f) = (mid : Controller) × (HandsOver old mid key × FiresAt mid new key f)
