-- The events that a call makes.
use Rattle.std.specs.Prelude.{◌≡◌, ◌⊎◌, ◌<◌, ℕ, ℤ, List, [], ◌∷◌, ◌++◌, map, true, Option, Some, None}
use Rattle.std.specs.List.{Contains}
use Rattle.ax_text.specs.Controls.{request_at}
use Rattle.ax_lang.specs.Shown.{shown_program}
use Rattle.ax_machine.specs.Entries.{Key, says}
use Rattle.ax_buffer.specs.declared.items.Item.{Item}
use Rattle.ax_buffer.specs.declared.items.Reply.{Reply}
use Rattle.ax_context.specs.declared.contexts.Context.{Context as Held}
use Rattle.ax_context.specs.Slots.{at}
use Rattle.ax_time.specs.declared.epoch.Marker.{Marker}
use Rattle.ax_execution.specs.Contexts.{Stage, Unbegun, Begun, Context, Waiting, Row, Mark}
use Rattle.ax_execution.specs.Machine.{Closed, Happening, Fire, Start, Serve, Deliver, Send}
use Rattle.ax_execution.specs.ControlTurns.{is_idle_on}
use Rattle.ax_execution.specs.MachineControls.{MachineControl, happens_on, outcome_on, in_flight_on}
use Rattle.ax_execution.specs.ControlsAllowed.{AllowedOn, IsOpenOn, NoneIsIdleOn, FirstIsFinishedOn, Answered, IsRunOn, after_all_on}
use Rattle.ax_core.specs.declared.record.Record.{Record}
use Rattle.ax_core.specs.declared.record.Name.{Name}
use Rattle.ax_core.specs.declared.effects.Fired.{Fired}
use Rattle.ax_core.specs.declared.effects.Ran.{Ran}
use Rattle.ax_core.specs.declared.effects.Ran.TheVariants as ran
use Rattle.ax_core.specs.declared.effects.Effects.{Effects}
use Rattle.ax_core.specs.declared.controller.Controller.{Controller}
use Rattle.ax_core.specs.Views.{contexts_of, program_of, settings_of}
use Rattle.ax_core.specs.Epochs.{closing_of}
use Rattle.ax_core.specs.Flow.{shard_of, out_of}
use Rattle.ax_core.specs.Sound.{rules_of, StandsFor}

-- the program and the settings stay
pub record SameRules (old new : Controller) : Type 0 where
  pub program : program_of new ≡ program_of old
  pub settings : settings_of new ≡ settings_of old

-- one event: it is allowed, and the controller stands for what it leaves
pub record Makes (old new : Controller) (e : Happening) (m : MachineControl) : Type 0 where
  pub allowed : AllowedOn (rules_of (settings_of old)) e m
  pub stands : StandsFor new (happens_on (shown_program (program_of old)) e None m)

-- a row may come in, as far as its number doesn't matter
pub record MayAdmitOn (a : Controller) (m : MachineControl) : Type 0 where
  pub is_open : IsOpenOn (rules_of (settings_of a)) m
  pub room : in_flight_on m < (settings_of a).in_flight
  pub busy : NoneIsIdleOn m

-- some key is idle, and there is room for one more context
pub record MayFireOn (a : Controller) (m : MachineControl) : Type 0 where
  pub key : Key
  pub idle : is_idle_on (m.controls key) ≡ true
  pub room : in_flight_on m < (settings_of a).in_flight

-- the handler of a key's owner may begin, or be given the answer at some slot
abbrev pub MayCall : Controller → MachineControl → Key → Type 0
MayCall a m key = AllowedOn (rules_of (settings_of a)) (Start key) m ⊎ ((slot : ℕ) × AllowedOn (rules_of (settings_of a)) (Deliver key slot) m)

-- that of some key
pub record MayCallOn (a : Controller) (m : MachineControl) : Type 0 where
  pub key : Key
  pub call : MayCall a m key

-- the marker of the oldest closed epoch, where that is finished
abbrev pub IsFirstClosed : Marker → List Closed → Type 0
IsFirstClosed k [] = ⊥
IsFirstClosed k (c ∷ cs) = closing_of k ≡ c.closing

pub record Sends (old new : Controller) (k : Marker) (m : MachineControl) : Type 0 where
  pub first : IsFirstClosed k m.unsent
  pub made : Makes old new Send m

-- nothing changes where the oldest closed epoch isn't finished
pub record StaysUnsent (old new : Controller) (m : MachineControl) : Type 0 where
  pub unfinished : FirstIsFinishedOn m.unsent m → ⊥
  pub same : new ≡ old

abbrev pub SendsNext : Controller → Controller → Option Marker → MachineControl → Type 0
SendsNext old new None m = StaysUnsent old new m
SendsNext old new (Some k) m = Sends old new k m

-- the mark in front of a key, and its least timer
abbrev pub IsFront : Fired → List Waiting → Type 0
IsFront f [] = ⊥
IsFront f (Row n e facts ∷ is) = ⊥
IsFront f (Mark e w more ∷ is) = w ≡ f.mark

abbrev pub IsLeast : Fired → List ℤ → Type 0
IsLeast f [] = ⊥
IsLeast f (t ∷ ts) = t ≡ f.time

-- a timer fires as told
pub record Fires (old new : Controller) (f : Fired) (m : MachineControl) : Type 0 where
  pub mark : IsFront f (m.controls f.key).waiting
  pub time : IsLeast f (m.controls f.key).times
  pub made : Makes old new (Fire f.context f.key) m

-- the callback that ran, as an event of the key
abbrev pub event_of : Key → Ran → Happening
event_of k (ran.Start n) = Start k
event_of k (ran.Reply n slot) = Deliver k slot

abbrev pub number_of : Ran → ℕ
number_of (ran.Start n) = n
number_of (ran.Reply n slot) = n

abbrev pub IsOwnedBy : ℕ → Option Context → Type 0
IsOwnedBy n None = ⊥
IsOwnedBy n (Some c) = c.number ≡ n

-- where no key must fire behind the callback, that was all; else the key that must fires
abbrev pub FiresNext : Controller → Controller → Option Fired → MachineControl → Type 0
FiresNext old new None m = StandsFor new m
FiresNext old new (Some f) m = (m.must ≡ Some f.key) × Fires old new f m

-- a callback ran: its event is allowed, its lines are written, and a context is given up exactly where told
pub record Runs (old new : Controller) (f : Effects) (m : MachineControl) : Type 0 where
  pub owner : IsOwnedBy (number_of f.ran) (m.controls f.key).owner
  pub allowed : AllowedOn (rules_of (settings_of old)) (event_of f.key f.ran) m
  pub lines : (outcome_on (shown_program (program_of old)) (event_of f.key f.ran) m).lines ≡ says f.key f.outs
  pub gone : (outcome_on (shown_program (program_of old)) (event_of f.key f.ran) m).gone ≡ f.gone
  pub next : FiresNext old new f.fired (happens_on (shown_program (program_of old)) (event_of f.key f.ran) None m)

-- a request of the batch waits at its key, unserved, and its key is of the batch's shard
abbrev pub StageAsksIt : Item → Stage → Type 0
StageAsksIt i Unbegun = ⊥
StageAsksIt i (Begun r) = (request_at r.control i.slot ≡ Some i.request) × (r.answers i.slot ≡ None)

abbrev pub OwnerAsks : Item → Option Context → Type 0
OwnerAsks i None = ⊥
OwnerAsks i (Some c) = StageAsksIt i c.stage

pub record Asks (a : Controller) (place : ℕ) (m : MachineControl) (i : Item) : Type 0 where
  pub shard : shard_of (settings_of a) i.key ≡ place
  pub asks : OwnerAsks i (m.controls i.key).owner

abbrev pub AsksAll : Controller → ℕ → MachineControl → List Item → Type 0
AsksAll a shard m [] = Unit {0}
AsksAll a shard m (i ∷ is) = Asks a shard m i × AsksAll a shard m is

-- the requests of a batch are out, the last of their shard
abbrev pub names_in : List Item → List Name
names_in is = map (λ i. record { id = i.id; slot = i.slot }) is

pub record AreOut (a : Controller) (shard : ℕ) (is : List Item) : Type 0 where
  pub before : List Name
  pub there : out_of a shard ≡ before ++ names_in is

-- the replies name, in order, requests of one shard that are out
abbrev pub names_of : List Reply → List Name
names_of rs = map (λ r. record { id = r.id; slot = r.slot }) rs

pub record IsBatchOut (a : Controller) (rs : List Reply) : Type 0 where
  pub shard : ℕ
  pub before : List Name
  pub behind : List Name
  pub there : out_of a shard ≡ before ++ (names_of rs ++ behind)

-- the key of a context
abbrev pub key_in : Option (Held Record) → Key
key_in None = []
key_in (Some h) = h.payload.facts.key

-- each request that is out is of the key that it was of
abbrev pub KeysStay : Controller → Controller → Type 0
KeysStay old new = (shard : ℕ) (n : Name) → Contains (out_of old shard) n → key_in (at (contexts_of new) n.id) ≡ key_in (at (contexts_of old) n.id)

-- each of these requests is of a context of its key
abbrev pub OfKeys : Controller → List Item → Type 0
OfKeys a [] = Unit {0}
OfKeys a (i ∷ is) = (key_in (at (contexts_of a) i.id) ≡ i.key) × OfKeys a is

-- each reply serves what it names
abbrev pub serves : Controller → List Reply → List Answered
serves a [] = []
serves a (r ∷ rs) = record { event = Serve (key_in (at (contexts_of a) r.id)) r.slot; answer = Some r.answer } ∷ serves a rs

-- the events of a delivery, one for each reply
pub record ServesAll (old new : Controller) (rs : List Reply) (m : MachineControl) : Type 0 where
  pub allowed : IsRunOn (rules_of (settings_of old)) (shown_program (program_of old)) (serves old rs) m
  pub stands : StandsFor new (after_all_on (shown_program (program_of old)) (serves old rs) m)
