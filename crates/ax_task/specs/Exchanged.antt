-- Requests that wait, and batches that are out: which batch is sent or served next, and what it leaves.
use Rattle.std.specs.Prelude.{◌≡◌, ◌≢◌, ◌≤◌, ◌<◌, ℕ, Bool, true, false, List, [], ◌∷◌, ◌++◌, length, take}
use Rattle.ax_text.specs.Functions.{upd}
use Rattle.ax_buffer.specs.declared.items.Item.{Item}
use Rattle.ax_buffer.specs.Buffer.{queue_of}
use Rattle.ax_execution.specs.MachineControls.{MachineControl}
use Rattle.ax_core.specs.Views.{buffer_of}
use Rattle.ax_core.specs.Sound.{StandsFor}
use Rattle.ax_core.specs.Events.{AsksAll, ServesAll}
use Rattle.ax_core.specs.Numbers.{NoneNumbered}
use Rattle.ax_core.specs.Order.{SendsFirst, Posts, replies_in, idle_in}
use Rattle.ax_task.specs.Serving.{replies_to, content_after}
use Rattle.ax_task.specs.Shards.{held, out, next_out, IsNext}
use Rattle.ax_task.specs.Engines.{batch_of, order_of}
use Rattle.ax_task.specs.Refined.{content_over}
use Rattle.ax_task.specs.Work.{left_to_do}
use Rattle.ax_task.specs.declared.engine.Engine.{Engine}

-- a shard is home, and so many requests wait for it
pub record IsHomeWith (e : Engine) (least shard : ℕ) : Type 0 where
  pub home : out e.shards shard ≡ []
  pub waits : least ≤ length (queue_of (buffer_of e.core) shard)

-- what is left to do, as long as nothing more is taken
abbrev pub left : Engine → ℕ
left e = left_to_do e.core (content_over e.settings (held e.shards))

abbrev pub LessIsLeft : Engine → Engine → Type 0
LessIsLeft old new = left new < left old

-- no request waits, and nothing is out
pub record NothingWaits (e : Engine) : Type 0 where
  pub queues : (shard : ℕ) → shard < e.settings.shards → queue_of (buffer_of e.core) shard ≡ []
  pub home : (shard : ℕ) → out e.shards shard ≡ []

-- for no shard that is home so many requests wait
abbrev pub NoneHomeWith : Engine → ℕ → Type 0
NoneHomeWith e least = (s : ℕ) → s < e.settings.shards → IsHomeWith e least s → ⊥

-- the first shard, by number, that is home and for which so many requests wait
pub record IsFirstHomeWith (e : Engine) (least shard : ℕ) : Type 0 where
  pub among : shard < e.settings.shards
  pub is : IsHomeWith e least shard
  pub first : (s : ℕ) → s < shard → IsHomeWith e least s → ⊥

-- the first requests that wait for a shard: as many as go at once, or all where fewer wait
abbrev pub next_batch : Engine → ℕ → List Item
next_batch e shard = take (batch_of e) (queue_of (buffer_of e.core) shard)

-- they were sent to the shard, which is out with them. That is no event of the machine: the controller still stands for the same control, in
-- which each of them waits at its key, unserved
pub record IsSent (old new : Engine) (shard : ℕ) : Type 0 where
  pub event : (m : MachineControl) → StandsFor old.core m → StandsFor new.core m
  pub asks : (m : MachineControl) → StandsFor old.core m → AsksAll old.core shard m (next_batch old shard)
  pub queue : SendsFirst old.core new.core shard (batch_of old) (next_batch old shard)
  pub batches : (s : ℕ) → out new.shards s ≡ upd (out old.shards) shard (next_batch old shard) s
  pub kept : (s : ℕ) → held new.shards s ≡ held old.shards s
  pub sent : new.shards.sent ≡ old.shards.sent ++ shard ∷ []
  pub order : order_of new ≡ order_of old
  pub numbers : NoneNumbered old.core new.core
  pub idle : idle_in new.core ≡ idle_in old.core
  pub settings : new.settings ≡ old.settings
  pub batch : batch_of new ≡ batch_of old

-- the batch of a shard, the next by the list of numbers, was served and its replies were delivered; the shard is home. By that the machine has
-- served each request of the batch, one after the other
pub record IsBack (old new : Engine) (shard : ℕ) : Type 0 where
  pub event : (m : MachineControl) → StandsFor old.core m → ServesAll old.core new.core (replies_to (out old.shards shard) (held old.shards shard)) m
  pub next : IsNext old.shards new.shards shard
  pub was_out : out old.shards shard ≢ []
  pub home : (s : ℕ) → out new.shards s ≡ upd (out old.shards) shard [] s
  pub replies : Posts old.core new.core (replies_in old.core (replies_to (out old.shards shard) (held old.shards shard)))
  pub served : held new.shards shard ≡ content_after (out old.shards shard) (held old.shards shard)
  pub others : (s : ℕ) → s ≢ shard → held new.shards s ≡ held old.shards s
  pub numbers : NoneNumbered old.core new.core
  pub idle : idle_in new.core ≡ idle_in old.core
  pub settings : new.settings ≡ old.settings
  pub batch : batch_of new ≡ batch_of old

-- no shard is out
abbrev pub NoneOut : Engine → Type 0
NoneOut e = (s : ℕ) → out e.shards s ≡ []

-- what is done with requests
pub data Thing : Type 0 where
  -- a full batch goes to a shard
  SendsFull : (shard : ℕ) → Thing
  -- the batch of a shard is served
  Serves : (shard : ℕ) → Thing
  -- a batch that isn't full goes to a shard
  SendsShort : (shard : ℕ) → Thing
  Nothing : Thing

-- which of them comes: a full batch goes first, to the first shard that is home; where there is none, a batch is served; and only where
-- nothing is out one goes that isn't full
abbrev pub Comes : Engine → Thing → Type 0
Comes e (SendsFull shard) = IsFirstHomeWith e (batch_of e) shard
Comes e (Serves shard) = NoneHomeWith e (batch_of e) × (out e.shards shard ≢ []) × (shard ≡ next_out e.shards)
Comes e (SendsShort shard) = NoneHomeWith e (batch_of e) × NoneOut e × IsFirstHomeWith e 1 shard
Comes e Nothing = NothingWaits e

-- what it leaves
abbrev pub LeadsTo : Engine → Engine → Thing → Type 0
LeadsTo old new (SendsFull shard) = IsSent old new shard
LeadsTo old new (SendsShort shard) = IsSent old new shard
LeadsTo old new (Serves shard) = IsBack old new shard
LeadsTo old new Nothing = new ≡ old

abbrev pub is_something : Thing → Bool
is_something (SendsFull shard) = true
is_something (SendsShort shard) = true
is_something (Serves shard) = true
is_something Nothing = false

-- the thing that comes was done, and whether it is one
pub record Exchanges (old new : Engine) (done : Bool) : Type 0 where
  pub thing : Thing
  pub comes : Comes old thing
  pub leads : LeadsTo old new thing
  pub told : done ≡ is_something thing
