-- The way of the requests: each that waits is in the queue of its key's shard, out in a batch, or answered by a mail.
use Rattle.std.specs.Prelude.{◌≡◌, ℕ, ◌+◌, nat_eq, Bool, false, ◌&&◌, cond, List, [], ◌∷◌, map, length, Option, Some, None, is_none}
use Rattle.std.specs.List.{Contains, slice_index_or}
use Rattle.ax_text.specs.Controls.{Ask'}
use Rattle.ax_text.specs.Prints.{has}
use Rattle.ax_keys.specs.Groups.{group, index_of_group}
use Rattle.ax_machine.specs.Entries.{Key}
use Rattle.ax_lang.specs.declared.program.Program.{Program}
use Rattle.ax_future.specs.declared.machine.Machine.{Machine}
use Rattle.ax_buffer.specs.declared.items.Item.{Item}
use Rattle.ax_buffer.specs.Buffer.{queue_of, total}
use Rattle.ax_context.specs.declared.id.Id.{Id}
use Rattle.ax_context.specs.declared.contexts.Context.{Context as Held}
use Rattle.ax_context.specs.Slots.{at}
use Rattle.ax_account.specs.Accounts.{owner_of}
use Rattle.ax_mailbox.specs.declared.mail.Mail.{Mail}
use Rattle.ax_mailbox.specs.declared.mail.Mail.TheVariants as mail
use Rattle.ax_core.specs.declared.record.Record.{Record}
use Rattle.ax_core.specs.declared.record.Name.{Name}
use Rattle.ax_core.specs.declared.settings.Settings.{Settings}
use Rattle.ax_core.specs.declared.controller.Controller.{Controller}
use Rattle.ax_core.specs.Contexts.{same_id, waits_at}

-- the shard of a key's states
abbrev pub shard_of : Settings → Key → ℕ
shard_of s key = index_of_group (group key s.groups) s.groups s.shards

abbrev pub one_if : Bool → ℕ
one_if b = cond b 1 0

-- a request of a context, by its slot
abbrev pub names_request : Id → ℕ → Id → ℕ → Bool
names_request id slot i s = same_id i id && nat_eq s slot

-- how often a request stands in a queue, in a batch that is out, and among the mails
abbrev pub queued_as : Id → ℕ → List Item → ℕ
queued_as id slot [] = 0
queued_as id slot (i ∷ is) = one_if (names_request id slot i.id i.slot) + queued_as id slot is

abbrev pub named_as : Id → ℕ → List Name → ℕ
named_as id slot [] = 0
named_as id slot (n ∷ ns) = one_if (names_request id slot n.id n.slot) + named_as id slot ns

abbrev pub answers_as : Id → ℕ → Mail → ℕ
answers_as id slot (mail.Start i) = 0
answers_as id slot (mail.Fire i) = 0
answers_as id slot (mail.Reply i s a) = one_if (names_request id slot i s)

abbrev pub answered_as : Id → ℕ → List Mail → ℕ
answered_as id slot [] = 0
answered_as id slot (m ∷ ms) = answers_as id slot m + answered_as id slot ms

-- how often a context is to be started
abbrev pub starts_as : Id → Mail → ℕ
starts_as id (mail.Start i) = one_if (same_id i id)
starts_as id (mail.Fire i) = one_if (same_id i id)
starts_as id (mail.Reply i s a) = 0

abbrev pub started_as : Id → List Mail → ℕ
started_as id [] = 0
started_as id (m ∷ ms) = starts_as id m + started_as id ms

-- in all queues together, and in all that is out
abbrev pub in_queues : Controller → Id → ℕ → ℕ
in_queues a id slot = total (queued_as id slot) a.buffer.queues

abbrev pub in_outs : Controller → Id → ℕ → ℕ
in_outs a id slot = total (named_as id slot) a.outs.items

-- whether a request waits at a slot of a context, and whether a context owns its key and hasn't begun
abbrev pub waits_for : List Ask' → ℕ → Bool
waits_for asks slot = has slot (map (λ a. a.slot) asks)

abbrev pub is_owner : Id → Option Id → Bool
is_owner id None = false
is_owner id (Some i) = same_id i id

abbrev pub is_to_start : Controller → Id → Option (Held Record) → Bool
is_to_start a id None = false
is_to_start a id (Some h) = is_none h.payload.machine && is_owner id (owner_of a.accounts h.payload.facts.key)

-- a context that has begun owns its key
abbrev pub OwnsBegun : Controller → Id → Option Machine → Key → Type 0
OwnsBegun a id None key = Unit {0}
OwnsBegun a id (Some m) key = owner_of a.accounts key ≡ Some id

abbrev pub OwnsOnceBegun : Controller → Id → Option (Held Record) → Type 0
OwnsOnceBegun a id None = Unit {0}
OwnsOnceBegun a id (Some h) = OwnsBegun a id h.payload.machine h.payload.facts.key

-- what stands in a shard's queue is what a context of a key of that shard waits for
pub record IsAsked (p : Program) (s : Settings) (place : ℕ) (i : Item) (h : Held Record) : Type 0 where
  pub key : i.key ≡ h.payload.facts.key
  pub shard : shard_of s i.key ≡ place
  pub waits : Contains (waits_at p (Some h)) (record { slot = i.slot; request = i.request })

abbrev pub QueuedStands : Controller → ℕ → Item → Option (Held Record) → Type 0
QueuedStands a shard i None = ⊥
QueuedStands a shard i (Some h) = IsAsked a.program a.settings shard i h

-- what is out of a shard is of a key of that shard
abbrev pub OutStands : Controller → ℕ → Option (Held Record) → Type 0
OutStands a shard None = ⊥
OutStands a shard (Some h) = shard_of a.settings h.payload.facts.key ≡ shard

abbrev pub out_of : Controller → ℕ → List Name
out_of a shard = slice_index_or a.outs.items shard []

pub record IsFlow (a : Controller) : Type 0 where
  -- each request that waits stands in one place, once, and no other does
  pub once : (id : Id) (slot : ℕ) → in_queues a id slot + (in_outs a id slot + answered_as id slot a.mails.mails) ≡ one_if (waits_for (waits_at a.program (at a.contexts id)) slot)
  -- each owner that hasn't begun has one mail that starts it, and no other context has
  pub starts : (id : Id) → started_as id a.mails.mails ≡ one_if (is_to_start a id (at a.contexts id))
  pub begun : (id : Id) → OwnsOnceBegun a id (at a.contexts id)
  pub queued : (shard : ℕ) (i : Item) → Contains (queue_of a.buffer shard) i → QueuedStands a shard i (at a.contexts i.id)
  pub out : (shard : ℕ) (n : Name) → Contains (out_of a shard) n → OutStands a shard (at a.contexts n.id)
  pub shards : (length a.buffer.queues ≡ a.settings.shards) × (length a.outs.items ≡ a.settings.shards)

-- how much is on its way: requests in queues and out, and mails
abbrev pub on_the_way : Controller → ℕ
on_the_way a = total length a.buffer.queues + (total length a.outs.items + length a.mails.mails)
