-- Batches that are out, and the mails that their replies become.
use Rattle.std.specs.Prelude.{◌≡◌, ◌≢◌, ◌≤◌, ◌<◌, ℕ, ◌+◌, List, ◌++◌, map, length}
use Rattle.std.specs.List.{Contains, slice_index_or, slice_set}
use Rattle.ax_buffer.specs.declared.items.Reply.{Reply}
use Rattle.ax_buffer.specs.Buffer.{total}
use Rattle.ax_context.specs.declared.id.Id.{Id}
use Rattle.ax_mailbox.specs.declared.mail.Mail.{Mail}
use Rattle.ax_mailbox.specs.declared.mail.Mail.TheVariants as mail
use Rattle.ax_core.specs.declared.record.Name.{Name}
use Rattle.ax_core.specs.declared.controller.Controller.{Controller}
use Rattle.ax_core.specs.Views.{outs_of}
use Rattle.ax_core.specs.Flow.{named_as, in_outs, out_of}
use Rattle.ax_core.specs.Events.{names_of}

-- where a name first stands; the length, where it doesn't
pub record IsPlaceOf (names : List Name) (name : Name) (place : ℕ) : Type 0 where
  pub within : place ≤ length names
  pub before : (k : ℕ) → k < place → slice_index_or names k name ≢ name
  pub found : place < length names → slice_index_or names place name ≡ name

abbrev pub mails_in : List Reply → List Mail
mails_in rs = map (λ r. mail.Reply r.id r.slot r.answer) rs

-- the requests that these replies name are taken from those that are out; what was before them and behind them stays, in order
abbrev pub OthersOut : Controller → Controller → List Reply → Type 0
OthersOut old new rs = (shard : ℕ) (before behind : List Name) → out_of old shard ≡ before ++ (names_of rs ++ behind) → (outs_of new).items ≡ slice_set (outs_of old).items shard (before ++ behind)

-- the requests that these replies name are out no longer, and nothing else changes
pub record Forgets (old new : Controller) (rs : List Reply) : Type 0 where
  pub same : new ≡ record old { outs = new.outs }
  pub shards : length new.outs.items ≡ length old.outs.items
  pub fewer : total length new.outs.items + length rs ≡ total length old.outs.items
  pub counts : (id : Id) (slot : ℕ) → in_outs new id slot + named_as id slot (names_of rs) ≡ in_outs old id slot
  pub out : (shard : ℕ) (n : Name) → Contains (out_of new shard) n → Contains (out_of old shard) n
  pub outs : OthersOut old new rs
