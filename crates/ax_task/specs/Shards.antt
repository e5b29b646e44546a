-- Shards that serve batches: which of them are out, and what each holds.
use Rattle.std.specs.Prelude.{◌≡◌, ◌≢◌, ◌<◌, ℕ, ◌%◌, ◌^◌, ℤ, nat_eq, List, [], ◌∷◌, length, drop, Result}
use Rattle.std.specs.Int.{w64, cast_unsigned}
use Rattle.std.specs.List.{slice_index_or, sum_by, count_by, remove}
use Rattle.ax_base.specs.declared.outside.NoMemory.{NoMemory}
use Rattle.ax_text.specs.declared.vocabulary.Kind.{Kind}
use Rattle.ax_text.specs.Functions.{upd}
use Rattle.ax_buffer.specs.declared.items.Item.{Item}
use Rattle.ax_buffer.specs.declared.items.Reply.{Reply}
use Rattle.ax_task.specs.Serving.{Content, Serves, Holding, content_of, AllFit}

-- what a contract sees of shards that serve batches
pub record Serving : Type 0 where
  -- the kinds of the declared states
  pub kinds : List Kind
  -- what each shard holds: at home, or as its batch was sent
  pub shards : List Holding
  -- the batch that each shard is out with; none where it is home
  pub batches : List (List Item)
  -- the shards that are out, in order of sending
  pub sent : List ℕ
  -- the numbers that are left to choose by
  pub order : List ℤ

abbrev pub shard_count : Serving → ℕ
shard_count v = length v.batches

abbrev pub nothing_held : List Kind → Holding
nothing_held kinds = record { kinds = kinds; entries = [] }

abbrev pub holding_of : Serving → ℕ → Holding
holding_of v s = slice_index_or v.shards s (nothing_held v.kinds)

-- what the states of a shard's keys hold: at home, or as its batch was sent
abbrev pub held : Serving → ℕ → Content
held v s = content_of (holding_of v s)

-- the batch that a shard is out with; none where it is home
abbrev pub out : Serving → ℕ → List Item
out v s = slice_index_or v.batches s []

-- nothing was sent and nothing came back
pub record Stays (old_out new_out : ℕ → List Item) (old_held new_held : ℕ → Content) : Type 0 where
  pub out : (s : ℕ) → new_out s ≡ old_out s
  pub held : (s : ℕ) → new_held s ≡ old_held s

-- the batch of a shard came back: it was served on what the shard held, and the shard is home; all others stay
pub record Came (count : ℕ) (old_out new_out : ℕ → List Item) (old_held new_held : ℕ → Content) (s : ℕ) (replies : Result (List Reply) NoMemory) : Type 0 where
  pub shard : s < count
  pub was_out : old_out s ≢ []
  pub home : (t : ℕ) → new_out t ≡ upd old_out s [] t
  pub served : Serves (old_out s) (old_held s) replies (new_held s)
  pub others : (t : ℕ) → t ≢ s → new_held t ≡ old_held t

-- the number to choose by: the low 63 bits of the first that is left, and 0 where none is
abbrev pub choice : List ℤ → ℕ
choice [] = 0
choice (n ∷ ns) = cast_unsigned w64 n % 2 ^ 63

-- which of so many batches is served next, counted from 0 in order of sending
abbrev pub place_in : List ℤ → ℕ → ℕ
place_in order count = choice order % count

-- the shard whose batch is served next, where one is out
abbrev pub next_out : Serving → ℕ
next_out v = slice_index_or v.sent (place_in v.order (length v.sent)) 0

-- the batch of this shard was the one to be served next, and the number by which it was chosen is used up
pub record IsNext (old new : Serving) (s : ℕ) : Type 0 where
  pub shard : s ≡ next_out old
  pub sent : new.sent ≡ remove old.sent (place_in old.order (length old.sent))
  pub order : new.order ≡ drop 1 old.order

-- 1 where a shard is out with this batch
abbrev pub one_if_out : List Item → ℕ
one_if_out [] = 0
one_if_out (i ∷ is) = 1

abbrev pub times_sent : ℕ → List ℕ → ℕ
times_sent s sent = count_by (nat_eq s) sent

-- each shard that is out was sent once and no other was, and each request of a batch can be served
pub record AreSound (v : Serving) : Type 0 where
  pub shards : length v.shards ≡ length v.batches
  pub kinds : (s : ℕ) → (holding_of v s).kinds ≡ v.kinds
  pub fit : (s : ℕ) → AllFit v.kinds (out v s)
  pub once : (s : ℕ) → times_sent s v.sent ≡ one_if_out (out v s)
  pub count : length v.sent ≡ sum_by one_if_out v.batches
