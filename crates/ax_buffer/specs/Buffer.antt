-- What a contract sees of a buffer of requests.
use Rattle.std.specs.Prelude.{ℕ, ◌+◌, List, [], ◌∷◌}
use Rattle.std.specs.List.{slice_index_or}
use Rattle.ax_buffer.specs.declared.items.Item.{Item}

-- the queue of each shard, first items first, and how many items all queues together may hold
pub record Buffer : Type 0 where
  pub queues : List (List Item)
  pub room : ℕ

-- the queue of one shard
abbrev pub queue_of : Buffer → ℕ → List Item
queue_of b shard = slice_index_or b.queues shard []

-- the sum of a number of each element
abbrev pub total : {X : Type 0} → (X → ℕ) → List X → ℕ
total f [] = 0
total f (x ∷ xs) = f x + total f xs
