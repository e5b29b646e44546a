-- Queues as they lie in one arena: each item is followed by the place of the next.
use Rattle.std.specs.Prelude.{◌≡◌, ◌≢◌, ℕ, zero, suc, ◌+◌, ◌^◌, ◌<◌, ◌≤◌, List, [], ◌∷◌, ◌++◌, map, Option, Some, None}
use Rattle.std.specs.List.{slice_index_or}
use Rattle.slab.specs.Slab.{Slab, get, ContainsKey, slab_len, Updates}
use Rattle.ax_buffer.specs.declared.items.Item.{Item}
use Rattle.ax_buffer.specs.declared.chain.Node.{Node}
use Rattle.ax_buffer.specs.declared.chain.Chain.{Chain}
use Rattle.ax_buffer.specs.Buffer.{Buffer, total}

-- the place that follows
unfoldable pub next_of : Option Node → ℕ
next_of None = 0
next_of (Some node) = node.next

-- the item that lies there, or none
unfoldable pub item_of : Option Node → List Item
item_of None = []
item_of (Some node) = node.item ∷ []

-- where the item with this number lies, counted from 0 at the first place
unfoldable pub place : Slab Node → ℕ → ℕ → ℕ
place nodes first zero = first
place nodes first (suc n) = next_of (get nodes (place nodes first n))

-- so many items, from the first place on
unfoldable pub items_from : Slab Node → ℕ → ℕ → List Item
items_from nodes first zero = []
items_from nodes first (suc n) = items_from nodes first n ++ item_of (get nodes (place nodes first n))

-- the queue that a chain is
abbrev pub shown_queue : Slab Node → Chain → List Item
shown_queue nodes chain = items_from nodes chain.first chain.length

abbrev pub empty_chain : Chain
empty_chain = record { first = 0; last = 0; length = 0 }

-- the chain of a shard, and an empty one past the last shard
abbrev pub chain_of : List Chain → ℕ → Chain
chain_of chains shard = slice_index_or chains shard empty_chain

-- where the item with this number of a shard lies
abbrev pub place_of : Slab Node → List Chain → ℕ → ℕ → ℕ
place_of nodes chains shard n = place nodes (chain_of chains shard).first n

-- each item of each chain has a place of its own, and the arena has room for all
pub record IsSound (nodes : Slab Node) (chains : List Chain) (room : ℕ) : Type 0 where
  pub live : (s n : ℕ) → n < (chain_of chains s).length → ContainsKey nodes (place_of nodes chains s n)
  pub last : (s n : ℕ) → n + 1 ≡ (chain_of chains s).length → (chain_of chains s).last ≡ place_of nodes chains s n
  pub apart : (s t m n : ℕ) → m < (chain_of chains s).length → n < (chain_of chains t).length → place_of nodes chains s m ≡ place_of nodes chains t n → (s ≡ t) × (m ≡ n)
  pub counted : total (λ c. c.length) chains ≡ slab_len nodes
  pub within : slab_len nodes ≤ room
  pub reserved : room ≤ nodes.capacity
  pub small : room < 2 ^ 32

-- the buffer that chains in an arena are
abbrev pub shown_buffer : Slab Node → List Chain → ℕ → Buffer
shown_buffer nodes chains room = record { queues = map (shown_queue nodes) chains; room = room }

-- the arena and the chain behind a push: the item lies at a place that was free, and follows what was last
pub record IsAppended (old new : Slab Node) (chain longer : Chain) (item : Item) : Type 0 where
  pub free : get old longer.last ≡ None
  pub stored : item_of (get new longer.last) ≡ item ∷ []
  pub items : (p : ℕ) → p ≢ longer.last → item_of (get new p) ≡ item_of (get old p)
  pub links : (p : ℕ) → p ≢ longer.last → (0 < chain.length → p ≢ chain.last) → next_of (get new p) ≡ next_of (get old p)
  pub behind : 0 < chain.length → next_of (get new chain.last) ≡ longer.last
  pub first : 0 < chain.length → longer.first ≡ chain.first
  pub alone : chain.length ≡ 0 → longer.first ≡ longer.last
  pub longer_by_one : longer.length ≡ chain.length + 1

-- the arena and the chain behind a take: the first item is gone, and its place is free
pub record IsDetached (old new : Slab Node) (chain shorter : Chain) (item : Item) : Type 0 where
  pub taken : item_of (get old chain.first) ≡ item ∷ []
  pub freed : Updates old new chain.first None
  pub first : shorter.first ≡ next_of (get old chain.first)
  pub last : shorter.last ≡ chain.last
  pub shorter_by_one : shorter.length + 1 ≡ chain.length
