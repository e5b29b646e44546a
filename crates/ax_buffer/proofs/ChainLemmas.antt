-- Chains in an arena.
use Rattle.std.proofs.Common.{◌≡◌, ◌≢◌, ℕ, zero, suc, ◌+◌, ◌-◌, ◌^◌, ◌<◌, ◌≤◌, List, [], ◌∷◌, ◌++◌, length, get_or, map, replicate, count_by, is_some, Option, Some, None, IsSome, refl, sym, ap, ap₂, ◌∙◌, inl, inr, arith, subst, append_assoc, append-nil, length-append, add-one}
use Rattle.std.proofs.lemmas.Bool.{cases_lt}
use Rattle.std.proofs.lemmas.List.{length-map, get_or_past, get_or_read}
use Rattle.std.proofs.Math.ListN.{get_or-map}
use Rattle.slab.specs.Slab.{Slab, get, ContainsKey, slab_len}
use Rattle.ax_buffer.specs.declared.items.Item.{Item}
use Rattle.ax_buffer.specs.declared.chain.Node.{Node}
use Rattle.ax_buffer.specs.declared.chain.Chain.{Chain}
use Rattle.ax_buffer.specs.Buffer.{Buffer, queue_of, total}
use Rattle.ax_buffer.specs.Chains.{next_of, item_of, place, items_from, shown_queue, empty_chain, chain_of, IsSound, shown_buffer}
use Rattle.ax_buffer.proofs.ListLemmas.{total_same, total-at, total-replicate, at_replicate, map-replicate}

-- a place has an item where another with the same has one
pub live_by_item : (o p : Option Node) → item_of p ≡ item_of o → IsSome o → IsSome p
unfolding item_of
live_by_item None p e h = cc h
live_by_item (Some n) None e h = cc e
live_by_item (Some n) (Some m) e h = refl

pub live_stored : (o : Option Node) (item : Item) → item_of o ≡ item ∷ [] → IsSome o
unfolding item_of
live_stored None item e = cc e
live_stored (Some n) item e = refl

-- a place with no item is not one with an item
pub vacant_differs : (nodes : Slab Node) (p q : ℕ) → get nodes p ≡ None → ContainsKey nodes q → p ≢ q
vacant_differs nodes p q none some e = by_cases (get nodes q) (ap (get nodes) (sym e) ∙ none) some where
  by_cases : (o : Option Node) → o ≡ None → IsSome o → ⊥
  by_cases None e h = cc h
  by_cases (Some n) e h = cc e

pub length_item : (o : Option Node) → IsSome o → length (item_of o) ≡ 1
unfolding item_of
length_item None h = cc h
length_item (Some n) h = refl

-- the places of a chain stay where the links stay
pub place_same : (old new : Slab Node) (first n : ℕ) → ((m : ℕ) → m < n → next_of (get new (place old first m)) ≡ next_of (get old (place old first m))) → place new first n ≡ place old first n
unfolding place
place_same old new first zero h = refl
place_same old new first (suc n) h = ap (λ p. next_of (get new p)) (place_same old new first n (λ m lt. h m (omega arith))) ∙ h n (omega arith)

-- the items stay where the places and what lies there stay
pub items_same : (old new : Slab Node) (first other n : ℕ) → ((m : ℕ) → m < n → place new other m ≡ place old first m) → ((m : ℕ) → m < n → item_of (get new (place old first m)) ≡ item_of (get old (place old first m))) → items_from new other n ≡ items_from old first n
unfolding items_from
items_same old new first other zero h g = refl
items_same old new first other (suc n) h g =
    ap₂ (λ xs ys. xs ++ ys) (items_same old new first other n (λ m lt. h m (omega arith)) (λ m lt. g m (omega arith)))
    (ap (λ p. item_of (get new p)) (h n (omega arith)) ∙ g n (omega arith))

-- the places and items behind the first
pub place_behind : (nodes : Slab Node) (first n : ℕ) → place nodes (next_of (get nodes first)) n ≡ place nodes first (n + 1)
unfolding place
place_behind nodes first n = by_suc n ∙ ap (place nodes first) (sym (add-one n)) where
  by_suc : (n : ℕ) → place nodes (next_of (get nodes first)) n ≡ place nodes first (suc n)
  by_suc zero = refl
  by_suc (suc n) = ap (λ p. next_of (get nodes p)) (by_suc n)

pub items_behind : (nodes : Slab Node) (first n : ℕ) → items_from nodes first (n + 1) ≡ item_of (get nodes first) ++ items_from nodes (next_of (get nodes first)) n
unfolding items_from place
items_behind nodes first n = ap (items_from nodes first) (add-one n) ∙ by_suc n where
  by_suc : (n : ℕ) → items_from nodes first (suc n) ≡ item_of (get nodes first) ++ items_from nodes (next_of (get nodes first)) n
  by_suc zero = sym (append-nil (item_of (get nodes first)))
  by_suc (suc n) =
      ap₂ (λ xs p. xs ++ item_of (get nodes p)) (by_suc n) (sym (place_behind nodes first n ∙ ap (λ k. place nodes first k) (add-one n)))
      ∙ append_assoc (item_of (get nodes first)) (items_from nodes (next_of (get nodes first)) n) (item_of (get nodes (place nodes (next_of (get nodes first)) n)))

-- one item more
pub items_more : (nodes : Slab Node) (first n : ℕ) → items_from nodes first (n + 1) ≡ items_from nodes first n ++ item_of (get nodes (place nodes first n))
unfolding items_from
items_more nodes first n = ap (items_from nodes first) (add-one n)

pub place_more : (nodes : Slab Node) (first n : ℕ) → place nodes first (n + 1) ≡ next_of (get nodes (place nodes first n))
unfolding place
place_more nodes first n = ap (place nodes first) (add-one n)

pub place_first : (nodes : Slab Node) (first : ℕ) → place nodes first 0 ≡ first
unfolding place
place_first nodes first = refl

pub items_none : (nodes : Slab Node) (first : ℕ) → items_from nodes first 0 ≡ []
unfolding items_from
items_none nodes first = refl

-- a chain has as many items as places
pub length_items : (nodes : Slab Node) (first n : ℕ) → ((m : ℕ) → m < n → ContainsKey nodes (place nodes first m)) → length (items_from nodes first n) ≡ n
unfolding items_from
length_items nodes first zero h = refl
length_items nodes first (suc n) h =
    omega (arith, length-append (items_from nodes first n) (item_of (get nodes (place nodes first n))), length_items nodes first n (λ m lt. h m (omega arith)), length_item (get nodes (place nodes first n)) (h n (omega arith)))

-- what a buffer shows of its chains
module _ (nodes : Slab Node) (chains : List Chain) (room : ℕ) (b : Buffer) (view : shown_buffer nodes chains room ≡ b) where
  pub shards_are : length b.queues ≡ length chains
  shards_are = ap (λ (x : Buffer). length x.queues) (sym view) ∙ length-map chains (shown_queue nodes)

  pub queue_is : (s : ℕ) → queue_of b s ≡ shown_queue nodes (chain_of chains s)
  queue_is s =
      ap (λ (x : Buffer). queue_of x s) (sym view) ∙ ap (λ d. get_or (map (shown_queue nodes) chains) s d) (sym (items_none nodes 0))
      ∙ get_or-map (shown_queue nodes) chains s empty_chain

  pub room_is : b.room ≡ room
  room_is = ap (λ (x : Buffer). x.room) (sym view)

  -- a shard that the buffer has, has a chain
  pub has_chain : (s : ℕ) → s < length b.queues → s < length chains
  has_chain s h = omega (arith, h, shards_are)

  pub chain_is : (s : ℕ) (x : Chain) → s < length chains → x ≡ get_or chains s x → x ≡ chain_of chains s
  chain_is s x there e = get_or_read chains s x there e empty_chain

  -- so has one whose queue has an item
  pub some_chain : (s : ℕ) → 0 < length (queue_of b s) → s < length chains
  some_chain s some = elim (cases_lt s (length chains)) [
    | inl there ↦ there
    | inr past ↦
        let none : length (queue_of b s) ≡ 0 = ap length (get_or_past b.queues s [] (omega (arith, past, shards_are))) in
        absurd (omega (arith, none, some))
  ]

  pub length_is : IsSound nodes chains room → (s : ℕ) → length (queue_of b s) ≡ (chain_of chains s).length
  length_is sound s = ap length (queue_is s) ∙ length_items nodes (chain_of chains s).first (chain_of chains s).length (sound.live s)

  pub total_is : IsSound nodes chains room → total length b.queues ≡ slab_len nodes
  total_is sound =
      ap (λ (x : Buffer). total length x.queues) (sym view)
      ∙ total_same (λ (c : Chain). c.length) length (shown_queue nodes) chains empty_chain (λ t lt. length_items nodes (chain_of chains t).first (chain_of chains t).length (sound.live t))
      ∙ sound.counted

-- the last item of a chain is there, and the first
pub last_live : (nodes : Slab Node) (chains : List Chain) (room s : ℕ) → IsSound nodes chains room → 0 < (chain_of chains s).length → ContainsKey nodes (chain_of chains s).last
last_live nodes chains room s sound some =
    subst (λ p. IsSome (get nodes p)) (sym (sound.last s ((chain_of chains s).length - 1) (omega arith))) (sound.live s ((chain_of chains s).length - 1) (omega arith))

pub first_live : (nodes : Slab Node) (chains : List Chain) (room s : ℕ) → IsSound nodes chains room → 0 < (chain_of chains s).length → ContainsKey nodes (chain_of chains s).first
first_live nodes chains room s sound some = subst (λ p. IsSome (get nodes p)) (place_first nodes (chain_of chains s).first) (sound.live s 0 some)

-- an arena with nothing in it, and empty chains
pub sound_empty : (nodes : Slab Node) (n room : ℕ) → nodes.slots ≡ [] → room ≤ nodes.capacity → room < 2 ^ 32 → IsSound nodes (replicate n empty_chain) room
sound_empty nodes n room e held small =
    let empty : (s : ℕ) → (chain_of (replicate n empty_chain) s).length ≡ 0 = λ s. ap (λ (c : Chain). c.length) (at_replicate n empty_chain s) in
    let none : slab_len nodes ≡ 0 = ap (count_by is_some) e in
    record {
      live = λ s n lt. absurd (omega (arith, empty s, lt));
      last = λ s n e. absurd (omega (arith, empty s, e));
      apart = λ s t m n lt _ _. absurd (omega (arith, empty s, lt));
      counted = total-replicate (λ (c : Chain). c.length) n empty_chain refl ∙ sym none;
      within = omega (arith, none);
      reserved = held;
      small = small;
    }

pub queues_empty : (nodes : Slab Node) (n : ℕ) → map (shown_queue nodes) (replicate n empty_chain) ≡ replicate n []
queues_empty nodes n = map-replicate (shown_queue nodes) n empty_chain ∙ ap (replicate n) (items_none nodes 0)

-- a chain is short, since all together have at most so many items
pub short_chain : (nodes : Slab Node) (chains : List Chain) (room s : ℕ) → IsSound nodes chains room → s < length chains → (chain_of chains s).length ≤ slab_len nodes
short_chain nodes chains room s sound there =
    omega (arith, total-at (λ (c : Chain). c.length) chains s empty_chain there, sound.counted)

pub total_empty : (nodes : Slab Node) (n : ℕ) → total length (map (shown_queue nodes) (replicate n empty_chain)) ≡ 0
total_empty nodes n = ap (total length) (queues_empty nodes n) ∙ total-replicate length n [] refl
