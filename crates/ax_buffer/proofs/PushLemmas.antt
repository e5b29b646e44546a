-- What a push leaves.
use Rattle.std.proofs.Common.{◌≡◌, ◌≢◌, ◌⊎◌, ℕ, zero, suc, ◌+◌, ◌-◌, ◌<◌, List, [], ◌∷◌, ◌++◌, length, set, map, IsSome, refl, sym, ap, ap₂, ◌∙◌, inl, inr, arith, subst}
use Rattle.std.proofs.lemmas.Bool.{cases_lt}
use Rattle.slab.specs.Slab.{Slab, get, ContainsKey, slab_len}
use Rattle.ax_buffer.specs.declared.items.Item.{Item}
use Rattle.ax_buffer.specs.declared.chain.Node.{Node}
use Rattle.ax_buffer.specs.declared.chain.Chain.{Chain}
use Rattle.ax_buffer.specs.Buffer.{Buffer, queue_of, total}
use Rattle.ax_buffer.specs.Chains.{next_of, item_of, place, items_from, shown_queue, empty_chain, chain_of, place_of, IsSound, IsAppended, shown_buffer}
use Rattle.ax_buffer.proofs.ListLemmas.{at_set, total-set, total_pushed, map_one}
use Rattle.ax_buffer.proofs.ChainLemmas.{vacant_differs, live_by_item, live_stored, place_same, items_same, items_more, place_more, place_first, shards_are, queue_is}

module _ (old new : Slab Node) (chains : List Chain) (room s : ℕ) (longer : Chain) (item : Item) (sound : IsSound old chains room) (there : s < length chains) (told : IsAppended old new (chain_of chains s) longer item) where
  -- the place that was free is that of no item
  fresh : (t n : ℕ) → n < (chain_of chains t).length → place_of old chains t n ≢ longer.last
  fresh t n lt e =
      vacant_differs old longer.last (place_of old chains t n) told.free (sound.live t n lt) (sym e)

  -- a place before the last of its chain is the last of none
  inner : (t n : ℕ) → n + 1 < (chain_of chains t).length → 0 < (chain_of chains s).length → place_of old chains t n ≢ (chain_of chains s).last
  inner t n lt some e =
      let l = (chain_of chains s).length in
      let same = sound.apart t s n (l - 1) (omega arith) (omega arith) (e ∙ sound.last s (l - 1) (omega arith)) in
      let length_is : (chain_of chains t).length ≡ l = ap (λ k. (chain_of chains k).length) same.0 in
      omega (arith, same.1, lt, length_is)

  -- the last of a chain is the last of no other
  other : (t n : ℕ) → n < (chain_of chains t).length → t ≢ s → 0 < (chain_of chains s).length → place_of old chains t n ≢ (chain_of chains s).last
  other t n lt differs some e =
      let l = (chain_of chains s).length in
      differs (sound.apart t s n (l - 1) lt (omega arith) (e ∙ sound.last s (l - 1) (omega arith))).0

  -- no place moves
  stays : (t n : ℕ) → n < (chain_of chains t).length → place_of new chains t n ≡ place_of old chains t n
  stays t n lt = place_same old new (chain_of chains t).first n (λ m below. told.links (place_of old chains t m) (fresh t m (omega arith)) (λ some. inner t m (omega arith) some))

  first_stays : (n : ℕ) → n < (chain_of chains s).length → place new longer.first n ≡ place_of old chains s n
  first_stays n lt = ap (λ f. place new f n) (told.first (omega arith)) ∙ stays s n lt

  -- the new place comes last
  at_end : place new longer.first (chain_of chains s).length ≡ longer.last
  at_end = by_length (chain_of chains s).length refl where
    by_length : (l : ℕ) → l ≡ (chain_of chains s).length → place new longer.first l ≡ longer.last
    by_length zero e = place_first new longer.first ∙ told.alone (sym e)
    by_length (suc l) e =
        ap (place new longer.first) (omega arith) ∙ place_more new longer.first l
        ∙ ap (λ p. next_of (get new p)) (first_stays l (omega arith) ∙ sym (sound.last s l (omega arith)))
        ∙ told.behind (omega arith)

  kept_items : (t n : ℕ) → n < (chain_of chains t).length → item_of (get new (place_of old chains t n)) ≡ item_of (get old (place_of old chains t n))
  kept_items t n lt = told.items (place_of old chains t n) (fresh t n lt)

  -- an item of the longer queue is one that was there, or the new one
  here : (n : ℕ) → n < longer.length → ((n < (chain_of chains s).length) × (place new longer.first n ≡ place_of old chains s n)) ⊎ ((n ≡ (chain_of chains s).length) × (place new longer.first n ≡ longer.last))
  here n lt = elim (cases_lt n (chain_of chains s).length) [
    | inl below ↦ inl (below, first_stays n below)
    | inr above ↦
        let e : n ≡ (chain_of chains s).length = omega (arith, told.longer_by_one) in
        inr (e, ap (place new longer.first) e ∙ at_end)
  ]

  -- likewise for the queues of all shards
  each : (t n : ℕ) → n < (chain_of (set chains s longer) t).length → ((n < (chain_of chains t).length) × (place_of new (set chains s longer) t n ≡ place_of old chains t n)) ⊎ ((t ≡ s) × (n ≡ (chain_of chains s).length) × (place_of new (set chains s longer) t n ≡ longer.last))
  each t n lt = elim (at_set chains s t longer empty_chain there) [
    | inl same ↦
        let moved : place_of new (set chains s longer) t n ≡ place new longer.first n = ap (λ (c : Chain). place new c.first n) same.1 in
        let below : n < longer.length = subst (λ (c : Chain). n < c.length) same.1 lt in
        elim (here n below) [
          | inl was ↦ inl (subst (λ k. n < (chain_of chains k).length) (sym same.0) was.0, moved ∙ was.1 ∙ ap (λ k. place_of old chains k n) (sym same.0))
          | inr is ↦ inr (same.0, is.0, moved ∙ is.1)
        ]
    | inr differs ↦
        let below : n < (chain_of chains t).length = subst (λ (c : Chain). n < c.length) differs.1 lt in
        inl (below, ap (λ (c : Chain). place new c.first n) differs.1 ∙ stays t n below)
  ]

  live : (t n : ℕ) → n < (chain_of (set chains s longer) t).length → ContainsKey new (place_of new (set chains s longer) t n)
  live t n lt = elim (each t n lt) [
    | inl was ↦
        subst (λ p. IsSome (get new p)) (sym was.1)
        (live_by_item (get old (place_of old chains t n)) (get new (place_of old chains t n)) (kept_items t n was.0) (sound.live t n was.0))
    | inr is ↦ subst (λ p. IsSome (get new p)) (sym is.2) (live_stored (get new longer.last) item told.stored)
  ]

  apart : (t u m n : ℕ) → m < (chain_of (set chains s longer) t).length → n < (chain_of (set chains s longer) u).length → place_of new (set chains s longer) t m ≡ place_of new (set chains s longer) u n → (t ≡ u) × (m ≡ n)
  apart t u m n below within e = elim (each t m below) [
    | inl a ↦ elim (each u n within) [
      | inl b ↦ sound.apart t u m n a.0 b.0 (sym a.1 ∙ e ∙ b.1)
      | inr b ↦ absurd (fresh t m a.0 (sym a.1 ∙ e ∙ b.2))
    ]
    | inr a ↦ elim (each u n within) [
      | inl b ↦ absurd (fresh u n b.0 (sym b.1 ∙ sym e ∙ a.2))
      | inr b ↦ (a.0 ∙ sym b.0, a.1 ∙ sym b.1)
    ]
  ]

  last : (t n : ℕ) → n + 1 ≡ (chain_of (set chains s longer) t).length → (chain_of (set chains s longer) t).last ≡ place_of new (set chains s longer) t n
  last t n e = elim (at_set chains s t longer empty_chain there) [
    | inl same ↦
        let length_is : n + 1 ≡ longer.length = e ∙ ap (λ (c : Chain). c.length) same.1 in
        let n_is : n ≡ (chain_of chains s).length = omega (arith, length_is, told.longer_by_one) in
        ap (λ (c : Chain). c.last) same.1 ∙ sym at_end ∙ ap (place new longer.first) (sym n_is) ∙ sym (ap (λ (c : Chain). place new c.first n) same.1)
    | inr differs ↦
        let length_is : n + 1 ≡ (chain_of chains t).length = e ∙ ap (λ (c : Chain). c.length) differs.1 in
        ap (λ (c : Chain). c.last) differs.1 ∙ sound.last t n length_is ∙ sym (stays t n (omega arith)) ∙ sym (ap (λ (c : Chain). place new c.first n) differs.1)
  ]

  pub sound_pushed : slab_len new ≡ slab_len old + 1 → new.capacity ≡ old.capacity → slab_len old < room → IsSound new (set chains s longer) room
  sound_pushed counted capacity some =
      record {
        live = live;
        last = last;
        apart = apart;
        counted = omega (arith, total-set (λ (c : Chain). c.length) chains s longer empty_chain there, told.longer_by_one, sound.counted, counted);
        within = omega (arith, counted, some);
        reserved = omega (arith, capacity, sound.reserved);
        small = sound.small;
      }

  longer_queue : shown_queue new longer ≡ shown_queue old (chain_of chains s) ++ item ∷ []
  longer_queue =
      ap (items_from new longer.first) told.longer_by_one ∙ items_more new longer.first (chain_of chains s).length
      ∙ ap₂ (λ xs ys. xs ++ ys)
      (items_same old new (chain_of chains s).first longer.first (chain_of chains s).length first_stays (λ m lt. kept_items s m lt))
      (ap (λ p. item_of (get new p)) at_end ∙ told.stored)

  -- the queues behind the push
  pub queues_pushed : (b : Buffer) → shown_buffer old chains room ≡ b → map (shown_queue new) (set chains s longer) ≡ set b.queues s (queue_of b s ++ item ∷ [])
  queues_pushed b view =
      map_one (shown_queue new) (shown_queue old) chains s longer empty_chain (queue_of b s ++ item ∷ [])
      (longer_queue ∙ ap (λ xs. xs ++ item ∷ []) (sym (queue_is old chains room b view s)))
      (λ t lt differs. items_same old new (chain_of chains t).first (chain_of chains t).first (chain_of chains t).length (λ m below. stays t m below) (λ m below. kept_items t m below))
      ∙ ap (λ (x : Buffer). set x.queues s (queue_of b s ++ item ∷ [])) view

  pub total_after : (b : Buffer) → shown_buffer old chains room ≡ b → total length (map (shown_queue new) (set chains s longer)) ≡ total length b.queues + 1
  total_after b view =
      ap (total length) (queues_pushed b view) ∙ total_pushed b.queues s item (omega (arith, there, shards_are old chains room b view))
