-- What it leaves to take the first item of a queue.
use Rattle.std.proofs.Common.{◌≡◌, ◌≢◌, ℕ, ◌+◌, ◌<◌, List, [], ◌∷◌, ◌++◌, length, get_or, set, map, IsSome, refl, sym, ap, ap₂, ◌∙◌, inl, inr, arith, subst}
use Rattle.std.proofs.lemmas.Bool.{cases_eq}
use Rattle.std.proofs.lemmas.List.{get_or-set_same}
use Rattle.slab.specs.Slab.{Slab, get, ContainsKey, slab_len}
use Rattle.ax_buffer.specs.declared.items.Item.{Item}
use Rattle.ax_buffer.specs.declared.chain.Node.{Node}
use Rattle.ax_buffer.specs.declared.chain.Chain.{Chain}
use Rattle.ax_buffer.specs.Buffer.{Buffer, queue_of, total}
use Rattle.ax_buffer.specs.Chains.{next_of, item_of, place, items_from, shown_queue, empty_chain, chain_of, place_of, IsSound, IsDetached, shown_buffer}
use Rattle.ax_buffer.proofs.ListLemmas.{at_set, total-set, total_taken, map_one}
use Rattle.ax_buffer.proofs.ChainLemmas.{place_same, items_same, items_behind, place_behind, place_first, shards_are, queue_is}

module _ (old new : Slab Node) (chains : List Chain) (room s : ℕ) (shorter : Chain) (item : Item) (sound : IsSound old chains room) (there : s < length chains) (some : 0 < (chain_of chains s).length) (told : IsDetached old new (chain_of chains s) shorter item) where
  -- only the first item of the queue lies where it lies
  elsewhere : (t n : ℕ) → n < (chain_of chains t).length → (t ≡ s → 0 < n) → place_of old chains t n ≢ (chain_of chains s).first
  elsewhere t n lt behind e =
      let same = sound.apart t s n 0 lt some (e ∙ sym (place_first old (chain_of chains s).first)) in
      omega (arith, behind same.0, same.1)

  -- the items of another queue stay where they lie
  stays : (t n : ℕ) → t ≢ s → n < (chain_of chains t).length → place_of new chains t n ≡ place_of old chains t n
  stays t n differs lt =
      place_same old new (chain_of chains t).first n
      (λ m below. ap next_of (told.freed.others (place_of old chains t m) (elsewhere t m (omega arith) (λ e. absurd (differs e)))))

  -- and those behind the first
  behind : (n : ℕ) → n < shorter.length → place old shorter.first n ≡ place_of old chains s (n + 1)
  behind n lt = ap (λ f. place old f n) told.first ∙ place_behind old (chain_of chains s).first n

  not_first : (n : ℕ) → n < shorter.length → place old shorter.first n ≢ (chain_of chains s).first
  not_first n lt e = elsewhere s (n + 1) (omega (arith, told.shorter_by_one)) (λ _. omega arith) (sym (behind n lt) ∙ e)

  behind_stays : (n : ℕ) → n < shorter.length → place new shorter.first n ≡ place old shorter.first n
  behind_stays n lt =
      place_same old new shorter.first n (λ m below. ap next_of (told.freed.others (place old shorter.first m) (not_first m (omega arith))))

  -- each item is one that was there, and not the first of the queue
  each : (t n : ℕ) → n < (chain_of (set chains s shorter) t).length → (k : ℕ) × (k < (chain_of chains t).length) × (place_of new (set chains s shorter) t n ≡ place_of old chains t k) × (t ≡ s → k ≡ n + 1) × (t ≢ s → k ≡ n)
  each t n lt = elim (at_set chains s t shorter empty_chain there) [
    | inl same ↦
        let below : n < shorter.length = subst (λ (c : Chain). n < c.length) same.1 lt in (
          n + 1,
          subst (λ k. n + 1 < (chain_of chains k).length) (sym same.0) (omega (arith, told.shorter_by_one)),
          ap (λ (c : Chain). place new c.first n) same.1 ∙ behind_stays n below ∙ behind n below ∙ ap (λ k. place_of old chains k (n + 1)) (sym same.0),
          (λ _. refl),
          (λ differs. absurd (differs same.0)),
        )
    | inr differs ↦
        let below : n < (chain_of chains t).length = subst (λ (c : Chain). n < c.length) differs.1 lt in
        (n, below, ap (λ (c : Chain). place new c.first n) differs.1 ∙ stays t n differs.0 below, (λ e. absurd (differs.0 e)), (λ _. refl))
  ]

  live : (t n : ℕ) → n < (chain_of (set chains s shorter) t).length → ContainsKey new (place_of new (set chains s shorter) t n)
  live t n lt =
      let was = each t n lt in
      let away = elsewhere t was.0 was.1 (λ e. omega (arith, was.3 e)) in
      subst (λ p. IsSome (get new p)) (sym was.2) (subst (λ o. IsSome o) (sym (told.freed.others (place_of old chains t was.0) away)) (sound.live t was.0 was.1))

  apart : (t u m n : ℕ) → m < (chain_of (set chains s shorter) t).length → n < (chain_of (set chains s shorter) u).length → place_of new (set chains s shorter) t m ≡ place_of new (set chains s shorter) u n → (t ≡ u) × (m ≡ n)
  apart t u m n below within e =
      let a = each t m below in
      let b = each u n within in
      let same = sound.apart t u a.0 b.0 a.1 b.1 (sym a.2 ∙ e ∙ b.2) in (
        same.0,
        elim (cases_eq t s) [
          | inl is ↦ omega (arith, a.3 is, b.3 (sym same.0 ∙ is), same.1)
          | inr differs ↦ omega (arith, a.4 differs, b.4 (λ f. differs (same.0 ∙ f)), same.1)
        ],
      )

  last : (t n : ℕ) → n + 1 ≡ (chain_of (set chains s shorter) t).length → (chain_of (set chains s shorter) t).last ≡ place_of new (set chains s shorter) t n
  last t n e = elim (at_set chains s t shorter empty_chain there) [
    | inl same ↦
        let is : n + 1 ≡ shorter.length = e ∙ ap (λ (c : Chain). c.length) same.1 in
        ap (λ (c : Chain). c.last) same.1 ∙ told.last ∙ sound.last s (n + 1) (omega (arith, is, told.shorter_by_one))
        ∙ sym (ap (λ (c : Chain). place new c.first n) same.1 ∙ behind_stays n (omega arith) ∙ behind n (omega arith))
    | inr differs ↦
        let is : n + 1 ≡ (chain_of chains t).length = e ∙ ap (λ (c : Chain). c.length) differs.1 in
        ap (λ (c : Chain). c.last) differs.1 ∙ sound.last t n is ∙ sym (stays t n differs.0 (omega arith)) ∙ sym (ap (λ (c : Chain). place new c.first n) differs.1)
  ]

  pub sound_taken : slab_len new + 1 ≡ slab_len old → new.capacity ≡ old.capacity → IsSound new (set chains s shorter) room
  sound_taken counted capacity =
      record {
        live = live;
        last = last;
        apart = apart;
        counted = omega (arith, total-set (λ (c : Chain). c.length) chains s shorter empty_chain there, told.shorter_by_one, sound.counted, counted);
        within = omega (arith, counted, sound.within);
        reserved = omega (arith, capacity, sound.reserved);
        small = sound.small;
      }

  -- the queue behind the first item
  shorter_queue : shown_queue old (chain_of chains s) ≡ item_of (get old (chain_of chains s).first) ++ shown_queue new shorter
  shorter_queue =
      let kept : shown_queue new shorter ≡ items_from old (next_of (get old (chain_of chains s).first)) shorter.length =
      items_same old new shorter.first shorter.first shorter.length behind_stays (λ m lt. ap item_of (told.freed.others (place old shorter.first m) (not_first m lt)))
      ∙ ap (λ f. items_from old f shorter.length) told.first
      in
      ap (items_from old (chain_of chains s).first) (sym told.shorter_by_one) ∙ items_behind old (chain_of chains s).first shorter.length
      ∙ ap (λ xs. item_of (get old (chain_of chains s).first) ++ xs) (sym kept)

  -- what the buffer shows of it
  shown : get_or (map (shown_queue new) (set chains s shorter)) s [] ≡ shown_queue new shorter
  shown =
      queue_is new (set chains s shorter) room (shown_buffer new (set chains s shorter) room) refl s
      ∙ ap (shown_queue new) (get_or-set_same chains s shorter empty_chain there)

  module _ (b : Buffer) (view : shown_buffer old chains room ≡ b) where
    pub first_taken : queue_of b s ≡ item ∷ get_or (map (shown_queue new) (set chains s shorter)) s []
    first_taken = queue_is old chains room b view s ∙ shorter_queue ∙ ap₂ (λ xs ys. xs ++ ys) told.taken (sym shown)

    pub queues_taken : map (shown_queue new) (set chains s shorter) ≡ set b.queues s (get_or (map (shown_queue new) (set chains s shorter)) s [])
    queues_taken =
        map_one (shown_queue new) (shown_queue old) chains s shorter empty_chain (get_or (map (shown_queue new) (set chains s shorter)) s []) (sym shown)
        (λ t lt differs. items_same old new (chain_of chains t).first (chain_of chains t).first (chain_of chains t).length (λ m below. stays t m differs below)
        (λ m below. ap item_of (told.freed.others (place_of old chains t m) (elsewhere t m below (λ e. absurd (differs e))))))
        ∙ ap (λ (x : Buffer). set x.queues s (get_or (map (shown_queue new) (set chains s shorter)) s [])) view

    pub total_after : total length (map (shown_queue new) (set chains s shorter)) + 1 ≡ total length b.queues
    total_after =
        ap (λ qs. total length qs + 1) queues_taken
        ∙ total_taken b.queues s item (get_or (map (shown_queue new) (set chains s shorter)) s []) (omega (arith, there, shards_are old chains room b view)) first_taken
