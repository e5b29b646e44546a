-- What a new context does to what holds of all.
use Rattle.std.proofs.Common.{◌≡◌, ◌≢◌, ◌⊎◌, ℕ, ◌+◌, ◌-◌, ◌^◌, ◌<◌, Some, sym, ap, ◌∙◌, inl, inr, arith}
use Rattle.std.proofs.lemmas.Bool.{cases_eq}
use Rattle.ax_context.specs.declared.id.Id.{Id}
use Rattle.ax_context.specs.declared.contexts.Context.{Context}
use Rattle.ax_context.specs.Slots.{Slots, ahead, at, live_count, IsTaken, AreCounted, NumbersDiffer}
use Rattle.ax_context.specs.Sound.{IsSound}
use Rattle.ax_context.proofs.SlotLemmas.{named, has_it}
use Rattle.ax_context.proofs.NumberLemmas.{ahead-ahead, ahead_returns}

module _ {T : Type 0} where
  -- a context stands in a slot that was free, and the numbers go on behind its own
  pub record IsMade (s new : Slots T) (slot : ℕ) (c : Context T) : Type 0 where
    pub placed : at new (named slot) ≡ Some c
    pub others : (other : ℕ) → other ≢ slot → at new (named other) ≡ at s (named other)
    pub len : live_count new ≡ live_count s + 1
    pub limit : new.limit ≡ s.limit
    pub next : new.next ≡ ahead c.number 1
    pub once : c.count ≡ 1
    pub free : IsTaken s c.number → ⊥

  -- a live context is the new one, or was there
  came : (s new : Slots T) (slot : ℕ) (c : Context T) → IsMade s new slot c → (id : Id) (x : Context T) → at new id ≡ Some x
      → ((id.slot ≡ slot) × (c ≡ x)) ⊎ (at s id ≡ Some x)
  came s new slot c made id x e = elim (cases_eq id.slot slot) [
    | inl same ↦
        let is : Some c ≡ Some x = sym made.placed ∙ ap (λ n. at new (named n)) (sym same) ∙ e in
        inl (same, (cc))
    | inr differs ↦ inr (sym (made.others id.slot differs) ∙ e)
  ]

  counted_made : (s new : Slots T) (slot : ℕ) (c : Context T) → IsMade s new slot c → AreCounted s → AreCounted new
  counted_made s new slot c made counted id x e = elim (came s new slot c made id x e) [
    | inl it ↦ let once = ap (λ (y : Context T). y.count) it.1 in (omega (arith, made.once), omega (arith, made.once))
    | inr was ↦ counted id x was
  ]

  differ_made : (s new : Slots T) (slot : ℕ) (c : Context T) → IsMade s new slot c → NumbersDiffer s → NumbersDiffer new
  differ_made s new slot c made differ one two x y e f same = elim (came s new slot c made one x e) [
    | inl it ↦ elim (came s new slot c made two y f) [
      | inl other ↦ ap named (it.0 ∙ sym other.0)
      | inr was ↦ absurd (made.free (two, rw was (sym same ∙ sym (ap (λ (z : Context T). z.number) it.1))))
    ]
    | inr was ↦ elim (came s new slot c made two y f) [
      | inl other ↦ absurd (made.free (one, rw was (same ∙ sym (ap (λ (z : Context T). z.number) other.1))))
      | inr had ↦ differ one two x y was had same
    ]
  ]

  spared_made : (s new : Slots T) (slot : ℕ) (c : Context T) (spare : ℕ) → IsMade s new slot c → c.number < 2 ^ 64 → spare < 2 ^ 64
      → ((k : ℕ) → k < spare → IsTaken s (ahead c.number k) → ⊥) → (k : ℕ) → k < spare - 1 → IsTaken new (ahead new.next k) → ⊥
  spared_made s new slot c spare made range fits spared k below taken =
      let it = has_it (at new taken.0) _ taken.1 in
      let far : ahead new.next k ≡ ahead c.number (1 + k) = ap (λ n. ahead n k) made.next ∙ ahead-ahead c.number 1 k in
      let number = it.2 ∙ far in
      elim (came s new slot c made taken.0 it.0 it.1) [
        | inl is ↦ ahead_returns c.number (1 + k) range (omega arith) (omega arith) (sym number ∙ sym (ap (λ (z : Context T). z.number) is.1))
        | inr was ↦ spared (1 + k) (omega arith) (taken.0, rw was number)
      ]

  pub sound_made : (s new : Slots T) (slot : ℕ) (c : Context T) (capacity capacity' known spare : ℕ) → IsMade s new slot c
      → capacity' ≡ capacity → live_count s < s.limit → c.number < 2 ^ 64 → spare < 2 ^ 64
      → ((k : ℕ) → k < spare → IsTaken s (ahead c.number k) → ⊥) → IsSound s capacity known → IsSound new capacity' (spare - 1)
  sound_made s new slot c capacity capacity' known spare made same few range fits spared sound = record {
    fits = omega (arith, sound.fits, made.limit);
    numbered = rw made.next (omega arith);
    room = omega (arith, sound.room, made.limit);
    few = omega (arith, made.len, made.limit);
    counted = counted_made s new slot c made sound.counted;
    differ = differ_made s new slot c made sound.differ;
    spared = spared_made s new slot c spare made range fits spared;
  }
