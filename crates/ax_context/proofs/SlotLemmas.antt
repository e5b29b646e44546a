-- What a change of one slot does to the others and to what holds of all, for this crate and those above.
use Rattle.std.proofs.Common.{◌≡◌, ◌≢◌, ◌⊎◌, ℕ, ◌+◌, ◌<◌, ◌≤◌, Option, Some, None, is_some, IsSomeAnd, cond, length, set, refl, sym, ap, ◌∙◌, inl, inr, arith}
use Rattle.std.proofs.lemmas.Bool.{cases_eq}
use Rattle.std.proofs.lemmas.List.{get_or-set_same, get_or-set_other, get_or_past}
use Rattle.std.proofs.lemmas.List.Sums.{sum_by-set}
use Rattle.ax_context.specs.declared.id.Id.{Id}
use Rattle.ax_context.specs.declared.contexts.Context.{Context}
use Rattle.ax_context.specs.Slots.{Slots, at, live_count, OthersStay, IsTaken, AreCounted, NumbersDiffer}
use Rattle.ax_context.specs.Sound.{IsSound}

abbrev pub named : ℕ → Id
named slot = record { slot = slot }

pub same_id : (one two : Id) → (one ≡ two) ⊎ (one ≢ two)
same_id one two = elim (cases_eq one.slot two.slot) [
  | inl same ↦ inl (ap named same)
  | inr differs ↦ inr (λ e. differs (ap (λ (i : Id). i.slot) e))
]

pub has_it : {X : Type 0} (o : Option X) (P : X → Type 0) → IsSomeAnd o P → (x : X) × (o ≡ Some x) × P x
has_it None P h = absurd h
has_it (Some x) P h = (x, refl, h)

module _ {T : Type 0} where
  -- the slots with another content of one
  abbrev pub changed : Slots T → Id → Option (Context T) → Slots T
  changed s id slot = record s { slots = set s.slots id.slot slot }

  -- each context was there before, with its number
  abbrev pub Comes : Slots T → Slots T → Type 0
  Comes old new = (id : Id) (c : Context T) → at new id ≡ Some c → (d : Context T) × (at old id ≡ Some d) × (d.number ≡ c.number)

  pub within : (s : Slots T) (id : Id) (c : Context T) → at s id ≡ Some c → id.slot < length s.slots
  within s id c e = grind (arith, get_or_past)

  pub at-changed_same : (s : Slots T) (id : Id) (c : Context T) (slot : Option (Context T)) → at s id ≡ Some c → at (changed s id slot) id ≡ slot
  at-changed_same s id c slot e = get_or-set_same s.slots id.slot slot None (within s id c e)

  pub at-changed_other : (s : Slots T) (id : Id) (slot : Option (Context T)) → OthersStay s (changed s id slot) id
  at-changed_other s id slot other differs =
      get_or-set_other s.slots id.slot other.slot slot None (λ e. differs (ap named e))

  pub count-changed : (s : Slots T) (id : Id) (c : Context T) (slot : Option (Context T)) → at s id ≡ Some c
      → live_count (changed s id slot) + 1 ≡ live_count s + cond (is_some slot) 1 0
  count-changed s id c slot e =
      let f : Option (Context T) → ℕ = λ o. cond (is_some o) 1 0 in
      let one : f (at s id) ≡ 1 = ap f e in
      omega (arith, sum_by-set f s.slots id.slot slot None (within s id c e), one)

  -- numbers that differed differ still, and those that were free are free
  pub differ_still : (old new : Slots T) → Comes old new → NumbersDiffer old → NumbersDiffer new
  differ_still old new comes differ one two c d e f same =
      let was = comes one c e in
      let had = comes two d f in
      differ one two was.0 had.0 was.1 had.1 (was.2 ∙ same ∙ sym had.2)

  pub taken_before : (old new : Slots T) (number : ℕ) → Comes old new → IsTaken new number → IsTaken old number
  taken_before old new number comes taken =
      let now = has_it (at new taken.0) _ taken.1 in
      let was = comes taken.0 now.0 now.1 in
      (taken.0, rw was.1 (was.2 ∙ now.2))

  pub sound_still : (old new : Slots T) (capacity spare : ℕ) → Comes old new → AreCounted new → live_count new ≤ live_count old
      → new.limit ≡ old.limit → new.next ≡ old.next → IsSound old capacity spare → IsSound new capacity spare
  sound_still old new capacity spare comes counted few limit next sound = record {
    fits = omega (arith, sound.fits);
    numbered = omega (arith, sound.numbered);
    room = omega (arith, sound.room);
    few = omega (arith, sound.few);
    counted = counted;
    differ = differ_still old new comes sound.differ;
    spared = λ k below taken. sound.spared k below (taken_before old new _ comes (rw next at taken));
  }

  -- a live context is replaced by one of the same number
  comes_put : (s : Slots T) (id : Id) (c d : Context T) → at s id ≡ Some c → d.number ≡ c.number → Comes s (changed s id (Some d))
  comes_put s id c d e number other x f = elim (same_id other id) [
    | inl same ↦
        let is : Some d ≡ Some x = sym (at-changed_same s id c (Some d) e) ∙ ap (at (changed s id (Some d))) (sym same) ∙ f in
        let it : d ≡ x = cc in
        (c, ap (at s) same ∙ e, sym number ∙ ap (λ (y : Context T). y.number) it)
    | inr differs ↦ (x, sym (at-changed_other s id (Some d) other differs) ∙ f, refl)
  ]

  counted_put : (s : Slots T) (id : Id) (c d : Context T) → at s id ≡ Some c → 1 ≤ d.count → d.count ≤ 17 → AreCounted s → AreCounted (changed s id (Some d))
  counted_put s id c d e least most counted other x f = elim (same_id other id) [
    | inl same ↦
        let is : Some d ≡ Some x = sym (at-changed_same s id c (Some d) e) ∙ ap (at (changed s id (Some d))) (sym same) ∙ f in
        let it : d ≡ x = cc in
        rw (← it) (least, most)
    | inr differs ↦ counted other x (sym (at-changed_other s id (Some d) other differs) ∙ f)
  ]

  pub sound_put : (s : Slots T) (id : Id) (c d : Context T) (capacity spare : ℕ) → at s id ≡ Some c → d.number ≡ c.number → 1 ≤ d.count → d.count ≤ 17
      → IsSound s capacity spare → IsSound (changed s id (Some d)) capacity spare
  sound_put s id c d capacity spare e number least most sound =
      sound_still s (changed s id (Some d)) capacity spare
      (comes_put s id c d e number)
      (counted_put s id c d e least most sound.counted)
      (omega (arith, count-changed s id c (Some d) e))
      refl refl sound

  -- a context is gone
  stays_gone : (s : Slots T) (id : Id) (c : Context T) → at s id ≡ Some c → (other : Id) (x : Context T) → at (changed s id None) other ≡ Some x → at s other ≡ Some x
  stays_gone s id c e other x f = elim (same_id other id) [
    | inl same ↦
        let is : None ≡ Some x = sym (at-changed_same s id c None e) ∙ ap (at (changed s id None)) (sym same) ∙ f in
        absurd (cc)
    | inr differs ↦ sym (at-changed_other s id None other differs) ∙ f
  ]

  pub sound_gone : (s : Slots T) (id : Id) (c : Context T) (capacity spare : ℕ) → at s id ≡ Some c → IsSound s capacity spare → IsSound (changed s id None) capacity spare
  sound_gone s id c capacity spare e sound =
      sound_still s (changed s id None) capacity spare
      (λ other x f. (x, stays_gone s id c e other x f, refl))
      (λ other x f. sound.counted other x (stays_gone s id c e other x f))
      (omega (arith, count-changed s id c None e))
      refl refl sound
