-- What a search in a layer finds.
use Rattle.std.proofs.Common.{◌≡◌, ◌∙◌, ◌⊎◌, inl, inr, ℕ, ◌<◌, ◌≤◌, [], Some, None, refl, sym, ap, ap₂, subst, arith, map, length, get_or, slice_get}
use Rattle.std.specs.Ordering.{ordering_index, ordering_reverse}
use Rattle.std.specs.declared.cmp.Ordering.{Ordering}
use Rattle.std.specs.declared.cmp.Ordering.TheVariants.{Less, Equal, Greater}
use Rattle.std.specs.Cmp.{eq_by_cmp_equiv, IsTotalOrder}
use Rattle.std.specs.Cmp.Lexicographic.{nat_list_cmp_total}
use Rattle.std.specs.List.Sorted.{IsNonDecreasingBy, IsPartitionPoint}
use Rattle.std.proofs.lemmas.Map.Lookups.{exact_bytes}
use Rattle.std.proofs.lemmas.Map.Keys.{Less-from_sorted, IsDistinct-from_sorted}
use Rattle.std.proofs.lemmas.Map.Entries.{lookup_from_place, lookup_at_gap}
use Rattle.std.proofs.Math.Nat.{eq-or-lt_of_le}
use Rattle.std.proofs.Math.ListN.{get_or-map, length-map}
use Rattle.std.proofs.lemmas.Option.{slice_get_within, get_or_from_slice_get}
use Rattle.std.proofs.lemmas.List.Sorted.{IsNonDecreasingBy-from_default}
use Rattle.ax_store.specs.declared.change.Change.{Change}
use Rattle.ax_store.specs.declared.change.Change.TheVariants.{Delete}
use Rattle.ax_store.specs.Held.{Text, bytes_cmp}
use Rattle.ax_store.specs.Entries.{Layer, IsRising, entry_at}

laws : IsTotalOrder bytes_cmp
laws = nat_list_cmp_total

no_entry : Text × Change
no_entry = ([], Delete)

flipped : (x y : Text) (r : Ordering) → bytes_cmp x y ≡ r → bytes_cmp y x ≡ ordering_reverse r
flipped x y r e = laws.antisymm y x ∙ ap ordering_reverse e

-- what compares with q rises along rising keys
rises_at : (a b q : Text) → bytes_cmp a b ≡ Less → (r s : Ordering) → bytes_cmp a q ≡ r → bytes_cmp b q ≡ s → ordering_index r ≤ ordering_index s
rises_at a b q l Less s e f = omega arith
rises_at a b q l Equal Less e f = let bad : Less ≡ Greater = sym f ∙ flipped q b Less (sym (laws.congr a q b e) ∙ l) in cc
rises_at a b q l Equal Equal e f = omega arith
rises_at a b q l Equal Greater e f = omega arith
rises_at a b q l Greater Less e f = let bad : Less ≡ Greater = sym f ∙ flipped q b Less (laws.trans q a b (flipped a q Greater e) l) in cc
rises_at a b q l Greater Equal e f = let bad : Equal ≡ Greater = sym f ∙ flipped q b Less (laws.trans q a b (flipped a q Greater e) l) in cc
rises_at a b q l Greater Greater e f = omega arith

key_at : (es : Layer) (i : ℕ) → get_or (map (λ e. e.0) es) i [] ≡ (get_or es i no_entry).0
unfolding no_entry
key_at es i = get_or-map (λ (e : Text × Change). e.0) es i no_entry

pub found : (es : Layer) (q : Text) (i : ℕ) (e : Text × Change) → IsRising es → slice_get es i ≡ Some e → bytes_cmp e.0 q ≡ Equal → entry_at es q ≡ Some e.1
found es q i e rising at equal =
    let same : e.0 ≡ q = exact_bytes e.0 q equal in
    lookup_from_place (eq_by_cmp_equiv laws) es i q e.1 (IsDistinct-from_sorted bytes_cmp _ rising) (at ∙ ap (λ k. Some (k, e.1)) same)

rises : (es : Layer) (q : Text) → IsRising es → IsNonDecreasingBy (λ e. ordering_index (bytes_cmp e.0 q)) es
rises es q rising = IsNonDecreasingBy-from_default (λ e. ordering_index (bytes_cmp e.0 q)) es no_entry (λ i j le lt. at_places i j lt (split i j le))
  where
    split : (i j : ℕ) → i ≤ j → (i ≡ j) ⊎ (i < j)
    split i j le = eq-or-lt_of_le le

    at_places : (i j : ℕ) → j < length es → (i ≡ j) ⊎ (i < j) → ordering_index (bytes_cmp (get_or es i no_entry).0 q) ≤ ordering_index (bytes_cmp (get_or es j no_entry).0 q)
    at_places i j lt (inl same) = let le : ordering_index (bytes_cmp (get_or es j no_entry).0 q) ≤ ordering_index (bytes_cmp (get_or es j no_entry).0 q) = omega arith in
        subst (λ (k : ℕ). ordering_index (bytes_cmp (get_or es k no_entry).0 q) ≤ ordering_index (bytes_cmp (get_or es j no_entry).0 q)) (sym same) le
    at_places i j lt (inr below) =
        let less : bytes_cmp (get_or (map (λ e. e.0) es) i []) (get_or (map (λ e. e.0) es) j []) ≡ Less = Less-from_sorted bytes_cmp (map (λ e. e.0) es) i j [] rising below (simp length-map lt) in
        rises_at _ _ q (ap₂ bytes_cmp (sym (key_at es i)) (sym (key_at es j)) ∙ less) _ _ refl refl

pub not_found : (es : Layer) (q : Text) (i : ℕ) → IsRising es → (IsNonDecreasingBy (λ e. ordering_index (bytes_cmp e.0 q)) es → IsPartitionPoint (λ e. bytes_cmp e.0 q ≡ Less) (λ e. bytes_cmp e.0 q ≡ Greater) es i)
    → entry_at es q ≡ None
not_found es q i rising parts =
    lookup_at_gap laws q es i rising
    (λ j e lt at. before j e lt at)
    (λ e at. after e at)
  where
    place : (j : ℕ) (e : Text × Change) → slice_get es j ≡ Some e → j < length es
    place j e at = slice_get_within es j e at

    before : (j : ℕ) (e : Text × Change) → j < i → slice_get es j ≡ Some e → bytes_cmp q e.0 ≡ Greater
    before j e lt at = flipped e.0 q Less (subst (λ (x : Text × Change). bytes_cmp x.0 q ≡ Less) (get_or_from_slice_get es j e no_entry at) ((parts (rises es q rising)).0 j no_entry (omega arith) lt))

    after : (e : Text × Change) → slice_get es i ≡ Some e → bytes_cmp q e.0 ≡ Less
    after e at = flipped e.0 q Greater (subst (λ (x : Text × Change). bytes_cmp x.0 q ≡ Greater) (get_or_from_slice_get es i e no_entry at) ((parts (rises es q rising)).1 i no_entry (omega arith) (place i e at)))
