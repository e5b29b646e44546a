-- The keys that are due at a watermark.
use Rattle.std.proofs.Common.{◌≡◌, ◌∙◌, ℕ, ℤ, ◌≤ℤ◌, ◌<ℤ◌, ◌<◌, Bool, true, false, cond, not, ◌||◌, ◌↔◌, ◌⊎◌, ⊎_elim, List, [], ◌∷◌, length, Option, None, Some, refl, sym, ap, subst, arith}
use Rattle.std.proofs.lemmas.Bool.{true≢false, or_cases, or_left, or_right}
use Rattle.std.proofs.lemmas.Int.{ints}
use Rattle.std.proofs.lemmas.Cmp.{nat_cmp_total}
use Rattle.std.proofs.lemmas.Option.{slice_get_within}
use Rattle.std.proofs.lemmas.Map.Lookups.{exact_bytes, exact_signed, exact_unsigned, exact_pairs}
use Rattle.std.proofs.lemmas.Map.Views.{tells_apart, Contains-from_any, list_any-from_Contains}
use Rattle.std.specs.List.{Contains, list_any, filter, slice_get}
use Rattle.std.specs.Cmp.{eq_by_cmp_equiv, int_cmp_total, int_ranked, nat_cmp_is, tied_itself}
use Rattle.std.specs.Cmp.Lexicographic.{nat_list_cmp_total}
use Rattle.std.specs.Ordering.{is_eq, is_le, int_cmp, nat_cmp, ordering_then, MatchOrdering}
use Rattle.std.specs.declared.cmp.Ordering.{Ordering}
use Rattle.std.specs.declared.cmp.Ordering.TheVariants.{Less, Equal, Greater}
use Rattle.std.specs.declared.ops.Bound.TheVariants.{Excluded, Unbounded}
use Rattle.std.specs.BTreeMap.{is_at, get}
use Rattle.std.specs.BTreeMap.Range.{range_contains}
use Rattle.std.specs.BTreeSet.{BTreeSet, contains, keys_between}
use Rattle.ax_text.specs.Times.{HasDue}
use Rattle.ax_keys.specs.Keys.{key_cmp}
use Rattle.ax_time.specs.declared.held.Held.{Held}
use Rattle.ax_time.specs.declared.kept.Kept.{Kept}
use Rattle.ax_time.specs.Timers.{times_of}
use Rattle.ax_time.specs.Held.{Due, due_order, times_or, kept_times, number_or, names, is_named, has_at, shown_timers, Agree}
use Rattle.ax_time.proofs.KeptLemmas.{times_seen}

-- a key that is there already
pub found_there : (ks : List (List ℕ)) (k q : List ℕ) → list_any (is_at (key_cmp k)) ks ≡ true → list_any (is_at (key_cmp q)) ks ≡ (list_any (is_at (key_cmp q)) ks || is_at (key_cmp q) k)
found_there ks k q h = go (is_at (key_cmp q) k) refl where
  go : (b : Bool) → is_at (key_cmp q) k ≡ b → list_any (is_at (key_cmp q)) ks ≡ (list_any (is_at (key_cmp q)) ks || b)
  go true e =
      let there : list_any (is_at (key_cmp q)) ks ≡ true = ap (λ x. list_any (is_at (key_cmp x)) ks) (tells_apart exact_bytes q k e) ∙ h in
      there ∙ sym (or_left _ true there)
  go false e = or_false _ where
    or_false : (b : Bool) → b ≡ (b || false)
    or_false true = refl
    or_false false = refl

-- a key that came
pub found_new : (b p p' : Bool) → p ≡ p' → cond p true b ≡ (b || p')
found_new true true p' e = refl
found_new false true p' e = e
found_new true false p' e = refl
found_new false false p' e = e

-- ---- what stands below the bound

due_within : (w t : ℤ) (n s : ℕ) → range_contains due_order Unbounded (Excluded (w, n)) (t, s) ≡ true → t ≤ℤ w
due_within w t n s h = go (int_cmp w t) (int_ranked w t (int_cmp w t) refl) h where
  go : (r : Ordering) → MatchOrdering r (w <ℤ t) (w ≡ t) (t <ℤ w) → not (is_le (ordering_then r (nat_cmp n s))) ≡ true → t ≤ℤ w
  go Less m e = absurd (true≢false (sym e))
  go Equal m e = omega (arith, ints)
  go Greater m e = omega (arith, ints)

within_due : (w t : ℤ) (n s : ℕ) → t ≤ℤ w → s < n → range_contains due_order Unbounded (Excluded (w, n)) (t, s) ≡ true
within_due w t n s h i = go (int_cmp w t) (int_ranked w t (int_cmp w t) refl) where
  go : (r : Ordering) → MatchOrdering r (w <ℤ t) (w ≡ t) (t <ℤ w) → not (is_le (ordering_then r (nat_cmp n s))) ≡ true
  go Less m = absurd (omega (arith, ints))
  go Equal m = ap (λ r. not (is_le r)) (sym (nat_cmp_is n s Greater i))
  go Greater m = refl

-- ---- what passes two tests

module _ {X : Type 0} (eq : X → X → Bool) (p q : X → Bool) where
  any_passes : ((x : X) → eq x x ≡ true) → (xs : List X) → list_any q (filter p xs) ≡ true → (x : X) × (list_any (eq x) xs ≡ true) × (p x ≡ true) × (q x ≡ true)
  any_passes same [] h = absurd (true≢false (sym h))
  any_passes same (x ∷ xs) h = go (any_passes same xs) (p x) refl h where
    there : ((y : X) × (list_any (eq y) xs ≡ true) × (p y ≡ true) × (q y ≡ true)) → (y : X) × (list_any (eq y) (x ∷ xs) ≡ true) × (p y ≡ true) × (q y ≡ true)
    there r = (r.0, or_right (eq r.0 x) _ r.1, r.2, r.3)

    go : (list_any q (filter p xs) ≡ true → (y : X) × (list_any (eq y) xs ≡ true) × (p y ≡ true) × (q y ≡ true)) → (b : Bool) → p x ≡ b → list_any q (cond b (x ∷ filter p xs) (filter p xs)) ≡ true
        → (y : X) × (list_any (eq y) (x ∷ xs) ≡ true) × (p y ≡ true) × (q y ≡ true)
    go ih true e f = ⊎_elim (λ here. (x, or_left (eq x x) _ (same x), e, here)) (λ rest. there (ih rest)) (or_cases (q x) (list_any q (filter p xs)) f)
    go ih false e f = there (ih f)

  passes_any : ((x y : X) → eq x y ≡ true → x ≡ y) → (x : X) → p x ≡ true → q x ≡ true → (xs : List X) → list_any (eq x) xs ≡ true → list_any q (filter p xs) ≡ true
  passes_any apart x px qx [] h = absurd (true≢false (sym h))
  passes_any apart x px qx (y ∷ ys) h = go (passes_any apart x px qx ys) (p y) refl (or_cases (eq x y) (list_any (eq x) ys) h) where
    go : (list_any (eq x) ys ≡ true → list_any q (filter p ys) ≡ true) → (b : Bool) → p y ≡ b → (eq x y ≡ true) ⊎ (list_any (eq x) ys ≡ true) → list_any q (cond b (y ∷ filter p ys) (filter p ys)) ≡ true
    go ih true e f = ⊎_elim (λ here. or_left (q y) _ (ap q (sym (apart x y here)) ∙ qx)) (λ rest. or_right (q y) _ (ih rest)) f
    go ih false e f = ⊎_elim (λ here. absurd (true≢false (sym px ∙ ap p (apart x y here) ∙ e))) ih f

is_itself : (d : Due) → is_at (due_order d) d ≡ true
is_itself d = ap (λ r. is_eq (ordering_then r (nat_cmp d.1 d.1))) (tied_itself int_cmp_total d.0) ∙ ap is_eq (tied_itself nat_cmp_total d.1)

name_of : (q : List ℕ) (r : Option (List ℕ)) → is_named q r ≡ true → r ≡ Some q
name_of q None h = absurd (true≢false (sym h))
name_of q (Some k) h = ap Some (sym (tells_apart exact_bytes q k h))

pub due_seen : (a : Kept) → Agree a → (w : ℤ) (found : BTreeSet (List ℕ)) (ks : List (List ℕ)) → ks ≡ found.keys
    → ((q : List ℕ) → contains key_cmp found q ≡ list_any (λ d. names a.named.items q d.1) (keys_between due_order Unbounded (Excluded (w, length a.named.items)) a.by_time))
    → (q : List ℕ) → Contains ks q ↔ HasDue w (times_of (shown_timers a) q)
due_seen a h w found ks same all q = (to, from) where
  to : Contains ks q → HasDue w (times_of (shown_timers a) q)
  to c =
      let one = any_passes (λ x y. is_at (due_order x) y) (range_contains due_order Unbounded (Excluded (w, length a.named.items))) (λ d. names a.named.items q d.1) is_itself a.by_time.keys
      (sym (all q) ∙ list_any-from_Contains (eq_by_cmp_equiv nat_list_cmp_total) q found.keys (subst (λ l. Contains l q) same c)) in
      let has : list_any (is_at (int_cmp one.0.0)) (kept_times a.by_key q) ≡ true = sym (ap (λ r. has_at a.by_key r one.0.0) (name_of q (slice_get a.named.items one.0.1) one.3)) ∙ sym (h.same one.0.0 one.0.1) ∙ one.1 in
      (one.0.0, subst (λ ts. Contains ts one.0.0) (times_seen a h q) (Contains-from_any (tells_apart exact_signed) one.0.0 (kept_times a.by_key q) has), due_within w one.0.0 (length a.named.items) one.0.1 one.2)

  from_held : (t : ℤ) → t ≤ℤ w → (o : Option Held) → get key_cmp a.by_key q ≡ o → list_any (is_at (int_cmp t)) (times_or o) ≡ true → Contains ks q
  from_held t le None e f = absurd (true≢false (sym f))
  from_held t le (Some held) e f =
      let place : slice_get a.named.items held.number ≡ Some q = h.named q held.number (ap number_or e) in
      let there : contains due_order a.by_time (t, held.number) ≡ true = h.same t held.number ∙ ap (λ r. has_at a.by_key r t) place ∙ ap (λ o. list_any (is_at (int_cmp t)) (times_or o)) e ∙ f in
      let mine : names a.named.items q held.number ≡ true = ap (is_named q) place ∙ ap is_eq (tied_itself nat_list_cmp_total q) in
      subst (λ l. Contains l q) (sym same) (Contains-from_any (tells_apart exact_bytes) q found.keys
      (all q ∙ passes_any (λ x y. is_at (due_order x) y) (range_contains due_order Unbounded (Excluded (w, length a.named.items))) (λ d. names a.named.items q d.1)
      (tells_apart (exact_pairs int_cmp nat_cmp exact_signed exact_unsigned)) (t, held.number) (within_due w t (length a.named.items) held.number le (slice_get_within a.named.items held.number q place)) mine a.by_time.keys there))

  from : HasDue w (times_of (shown_timers a) q) → Contains ks q
  from d = from_held d.0 d.2 (get key_cmp a.by_key q) refl (list_any-from_Contains (eq_by_cmp_equiv int_cmp_total) d.0 (kept_times a.by_key q) (subst (λ ts. Contains ts d.0) (sym (times_seen a h q)) d.1))
