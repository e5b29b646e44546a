-- Sums over keys that rise.
use Rattle.std.proofs.Common.{◌≡◌, ℕ, suc, ◌+◌, ◌≤◌, List, [], ◌∷◌, true, false, Ordering, Less, Equal, Greater, refl, sym, ap, ◌∙◌, arith, subst, ◌⊎◌, inl, inr, ⊎_elim}
use Rattle.std.specs.Str.{bytes_eq}
use Rattle.std.specs.List.{list_any, AllByRecursion}
use Rattle.std.specs.List.Sorted.{IsStrictlySortedBy}
use Rattle.std.specs.BTreeSet.{insert_key}
use Rattle.std.specs.Ordering.{match_ordering}
use Rattle.std.proofs.lemmas.Cmp.{nat_list_cmp_total, tied_itself}
use Rattle.std.proofs.lemmas.Map.Lookups.{exact_bytes}
use Rattle.ax_keys.specs.Keys.{key_cmp}
use Rattle.ax_machine.specs.Entries.{Key}
use Rattle.ax_execution.specs.Sums.{total}
use Rattle.ax_machine.proofs.FiringLemmas.{key_is, same_key, among}
use Rattle.ax_execution.proofs.Stuck.{IsOnce, others_stay, total_changes}
use Rattle.ax_execution.proofs.Upto.{by_cases}

true_false : false ≡ true → ⊥
true_false e = cc e

pub in_total : (keys : List Key) (n : Key → ℕ) (k : Key) → list_any (bytes_eq k) keys ≡ true → n k ≤ total keys n
in_total [] n k e = absurd (true_false e)
in_total (j ∷ ks) n k e = ⊎_elim
    (λ x. let same : n k ≡ n j = ap n x in omega arith)
    (λ x. omega (arith, in_total ks n k x))
    (among k j ks e)

itself : (k : Key) → key_cmp k k ≡ Equal
itself k = tied_itself nat_list_cmp_total k

not_less : (k : Key) → key_cmp k k ≡ Less → ⊥
not_less k h = let e : Equal ≡ Less = sym (itself k) ∙ h in cc

not_greater : (k : Key) → key_cmp k k ≡ Greater → ⊥
not_greater k h = let e : Equal ≡ Greater = sym (itself k) ∙ h in cc

-- a key below all of these is none of them
apart_above : (k : Key) (ks : List Key) → AllByRecursion (λ y. key_cmp k y ≡ Less) ks → list_any (bytes_eq k) ks ≡ false
apart_above k [] a = refl
apart_above k (y ∷ ys) a = by_cases (bytes_eq k y)
    (λ x. absurd (not_less k (ap (key_cmp k) (key_is k y x) ∙ a.0)))
    (λ x. rw x (apart_above k ys a.1))

member_above : (x k : Key) (ks : List Key) → AllByRecursion (λ y. key_cmp x y ≡ Less) ks → list_any (bytes_eq k) ks ≡ true → key_cmp x k ≡ Less
member_above x k [] a h = absurd (true_false h)
member_above x k (y ∷ ys) a h = ⊎_elim (λ e. ap (key_cmp x) e ∙ a.0) (λ e. member_above x k ys a.1 e) (among k y ys h)

pub once_from : (k : Key) (ks : List Key) → IsStrictlySortedBy key_cmp ks → list_any (bytes_eq k) ks ≡ true → IsOnce k ks
unfolding IsOnce IsStrictlySortedBy
once_from k [] s h = absurd (true_false h)
once_from k (j ∷ ks) s h = by_cases (bytes_eq k j)
    (λ x. let e : j ≡ k = sym (key_is k j x) in inl (e, subst (λ (i : Key). list_any (bytes_eq i) ks ≡ false) e (apart_above j ks s.0)))
    (λ x. inr (x, once_from k ks s.1 (rw x at h)))

-- a key that is put among them
pub inserted_total : (k : Key) (ks : List Key) (f : Key → ℕ) → list_any (bytes_eq k) ks ≡ false → total (insert_key key_cmp ks k) f ≡ f k + total ks f
inserted_total k [] f h = refl
inserted_total k (x ∷ xs) f h = by_cases (bytes_eq k x)
    (λ y. absurd (true_false (sym (rw y at h))))
    (λ y. of (key_cmp k x) refl y (inserted_total k xs f (rw y at h)))
  where
    of : (o : Ordering) → key_cmp k x ≡ o → bytes_eq k x ≡ false → total (insert_key key_cmp xs k) f ≡ f k + total xs f
        → total (match_ordering o (k ∷ x ∷ xs) (x ∷ xs) (x ∷ insert_key key_cmp xs k)) f ≡ f k + (f x + total xs f)
    of Less c y ih = refl
    of Equal c y ih = absurd (true_false (sym y ∙ (ap (bytes_eq k) (sym (exact_bytes k x c)) ∙ same_key k)))
    of Greater c y ih = omega arith

pub inserted_again : (k : Key) (ks : List Key) → IsStrictlySortedBy key_cmp ks → list_any (bytes_eq k) ks ≡ true → insert_key key_cmp ks k ≡ ks
unfolding IsStrictlySortedBy
inserted_again k [] s h = absurd (true_false h)
inserted_again k (x ∷ xs) s h = of (key_cmp k x) refl (inserted_again k xs s.1) (among k x xs h)
  where
    of : (o : Ordering) → key_cmp k x ≡ o → (list_any (bytes_eq k) xs ≡ true → insert_key key_cmp xs k ≡ xs) → (k ≡ x) ⊎ (list_any (bytes_eq k) xs ≡ true) → match_ordering o (k ∷ x ∷ xs) (x ∷ xs) (x ∷ insert_key key_cmp xs k) ≡ x ∷ xs
    of Less c ih (inl e) = absurd (not_less k (ap (key_cmp k) e ∙ c))
    of Less c ih (inr m) = absurd (not_less k (nat_list_cmp_total.trans k x k c (member_above x k xs s.0 m)))
    of Equal c ih m = refl
    of Greater c ih (inl e) = absurd (not_greater k (ap (key_cmp k) e ∙ c))
    of Greater c ih (inr m) = ap (λ (ys : List Key). x ∷ ys) (ih m)

pub total_same : (f g : Key → ℕ) (ks : List Key) → ((k : Key) → g k ≡ f k) → total ks g ≡ total ks f
total_same f g [] h = refl
total_same f g (k ∷ ks) h = let a : g k ≡ f k = h k in let b : total ks g ≡ total ks f = total_same f g ks h in omega arith

-- where the share of one key alone changes
module _ (k : Key) (f g : Key → ℕ) (ks : List Key) (s : IsStrictlySortedBy key_cmp ks) (same : (j : Key) → bytes_eq k j ≡ false → g j ≡ f j) where
  pub changes : list_any (bytes_eq k) ks ≡ true → total ks g + f k ≡ total ks f + g k
  changes m = total_changes k f g ks same (once_from k ks s m)

  pub at_most : g k ≤ f k → total ks g ≤ total ks f
  at_most h = by_cases (list_any (bytes_eq k) ks)
      (λ m. let c : total ks g + f k ≡ total ks f + g k = changes m in omega arith)
      (λ m. let c : total ks g ≡ total ks f = others_stay k f g ks same m in omega arith)

  pub one_more_at_most : g k ≤ suc (f k) → total ks g ≤ suc (total ks f)
  one_more_at_most h = by_cases (list_any (bytes_eq k) ks)
      (λ m. let c : total ks g + f k ≡ total ks f + g k = changes m in omega arith)
      (λ m. let c : total ks g ≡ total ks f = others_stay k f g ks same m in omega arith)

  pub one_fewer : list_any (bytes_eq k) ks ≡ true → suc (g k) ≤ f k → suc (total ks g) ≤ total ks f
  one_fewer m h = let c : total ks g + f k ≡ total ks f + g k = changes m in omega arith

  pub one_less : list_any (bytes_eq k) ks ≡ true → suc (g k) ≡ f k → suc (total ks g) ≡ total ks f
  one_less m h = let c : total ks g + f k ≡ total ks f + g k = changes m in omega arith

  -- and the key is put among the keys
  pub inserted_one_more : (list_any (bytes_eq k) ks ≡ false → f k ≡ 0) → g k ≤ suc (f k) → total (insert_key key_cmp ks k) g ≤ suc (total ks f)
  inserted_one_more z h = by_cases (list_any (bytes_eq k) ks)
      (λ m. let e : total (insert_key key_cmp ks k) g ≡ total ks g = ap (λ (l : List Key). total l g) (inserted_again k ks s m) in
      let c : total ks g ≤ suc (total ks f) = one_more_at_most h in omega arith)
      (λ m. let e : total (insert_key key_cmp ks k) g ≡ g k + total ks g = inserted_total k ks g m in
      let c : total ks g ≡ total ks f = others_stay k f g ks same m in
      let n : f k ≡ 0 = z m in omega arith)
