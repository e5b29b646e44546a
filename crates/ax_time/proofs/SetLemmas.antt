-- Rising members of a set.
use Rattle.std.proofs.Common.{◌≡◌, ◌∙◌, Bool, true, false, cond, not, ◌||◌, List, [], ◌∷◌, refl, sym, ap, subst}
use Rattle.std.proofs.lemmas.Bool.{true≢false}
use Rattle.std.proofs.lemmas.Map.Keys.{sorted_head, sorted_tail}
use Rattle.std.proofs.lemmas.Map.Lookups.{CmpEqualImpliesEq}
use Rattle.std.proofs.lemmas.Map.Views.{tells_apart}
use Rattle.std.specs.List.{list_any, filter, AllByRecursion}
use Rattle.std.specs.List.Sorted.{IsStrictlySortedBy}
use Rattle.std.specs.Cmp.{IsTotalOrder}
use Rattle.std.specs.Ordering.{is_eq, match_ordering}
use Rattle.std.specs.declared.cmp.Ordering.{Ordering}
use Rattle.std.specs.declared.cmp.Ordering.TheVariants.{Less, Equal, Greater}
use Rattle.std.specs.BTreeMap.{is_at}
use Rattle.std.specs.BTreeSet.{insert_key}
use Rattle.std.specs.Set.{remove_key}

module _ {B : Type 0} {S : B → B → Ordering} (o : IsTotalOrder S) (exact : CmpEqualImpliesEq S) where
  none_above : (q : B) (xs : List B) → AllByRecursion (λ y. S q y ≡ Less) xs → list_any (is_at (S q)) xs ≡ false
  none_above q [] a = refl
  none_above q (x ∷ xs) a = ap (λ r. is_eq r || list_any (is_at (S q)) xs) a.0 ∙ none_above q xs a.1

  kept_apart : (b : B) (xs : List B) → AllByRecursion (λ y. S b y ≡ Less) xs → filter (λ x. not (is_at (S b) x)) xs ≡ xs
  kept_apart b [] a = refl
  kept_apart b (x ∷ xs) a = ap (λ r. cond (not (is_eq r)) (x ∷ filter (λ y. not (is_at (S b) y)) xs) (filter (λ y. not (is_at (S b) y)) xs)) a.0 ∙ ap (λ l. x ∷ l) (kept_apart b xs a.1)

  -- to take out the one member is to leave the others
  pub removed_filter : (b : B) (xs : List B) → IsStrictlySortedBy S xs → remove_key (is_at (S b)) xs ≡ filter (λ x. not (is_at (S b) x)) xs
  removed_filter b [] s = refl
  removed_filter b (x ∷ xs) s = go (removed_filter b xs (sorted_tail S x xs s)) (is_at (S b) x) refl where
    go : remove_key (is_at (S b)) xs ≡ filter (λ y. not (is_at (S b) y)) xs → (p : Bool) → is_at (S b) x ≡ p → cond p xs (x ∷ remove_key (is_at (S b)) xs) ≡ cond (not p) (x ∷ filter (λ y. not (is_at (S b) y)) xs) (filter (λ y. not (is_at (S b) y)) xs)
    go ih true e = sym (subst (λ (y : B). filter (λ z. not (is_at (S y) z)) xs ≡ xs) (sym (tells_apart exact b x e)) (kept_apart x xs (sorted_head S x xs s)))
    go ih false e = ap (λ l. x ∷ l) ih

  -- a member that is there already changes nothing
  pub inserted_again : (b : B) (xs : List B) → IsStrictlySortedBy S xs → list_any (is_at (S b)) xs ≡ true → insert_key S xs b ≡ xs
  inserted_again b [] s h = absurd (true≢false (sym h))
  inserted_again b (x ∷ xs) s h = go (inserted_again b xs (sorted_tail S x xs s)) (S b x) refl h where
    go : (list_any (is_at (S b)) xs ≡ true → insert_key S xs b ≡ xs) → (r : Ordering) → S b x ≡ r → (is_eq r || list_any (is_at (S b)) xs) ≡ true → match_ordering r (b ∷ x ∷ xs) (x ∷ xs) (x ∷ insert_key S xs b) ≡ x ∷ xs
    go ih Less e f = absurd (true≢false (sym f ∙ none_above b xs (below xs (sorted_head S x xs s)))) where
      below : (ys : List B) → AllByRecursion (λ y. S x y ≡ Less) ys → AllByRecursion (λ y. S b y ≡ Less) ys
      below [] a = a
      below (y ∷ ys) a = (o.trans b x y e a.0, below ys a.1)
    go ih Equal e f = refl
    go ih Greater e f = ap (λ l. x ∷ l) (ih f)

module _ {B : Type 0} {S : B → B → Ordering} (exact : CmpEqualImpliesEq S) where
  -- a member that wasn't there came and went
  pub back_again : (b q : B) (xs : List B) → list_any (is_at (S b)) xs ≡ false → cond (is_at (S b) q) false (cond (is_at (S b) q) true (list_any (is_at (S q)) xs)) ≡ list_any (is_at (S q)) xs
  back_again b q xs h = go (is_at (S b) q) refl where
    go : (p : Bool) → is_at (S b) q ≡ p → cond p false (cond p true (list_any (is_at (S q)) xs)) ≡ list_any (is_at (S q)) xs
    go true e = sym (ap (λ x. list_any (is_at (S x)) xs) (sym (tells_apart exact b q e)) ∙ h)
    go false e = refl
