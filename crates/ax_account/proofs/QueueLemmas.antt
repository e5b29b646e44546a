-- How a list of distinct keys is kept.
use Rattle.std.proofs.Common.{◌≡◌, ◌∙◌, ℕ, ◌+◌, ◌<◌, Bool, true, false, not, cond, List, [], ◌∷◌, ◌++◌, length, Option, Some, None, refl, sym, ap, subst, arith, get_or}
use Rattle.std.specs.Prelude.{All, slice_get}
use Rattle.std.specs.List.{filter}
use Rattle.std.specs.Ordering.{nat_cmp, match_ordering}
use Rattle.std.specs.declared.cmp.Ordering.TheVariants.{Greater}
use Rattle.std.specs.Cmp.{IsEquivalence, nat_cmp_is, eq_by_cmp_equiv}
use Rattle.std.proofs.lemmas.Cmp.{nat_cmp_total}
use Rattle.std.specs.Cmp.Lexicographic.{nat_list_cmp_total}
use Rattle.std.specs.Map.{lookup, values_of, remove_entry}
use Rattle.std.specs.BTreeMap.{is_at, insert_entry}
use Rattle.std.specs.Prelude.{◌||◌, ◌^◌}
use Rattle.std.proofs.lemmas.List.{length-append}
use Rattle.std.proofs.lemmas.Bool.{or_left, or_right, or_from, or_parts, false_from_ne_true, cond-true, cond-false}
use Rattle.std.proofs.lemmas.List.Elements.{All-nil, All-cons, All-head, All-tail, All-push, All-filter, All-from_recursion, recursion_from_All, All-map}
use Rattle.std.proofs.lemmas.List.Folds.{list_any_none}
use Rattle.std.proofs.lemmas.Map.Keys.{IsDistinct-push, IsDistinct-head, IsDistinct-tail, IsDistinct-cons, IsDistinct-from_apart}
use Rattle.std.proofs.lemmas.Map.Entries.{length-values_of}
use Rattle.std.proofs.lemmas.Map.Lookups.{exact_bytes, exact_unsigned}
use Rattle.std.proofs.lemmas.Map.Views.{tells_apart}
use Rattle.std.proofs.lemmas.Option.{same_Some}
use Rattle.ax_account.specs.Queues.{same_key, has_key, without, first_of, AreDistinct, AreLinked}

pub key_is : (k q : List ℕ) → same_key k q ≡ true → k ≡ q
key_is k q e = tells_apart exact_bytes k q e

pub number_is : (n m : ℕ) → is_at (nat_cmp n) m ≡ true → n ≡ m
number_is n m e = tells_apart exact_unsigned n m e

pub key_laws : IsEquivalence same_key
key_laws = eq_by_cmp_equiv nat_list_cmp_total

pub number_itself : (n : ℕ) → is_at (nat_cmp n) n ≡ true
number_itself n = (eq_by_cmp_equiv nat_cmp_total).refl n

pub first_value : (es : List (ℕ × List ℕ)) (p : ℕ × List ℕ) → slice_get es 0 ≡ Some p → first_of (values_of es) ≡ Some p.1
first_value [] p e = absurd cc
first_value (x ∷ es) p e = ap (λ (q : ℕ × List ℕ). Some q.1) (same_Some x p e)

inserted_last : (es : List (ℕ × List ℕ)) (n : ℕ) (k : List ℕ) → All (λ e. e.0 < n) es → insert_entry nat_cmp es n k ≡ es ++ (n, k) ∷ []
inserted_last [] n k all = refl
inserted_last (e ∷ es) n k all =
    let after : Greater ≡ nat_cmp n e.0 = nat_cmp_is n e.0 Greater (All-head (λ e. e.0 < n) e es all) in
    ap (λ r. match_ordering r ((n, k) ∷ e ∷ es) ((e.0, k) ∷ es) (e ∷ insert_entry nat_cmp es n k)) (sym after)
    ∙ ap (λ r. e ∷ r) (inserted_last es n k (All-tail (λ e. e.0 < n) e es all))

values-push : (es : List (ℕ × List ℕ)) (e : ℕ × List ℕ) → values_of (es ++ e ∷ []) ≡ values_of es ++ e.1 ∷ []
values-push [] e = refl
values-push (x ∷ es) e = ap (λ r. x.1 ∷ r) (values-push es e)

pub values_inserted : (es : List (ℕ × List ℕ)) (n : ℕ) (k : List ℕ) → All (λ e. e.0 < n) es → values_of (insert_entry nat_cmp es n k) ≡ values_of es ++ k ∷ []
values_inserted es n k all = ap (λ r. values_of r) (inserted_last es n k all) ∙ values-push es (n, k)

-- a key that is not in the list is none of its keys
none_same : (key : List ℕ) (es : List (ℕ × List ℕ)) → has_key (values_of es) key ≡ false → All (λ e. same_key key e.1 ≡ false) es
none_same key [] e = All-nil (λ e. same_key key e.1 ≡ false)
none_same key (x ∷ es) e =
    let parts = or_parts (same_key key x.1) (has_key (values_of es) key) e in
    All-cons (λ e. same_key key e.1 ≡ false) x es parts.0 (none_same key es parts.1)

below_none : (es : List (ℕ × List ℕ)) (n : ℕ) → All (λ e. e.0 < n) es → lookup (is_at (nat_cmp n)) es ≡ None
below_none [] n all = refl
below_none (e ∷ es) n all =
    let after : Greater ≡ nat_cmp n e.0 = nat_cmp_is n e.0 Greater (All-head (λ e. e.0 < n) e es all) in
    ap (λ r. cond (is_at (λ (x : ℕ). r) e.0) (Some e.1) (lookup (is_at (nat_cmp n)) es)) (sym after)
    ∙ below_none es n (All-tail (λ e. e.0 < n) e es all)

module _ (keys : List (ℕ × List ℕ)) (numbers : List (List ℕ × ℕ)) (next : ℕ) (linked : AreLinked keys numbers next) (key : List ℕ) where
  module _ (keys' : List (ℕ × List ℕ)) (numbers' : List (List ℕ × ℕ)) where
    pub linked_put : has_key (values_of keys) key ≡ false → keys' ≡ insert_entry nat_cmp keys next key
        → ((q : List ℕ) → lookup (same_key q) numbers' ≡ cond (same_key key q) (Some next) (lookup (same_key q) numbers))
        → ((n : ℕ) → lookup (is_at (nat_cmp n)) keys' ≡ cond (is_at (nat_cmp next) n) (Some key) (lookup (is_at (nat_cmp n)) keys))
        → AreLinked keys' numbers' (next + 1)
    linked_put absent is at_key at_number =
        let shape : keys' ≡ keys ++ (next, key) ∷ [] = is ∙ inserted_last keys next key linked.below in
        record {
          below = subst (λ (es : List (ℕ × List ℕ)). All (λ e. e.0 < next + 1) es) (sym shape)
              (All-push (λ (e : ℕ × List ℕ). e.0 < next + 1) keys (next, key) (λ i d in'. let h : _ = linked.below i d in' in omega arith) (omega arith));
          forth = subst (λ (es : List (ℕ × List ℕ)). All (λ e. lookup (same_key e.1) numbers' ≡ Some e.0) es) (sym shape)
              (All-push (λ (e : ℕ × List ℕ). lookup (same_key e.1) numbers' ≡ Some e.0) keys (next, key)
              (λ i d in'. at_key _ ∙ cond-false _ _ _ (none_same key keys absent i d in') ∙ linked.forth i d in')
              (at_key key ∙ cond-true _ _ _ (key_laws.refl key)));
          back = λ q n e. back_put q n (sym (at_key q) ∙ e) (same_key key q) refl;
          distinct = subst AreDistinct (sym (ap (λ r. values_of r) shape ∙ values-push keys (next, key))) (IsDistinct-push key_laws (values_of keys) key linked.distinct absent);
        }
      where
        back_put : (q : List ℕ) (n : ℕ) → cond (same_key key q) (Some next) (lookup (same_key q) numbers) ≡ Some n → (b : Bool) → same_key key q ≡ b → lookup (is_at (nat_cmp n)) keys' ≡ Some q
        back_put q n e true same =
            let n_is : next ≡ n = same_Some next n (sym (cond-true (same_key key q) (Some next) (lookup (same_key q) numbers) same) ∙ e) in
            at_number n ∙ cond-true (is_at (nat_cmp next) n) (Some key) (lookup (is_at (nat_cmp n)) keys) (subst (λ m. is_at (nat_cmp next) m ≡ true) n_is (number_itself next)) ∙ ap Some (key_is key q same)
        back_put q n e false same =
            let old : lookup (is_at (nat_cmp n)) keys ≡ Some q = linked.back q n (sym (cond-false (same_key key q) (Some next) (lookup (same_key q) numbers) same) ∙ e) in
            at_number n ∙ cond-false (is_at (nat_cmp next) n) (Some key) (lookup (is_at (nat_cmp n)) keys) (false_from_ne_true (is_at (nat_cmp next) n) (λ t.
            let n_is : next ≡ n = number_is next n t in
            let none : None ≡ Some q = sym (below_none keys next linked.below) ∙ subst (λ m. lookup (is_at (nat_cmp m)) keys ≡ Some q) (sym n_is) old in
            cc)) ∙ old

linked_none : AreLinked [] [] 0
linked_none = record {
  below = All-nil (λ (e : ℕ × List ℕ). e.0 < 0);
  forth = All-nil (λ (e : ℕ × List ℕ). lookup (same_key e.1) [] ≡ Some e.0);
  back = λ q n e. absurd cc;
  distinct = IsDistinct-from_apart same_key [] (λ i j d below in'. absurd (omega arith));
}

pub linked_nil : (keys : List (ℕ × List ℕ)) (numbers : List (List ℕ × ℕ)) → keys ≡ [] → numbers ≡ [] → AreLinked keys numbers 0
linked_nil keys numbers e f = subst (λ (k : List (ℕ × List ℕ)). AreLinked k numbers 0) (sym e) (subst (λ (n : List (List ℕ × ℕ)). AreLinked [] n 0) (sym f) linked_none)

-- ---- a key leaves
filter-keeps : (p : List ℕ → Bool) (ks : List (List ℕ)) → All (λ k. p k ≡ true) ks → filter p ks ≡ ks
filter-keeps p [] all = refl
filter-keeps p (k ∷ ks) all =
    cond-true (p k) (k ∷ filter p ks) (filter p ks) (All-head (λ k. p k ≡ true) k ks all)
    ∙ ap (λ r. k ∷ r) (filter-keeps p ks (All-tail (λ k. p k ≡ true) k ks all))

not_same : (key : List ℕ) (ks : List (List ℕ)) → All (λ q. same_key key q ≡ false) ks → without key ks ≡ ks
not_same key ks all = filter-keeps (λ q. not (same_key key q)) ks (λ i d in'. ap not (all i d in'))

-- a list without a key that it doesn't have
pub without_absent : (key : List ℕ) (ks : List (List ℕ)) → has_key ks key ≡ false → without key ks ≡ ks
without_absent key [] e = refl
without_absent key (k ∷ ks) e =
    let parts = or_parts (same_key key k) (has_key ks key) e in
    cond-true (not (same_key key k)) (k ∷ without key ks) (without key ks) (ap not parts.0)
    ∙ ap (λ r. k ∷ r) (without_absent key ks parts.1)

values_removed : (n : ℕ) (key : List ℕ) (es : List (ℕ × List ℕ)) → All (λ e. is_at (nat_cmp n) e.0 ≡ same_key key e.1) es → AreDistinct (values_of es) → values_of (remove_entry (is_at (nat_cmp n)) es) ≡ without key (values_of es)
values_removed n key [] agree distinct = refl
values_removed n key (e ∷ es) agree distinct =
    go (values_removed n key es (All-tail (λ (e : ℕ × List ℕ). is_at (nat_cmp n) e.0 ≡ same_key key e.1) e es agree) (IsDistinct-tail same_key e.1 (values_of es) distinct)) (same_key key e.1) refl
  where
    head : is_at (nat_cmp n) e.0 ≡ same_key key e.1
    head = All-head (λ (e : ℕ × List ℕ). is_at (nat_cmp n) e.0 ≡ same_key key e.1) e es agree

    go : values_of (remove_entry (is_at (nat_cmp n)) es) ≡ without key (values_of es) → (b : Bool) → same_key key e.1 ≡ b
        → values_of (cond (is_at (nat_cmp n) e.0) es (e ∷ remove_entry (is_at (nat_cmp n)) es)) ≡ cond (not (same_key key e.1)) (e.1 ∷ without key (values_of es)) (without key (values_of es))
    go rest true same =
        ap (λ r. values_of r) (cond-true (is_at (nat_cmp n) e.0) es (e ∷ remove_entry (is_at (nat_cmp n)) es) (head ∙ same))
        ∙ sym (not_same key (values_of es) (subst (λ k. All (λ q. same_key k q ≡ false) (values_of es)) (sym (key_is key e.1 same)) (All-from_recursion (λ q. same_key e.1 q ≡ false) (values_of es) (IsDistinct-head same_key e.1 (values_of es) distinct))))
        ∙ sym (cond-false (not (same_key key e.1)) (e.1 ∷ without key (values_of es)) (without key (values_of es)) (ap not same))
    go rest false same =
        ap (λ r. values_of r) (cond-false (is_at (nat_cmp n) e.0) es (e ∷ remove_entry (is_at (nat_cmp n)) es) (head ∙ same))
        ∙ ap (λ r. e.1 ∷ r) rest
        ∙ sym (cond-true (not (same_key key e.1)) (e.1 ∷ without key (values_of es)) (without key (values_of es)) (ap not same))

pub IsDistinct-without : (key : List ℕ) (ks : List (List ℕ)) → AreDistinct ks → AreDistinct (without key ks)
IsDistinct-without key [] distinct = distinct
IsDistinct-without key (k ∷ ks) distinct = go (IsDistinct-without key ks (IsDistinct-tail same_key k ks distinct)) (not (same_key key k))
  where
    go : AreDistinct (without key ks) → (b : Bool) → AreDistinct (cond b (k ∷ without key ks) (without key ks))
    go rest true = IsDistinct-cons same_key k (without key ks) (recursion_from_All (λ q. same_key k q ≡ false) (without key ks)
        (All-filter (λ q. not (same_key key q)) (λ q. same_key k q ≡ false) ks (All-from_recursion (λ q. same_key k q ≡ false) ks (IsDistinct-head same_key k ks distinct)))) rest
    go rest false = rest

values_all : (P : List ℕ → Type 0) (es : List (ℕ × List ℕ)) → All P (values_of es) → All (λ e. P e.1) es
values_all P [] all = All-nil (λ (e : ℕ × List ℕ). P e.1)
values_all P (e ∷ es) all = All-cons (λ (e : ℕ × List ℕ). P e.1) e es (All-head P e.1 (values_of es) all) (values_all P es (All-tail P e.1 (values_of es) all))

-- what holds of the entries that are left, where it holds of those with another key
left_over : (P : ℕ × List ℕ → Type 0) (n : ℕ) (key : List ℕ) (es : List (ℕ × List ℕ)) → All (λ e. is_at (nat_cmp n) e.0 ≡ same_key key e.1) es → AreDistinct (values_of es)
    → All (λ e. same_key key e.1 ≡ false → P e) es → All P (remove_entry (is_at (nat_cmp n)) es)
left_over P n key [] agree distinct all = All-nil P
left_over P n key (e ∷ es) agree distinct all =
    go (left_over P n key es (All-tail (λ (e : ℕ × List ℕ). is_at (nat_cmp n) e.0 ≡ same_key key e.1) e es agree) (IsDistinct-tail same_key e.1 (values_of es) distinct) (All-tail (λ (e : ℕ × List ℕ). same_key key e.1 ≡ false → P e) e es all))
    (is_at (nat_cmp n) e.0) refl
  where
    go : All P (remove_entry (is_at (nat_cmp n)) es) → (b : Bool) → is_at (nat_cmp n) e.0 ≡ b → All P (cond b es (e ∷ remove_entry (is_at (nat_cmp n)) es))
    go rest true same =
        let here : key ≡ e.1 = key_is key e.1 (sym (All-head (λ (e : ℕ × List ℕ). is_at (nat_cmp n) e.0 ≡ same_key key e.1) e es agree) ∙ same) in
        let apart : All (λ (x : ℕ × List ℕ). same_key e.1 x.1 ≡ false) es = values_all (λ q. same_key e.1 q ≡ false) es (All-from_recursion (λ q. same_key e.1 q ≡ false) (values_of es) (IsDistinct-head same_key e.1 (values_of es) distinct)) in
        let others : All (λ (e : ℕ × List ℕ). same_key key e.1 ≡ false → P e) es = All-tail (λ (e : ℕ × List ℕ). same_key key e.1 ≡ false → P e) e es all in
        λ i d in'. others i d in' (subst (λ k. same_key k (get_or es i d).1 ≡ false) (sym here) (apart i d in'))
    go rest false same =
        All-cons P e (remove_entry (is_at (nat_cmp n)) es)
        (All-head (λ (e : ℕ × List ℕ). same_key key e.1 ≡ false → P e) e es all (sym (All-head (λ (e : ℕ × List ℕ). is_at (nat_cmp n) e.0 ≡ same_key key e.1) e es agree) ∙ same)) rest

module _ (keys : List (ℕ × List ℕ)) (numbers : List (List ℕ × ℕ)) (next : ℕ) (linked : AreLinked keys numbers next) (key : List ℕ) where
  -- a key with no number is not in the list
  pub unlisted : lookup (same_key key) numbers ≡ None → has_key (values_of keys) key ≡ false
  unlisted none = list_any_none (same_key key) (values_of keys) (All-map (λ q. same_key key q ≡ false) (λ e. e.1) keys (λ i d in'.
      let e = get_or keys i d in
      false_from_ne_true (same_key key e.1) (λ t.
      let found : lookup (same_key key) numbers ≡ Some e.0 = subst (λ q. lookup (same_key q) numbers ≡ Some e.0) (sym (key_is key e.1 t)) (linked.forth i d in') in
      let wrong : None ≡ Some e.0 = sym none ∙ found in
      cc)))

  module _ (n : ℕ) (found : lookup (same_key key) numbers ≡ Some n) where
    agree : All (λ (e : ℕ × List ℕ). is_at (nat_cmp n) e.0 ≡ same_key key e.1) keys
    agree i d in' = go (same_key key (get_or keys i d).1) refl
      where
        go : (b : Bool) → same_key key (get_or keys i d).1 ≡ b → is_at (nat_cmp n) (get_or keys i d).0 ≡ same_key key (get_or keys i d).1
        go true same =
            let e = get_or keys i d in
            let own : lookup (same_key key) numbers ≡ Some e.0 = subst (λ q. lookup (same_key q) numbers ≡ Some e.0) (sym (key_is key e.1 same)) (linked.forth i d in') in
            let one : n ≡ e.0 = same_Some n e.0 (sym found ∙ own) in
            subst (λ m. is_at (nat_cmp n) m ≡ true) one (number_itself n) ∙ sym same
        go false same =
            let e = get_or keys i d in
            false_from_ne_true (is_at (nat_cmp n) e.0) (λ t.
            let one : n ≡ e.0 = number_is n e.0 t in
            let there : lookup (is_at (nat_cmp e.0)) keys ≡ Some e.1 = linked.back e.1 e.0 (linked.forth i d in') in
            let here : lookup (is_at (nat_cmp e.0)) keys ≡ Some key = subst (λ m. lookup (is_at (nat_cmp m)) keys ≡ Some key) one (linked.back key n found) in
            let both : key ≡ e.1 = same_Some key e.1 (sym here ∙ there) in
            let itself : same_key key e.1 ≡ true = subst (λ q. same_key key q ≡ true) both (key_laws.refl key) in
            let wrong : false ≡ true = sym same ∙ itself in
            cc) ∙ sym same

    pub keys_left : values_of (remove_entry (is_at (nat_cmp n)) keys) ≡ without key (values_of keys)
    keys_left = values_removed n key keys agree linked.distinct

    module _ (keys' : List (ℕ × List ℕ)) (numbers' : List (List ℕ × ℕ)) where
      pub linked_removed : keys' ≡ remove_entry (is_at (nat_cmp n)) keys
          → ((q : List ℕ) → lookup (same_key q) numbers' ≡ cond (same_key key q) None (lookup (same_key q) numbers))
          → ((m : ℕ) → lookup (is_at (nat_cmp m)) keys' ≡ cond (is_at (nat_cmp n) m) None (lookup (is_at (nat_cmp m)) keys))
          → AreLinked keys' numbers' next
      linked_removed is at_key at_number = record {
        below = subst (λ (es : List (ℕ × List ℕ)). All (λ e. e.0 < next) es) (sym is)
            (left_over (λ e. e.0 < next) n key keys agree linked.distinct (λ i d in' apart. linked.below i d in'));
        forth = subst (λ (es : List (ℕ × List ℕ)). All (λ e. lookup (same_key e.1) numbers' ≡ Some e.0) es) (sym is)
            (left_over (λ e. lookup (same_key e.1) numbers' ≡ Some e.0) n key keys agree linked.distinct
            (λ i d in' apart. at_key (get_or keys i d).1 ∙ cond-false _ None (lookup (same_key (get_or keys i d).1) numbers) apart ∙ linked.forth i d in'));
        back = λ q m e. back_left q m (sym (at_key q) ∙ e) (same_key key q) refl;
        distinct = subst AreDistinct (sym (ap (λ r. values_of r) is ∙ keys_left)) (IsDistinct-without key (values_of keys) linked.distinct);
      }
        where
          back_left : (q : List ℕ) (m : ℕ) → cond (same_key key q) None (lookup (same_key q) numbers) ≡ Some m → (b : Bool) → same_key key q ≡ b → lookup (is_at (nat_cmp m)) keys' ≡ Some q
          back_left q m e true same = let wrong : None ≡ Some m = sym (cond-true (same_key key q) None (lookup (same_key q) numbers) same) ∙ e in absurd cc
          back_left q m e false same =
              let old : lookup (is_at (nat_cmp m)) keys ≡ Some q = linked.back q m (sym (cond-false (same_key key q) None (lookup (same_key q) numbers) same) ∙ e) in
              at_number m ∙ cond-false (is_at (nat_cmp n) m) None (lookup (is_at (nat_cmp m)) keys) (false_from_ne_true (is_at (nat_cmp n) m) (λ t.
              let here : lookup (is_at (nat_cmp m)) keys ≡ Some key = subst (λ x. lookup (is_at (nat_cmp x)) keys ≡ Some key) (number_is n m t) (linked.back key n found) in
              let both : key ≡ q = same_Some key q (sym here ∙ old) in
              let itself : same_key key q ≡ true = subst (λ x. same_key key x ≡ true) both (key_laws.refl key) in
              let wrong : false ≡ true = sym same ∙ itself in
              cc)) ∙ old

-- ---- a key that could not be put
listed_value : (n : ℕ) (key : List ℕ) (es : List (ℕ × List ℕ)) → lookup (is_at (nat_cmp n)) es ≡ Some key → has_key (values_of es) key ≡ true
listed_value n key [] e = let wrong : None ≡ Some key = e in absurd cc
listed_value n key (x ∷ es) e = go (listed_value n key es) (is_at (nat_cmp n) x.0) e
  where
    go : (lookup (is_at (nat_cmp n)) es ≡ Some key → has_key (values_of es) key ≡ true) → (b : Bool) → cond b (Some x.1) (lookup (is_at (nat_cmp n)) es) ≡ Some key → (same_key key x.1 || has_key (values_of es) key) ≡ true
    go rest true f = or_left (same_key key x.1) (has_key (values_of es) key) (subst (λ q. same_key key q ≡ true) (sym (same_Some x.1 key f)) (key_laws.refl key))
    go rest false f = or_right (same_key key x.1) (has_key (values_of es) key) (rest f)

module _ (keys : List (ℕ × List ℕ)) (numbers : List (List ℕ × ℕ)) (next : ℕ) (linked : AreLinked keys numbers next) (key : List ℕ) where
  numberless : has_key (values_of keys) key ≡ false → lookup (same_key key) numbers ≡ None
  numberless absent = go (lookup (same_key key) numbers) refl
    where
      go : (o : Option ℕ) → lookup (same_key key) numbers ≡ o → o ≡ None
      go None e = refl
      go (Some n) e =
          let there : has_key (values_of keys) key ≡ true = listed_value n key keys (linked.back key n e) in
          let wrong : false ≡ true = sym absent ∙ there in
          absurd cc

  pub linked_undone : has_key (values_of keys) key ≡ false → (keys' : List (ℕ × List ℕ)) (put numbers' : List (List ℕ × ℕ)) → keys' ≡ keys
      → ((q : List ℕ) → lookup (same_key q) put ≡ cond (same_key key q) (Some next) (lookup (same_key q) numbers))
      → ((q : List ℕ) → lookup (same_key q) numbers' ≡ cond (same_key key q) None (lookup (same_key q) put))
      → AreLinked keys' numbers' next
  linked_undone absent keys' put numbers' is at_put at_key = subst (λ (k : List (ℕ × List ℕ)). AreLinked k numbers' next) (sym is) (record {
    below = linked.below;
    forth = λ i d in'. same (get_or keys i d).1 ∙ linked.forth i d in';
    back = λ q n e. linked.back q n (sym (same q) ∙ e);
    distinct = linked.distinct;
  })
    where
      go : (q : List ℕ) → (b : Bool) → same_key key q ≡ b → cond b None (lookup (same_key q) put) ≡ lookup (same_key q) numbers
      go q true e = sym (subst (λ x. lookup (same_key x) numbers ≡ None) (key_is key q e) (numberless absent))
      go q false e = at_put q ∙ cond-false (same_key key q) (Some next) (lookup (same_key q) numbers) e

      same : (q : List ℕ) → lookup (same_key q) numbers' ≡ lookup (same_key q) numbers
      same q = at_key q ∙ go q (same_key key q) refl

-- ---- the list, key by key
split_absent : (xs ys : List (List ℕ)) (k : List ℕ) → AreDistinct (xs ++ k ∷ ys) → has_key xs k ≡ false
split_absent [] ys k distinct = refl
split_absent (x ∷ xs) ys k distinct =
    let head = All-from_recursion (λ q. same_key x q ≡ false) (xs ++ k ∷ ys) (IsDistinct-head same_key x (xs ++ k ∷ ys) distinct) in
    let here : same_key x k ≡ false = All-head (λ q. same_key x q ≡ false) k ys (All-right (λ q. same_key x q ≡ false) xs (k ∷ ys) head) in
    or_from (same_key k x) (has_key xs k) (key_laws.symm k x ∙ here) (split_absent xs ys k (IsDistinct-tail same_key x (xs ++ k ∷ ys) distinct))
  where
    All-right : (P : List ℕ → Type 0) (us vs : List (List ℕ)) → All P (us ++ vs) → All P vs
    All-right P [] vs all = all
    All-right P (u ∷ us) vs all = All-right P us vs (All-tail P u (us ++ vs) all)

module _ (keys : List (ℕ × List ℕ)) (numbers : List (List ℕ × ℕ)) (next : ℕ) (linked : AreLinked keys numbers next) (fresh all rest rest' : List (List ℕ)) (key : List ℕ)
    (is : values_of keys ≡ all) (so_far : fresh ++ rest ≡ all) (step : rest ≡ key ∷ rest') where
  pub absent_so_far : has_key fresh key ≡ false
  absent_so_far = split_absent fresh rest' key (subst AreDistinct (is ∙ sym so_far ∙ ap (λ r. fresh ++ r) step) linked.distinct)

  pub short_so_far : length keys < 2 ^ 63 → length fresh + 1 < 2 ^ 64
  short_so_far fits =
      let same : length (values_of keys) ≡ length keys = length-values_of keys in
      let whole : length (values_of keys) ≡ length (fresh ++ key ∷ rest') = ap length (is ∙ sym so_far ∙ ap (λ r. fresh ++ r) step) in
      omega (arith, length-append fresh (key ∷ rest'))
