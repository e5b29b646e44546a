-- Keys that begin with a prefix stand together.
use Rattle.std.proofs.Common.{◌≡◌, ◌∙◌, ℕ, ◌+◌, ◌-◌, ◌<◌, ◌≤◌, zero, suc, Bool, true, false, ◌&&◌, cond, [], ◌∷◌, ◌++◌, None, refl, sym, ap, ap₂, subst, arith, map, length, take, drop, true≢false, get_or}
use Rattle.std.specs.Ordering.{nat_cmp, is_lt, ordering_then}
use Rattle.std.specs.declared.cmp.Ordering.{Ordering}
use Rattle.std.specs.declared.cmp.Ordering.TheVariants.{Less, Equal, Greater}
use Rattle.std.specs.Bool.{nat_eq}
use Rattle.std.specs.List.{AllByRecursion, AllWithin, filter}
use Rattle.std.specs.List.Sorted.{IsStrictlySortedBy}
use Rattle.std.proofs.lemmas.Cmp.{ranked}
use Rattle.std.proofs.lemmas.List.{take-append-drop, get_or-take, length-take, take_all, length-drop, get_or-drop}
use Rattle.std.proofs.Math.Seq.{drop-cons}
use Rattle.std.specs.List.{All}
use Rattle.std.proofs.lemmas.List.Elements.{All-head}
use Rattle.std.proofs.Common.{append_assoc}
use Rattle.std.proofs.Math.Nat.{eq-or-lt_of_le}
use Rattle.std.proofs.Common.{◌⊎◌, inl, inr}
use Rattle.std.specs.Cmp.Lexicographic.{nat_list_cmp_total}
use Rattle.std.specs.List.Sorted.{IsPartitionedBy}
use Rattle.std.proofs.lemmas.Map.Keys.{Less-from_sorted}
use Rattle.std.proofs.Math.ListN.{get_or-map, length-map}
use Rattle.std.proofs.lemmas.Bool.Decides.{nat_tests}
use Rattle.std.specs.FinMap.Entries.{find-where_key}
use Rattle.std.proofs.lemmas.Map.Lookups.{exact_bytes}
use Rattle.ax_store.specs.declared.change.Change.{Change}
use Rattle.ax_store.specs.Held.{Text, bytes_cmp, begins}
use Rattle.ax_store.proofs.ContentLemmas.{find-entry}
use Rattle.ax_store.specs.Entries.{entry_at, Layer, IsRising, part, is_before}

nat_apart : (a b : ℕ) (r : Ordering) → r ≡ nat_cmp a b → (r ≡ Equal → ⊥) → nat_eq b a ≡ false
nat_apart a b Less e other = grind (arith, nat_tests, ranked a b Less e)
nat_apart a b Equal e other = absurd (other refl)
nat_apart a b Greater e other = grind (arith, nat_tests, ranked a b Greater e)

pub before_not : (prefix key : Text) → is_lt (bytes_cmp key prefix) ≡ true → begins prefix key ≡ false
before_not [] [] h = absurd (true≢false (sym h))
before_not [] (k ∷ ks) h = absurd (true≢false (sym h))
before_not (p ∷ ps) [] h = refl
before_not (p ∷ ps) (k ∷ ks) h = go (nat_cmp k p) refl h (before_not ps ks)
  where
    go : (r : Ordering) → nat_cmp k p ≡ r → is_lt (ordering_then r (bytes_cmp ks ps)) ≡ true → (is_lt (bytes_cmp ks ps) ≡ true → begins ps ks ≡ false) → begins (p ∷ ps) (k ∷ ks) ≡ false
    go Less e h next = rw (nat_apart k p Less (sym e) (λ x. cc)) refl
    go Equal e h next = either (nat_eq p k) (next h)
      where
        either : (b : Bool) → begins ps ks ≡ false → (b && begins ps ks) ≡ false
        either true f = f
        either false f = refl
    go Greater e h next = absurd (true≢false (sym h))

after_not : (prefix key later : Text) → begins prefix key ≡ false → is_lt (bytes_cmp key prefix) ≡ false → bytes_cmp key later ≡ Less → begins prefix later ≡ false
after_not [] key later h before less = absurd (true≢false h)
after_not (p ∷ ps) [] later h before less = absurd (true≢false before)
after_not (p ∷ ps) (k ∷ ks) [] h before less = refl
after_not (p ∷ ps) (k ∷ ks) (l ∷ ls) h before less = go (nat_cmp k p) refl (nat_cmp k l) refl before less (after_not ps ks ls)
  where
    either : (b c : Bool) → c ≡ false → (b && c) ≡ false
    either true c f = f
    either false c f = refl

    above : (k < l) → (p ≤ k) → nat_eq p l ≡ false
    above a b = grind (arith, nat_tests)

    go : (r : Ordering) → nat_cmp k p ≡ r → (s : Ordering) → nat_cmp k l ≡ s → is_lt (ordering_then r (bytes_cmp ks ps)) ≡ false → ordering_then s (bytes_cmp ks ls) ≡ Less
        → (begins ps ks ≡ false → is_lt (bytes_cmp ks ps) ≡ false → bytes_cmp ks ls ≡ Less → begins ps ls ≡ false) → begins (p ∷ ps) (l ∷ ls) ≡ false
    go Less e s f before less next = absurd (true≢false before)
    go Greater e Greater f before less next = let bad : Greater ≡ Less = less in cc
    go Greater e Less f before less next =
        let kp : p < k = ranked k p Greater (sym e) in
        let kl : k < l = ranked k l Less (sym f) in
        rw (above kl (omega arith)) refl
    go Greater e Equal f before less next =
        let kp : p < k = ranked k p Greater (sym e) in
        let kl : k ≡ l = ranked k l Equal (sym f) in
        let no : nat_eq p l ≡ false = grind (arith, nat_tests) in
        rw no refl
    go Equal e Greater f before less next = let bad : Greater ≡ Less = less in cc
    go Equal e Less f before less next =
        let kp : k ≡ p = ranked k p Equal (sym e) in
        let kl : k < l = ranked k l Less (sym f) in
        rw (above kl (omega arith)) refl
    go Equal e Equal f before less next =
        let kp : k ≡ p = ranked k p Equal (sym e) in
        let same : nat_eq p k ≡ true = grind (arith, nat_tests) in
        let rest : begins ps ks ≡ false = rw same at h in
        either (nat_eq p l) (begins ps ls) (next rest before less)

none_before : (prefix : Text) (xs : Layer) → ((i : ℕ) (d : Text × Change) → i < length xs → is_before prefix (get_or xs i d) ≡ true) → part prefix xs ≡ []
none_before prefix [] h = refl
none_before prefix (x ∷ xs) h = rw (before_not prefix x.0 (h 0 x (omega arith))) (none_before prefix xs (λ i d lt. h (suc i) d (omega arith)))

abbrev Above : Text → Layer → Type 0
Above k es = AllByRecursion (λ y. bytes_cmp k y ≡ Less) (map (λ e. e.0) es)

none_above : (prefix key : Text) → begins prefix key ≡ false → is_lt (bytes_cmp key prefix) ≡ false → (es : Layer) → Above key es → part prefix es ≡ []
none_above prefix key h before [] above = refl
none_above prefix key h before (e ∷ es) above = rw (after_not prefix key e.0 h before above.0) (none_above prefix key h before es above.1)

pub none_after : (prefix : Text) (e : Text × Change) (es : Layer) → IsRising (e ∷ es) → begins prefix e.0 ≡ false → is_before prefix e ≡ false → part prefix (e ∷ es) ≡ []
unfolding IsStrictlySortedBy
none_after prefix e es rising h before = rw h (none_above prefix e.0 h before es rising.0)

pub rising_drop : (i : ℕ) (xs : Layer) → IsRising xs → IsRising (drop i xs)
unfolding IsStrictlySortedBy
rising_drop zero xs h = h
rising_drop (suc i) [] h = h
rising_drop (suc i) (x ∷ xs) h = rising_drop i xs h.1

filter-append : (p : Text × Change → Bool) (xs ys : Layer) → filter p (xs ++ ys) ≡ filter p xs ++ filter p ys
filter-append p [] ys = refl
filter-append p (x ∷ xs) ys = go (p x) (filter-append p xs ys)
  where
    go : (b : Bool) → filter p (xs ++ ys) ≡ filter p xs ++ filter p ys → cond b (x ∷ filter p (xs ++ ys)) (filter p (xs ++ ys)) ≡ cond b (x ∷ filter p xs) (filter p xs) ++ filter p ys
    go true ih = ap (λ l. x ∷ l) ih
    go false ih = ih

-- the entries of the whole are those from the first key that is not before the prefix
pub part_from : (prefix : Text) (xs : Layer) (start : ℕ) → start ≤ length xs → AllWithin (λ e. is_before prefix e ≡ true) xs 0 start → part prefix (drop start xs) ≡ part prefix xs
part_from prefix xs start le before =
    let none : part prefix (take start xs) ≡ [] = none_before prefix (take start xs) (λ i d lt.
    let here : i < start = omega (arith, simp length-take at lt) in
    rw (get_or-take start xs i d here) (before i d (omega arith) here)) in
    ap (λ l. l ++ part prefix (drop start xs)) (sym none) ∙ sym (filter-append (λ e. begins prefix e.0) (take start xs) (drop start xs)) ∙ ap (part prefix) (take-append-drop start xs)

is_lt-Less : (r : Ordering) → is_lt r ≡ true → r ≡ Less
is_lt-Less Less h = refl
is_lt-Less Equal h = absurd (true≢false (sym h))
is_lt-Less Greater h = absurd (true≢false (sym h))

-- the keys before a prefix come first
pub parted : (prefix : Text) (xs : Layer) → IsRising xs → IsPartitionedBy (is_before prefix) xs
parted prefix xs rising i j d le lt h = at_places (eq-or-lt_of_le le)
  where
    at_places : (i ≡ j) ⊎ (i < j) → is_before prefix (get_or xs i d) ≡ true
    at_places (inl same) = subst (λ (k : ℕ). is_before prefix (get_or xs k d) ≡ true) (sym same) h
    at_places (inr below) =
        let less : bytes_cmp (get_or (map (λ e. e.0) xs) i d.0) (get_or (map (λ e. e.0) xs) j d.0) ≡ Less = Less-from_sorted bytes_cmp (map (λ e. e.0) xs) i j d.0 rising below (simp length-map lt) in
        let here : bytes_cmp (get_or xs i d).0 (get_or xs j d).0 ≡ Less = ap₂ bytes_cmp (sym (get_or-map (λ (e : Text × Change). e.0) xs i d)) (sym (get_or-map (λ (e : Text × Change). e.0) xs j d)) ∙ less in
        ap is_lt (nat_list_cmp_total.trans (get_or xs i d).0 (get_or xs j d).0 prefix here (is_lt-Less _ h))

-- from an entry on that does not begin with the prefix, none does
pub none_from : (prefix : Text) (xs : Layer) (i : ℕ) (e : Text × Change) → IsRising xs → All (λ e. is_before prefix e ≡ false) xs → i < length xs → e ≡ get_or xs i e → begins prefix e.0 ≡ false → part prefix (drop i xs) ≡ []
none_from prefix xs i e rising from lt at h =
    let here : drop i xs ≡ e ∷ drop (suc i) xs = drop-cons xs i e lt ∙ ap (λ x. x ∷ drop (suc i) xs) (sym at) in
    let up : IsRising (e ∷ drop (suc i) xs) = subst IsRising here (rising_drop i xs rising) in
    ap (part prefix) here ∙ none_after prefix e (drop (suc i) xs) up h (ap (is_before prefix) at ∙ from i e lt)

pub rising_rest : (start : ℕ) (xs : Layer) → IsRising xs → start ≤ length xs → IsRising (take (length xs - start) (drop start xs))
rising_rest start xs h le = subst IsRising (sym (take_all (length xs - start) (drop start xs) (simp length-drop (omega arith)))) (rising_drop start xs h)

pub rest_is : (start : ℕ) (xs : Layer) → take (length xs - start) (drop start xs) ≡ drop start xs
rest_is start xs = take_all (length xs - start) (drop start xs) (simp length-drop (omega arith))

pub from_rest : (prefix : Text) (start : ℕ) (xs : Layer) → AllWithin (λ e. is_before prefix e ≡ false) xs start (length xs) → All (λ e. is_before prefix e ≡ false) (drop start xs)
from_rest prefix start xs h i d lt =
    let there : start + i < length xs = omega (arith, simp length-drop at lt) in
    rw (get_or-drop start xs i d) (h (start + i) d (omega arith) there)

-- ---- a walk through entries that are not before a prefix

pub none_here : (prefix : Text) (e : Text × Change) (es : Layer) → IsRising (e ∷ es) → All (λ e. is_before prefix e ≡ false) (e ∷ es) → begins prefix e.0 ≡ false → part prefix (e ∷ es) ≡ []
none_here prefix e es rising from h = none_after prefix e es rising h (All-head (λ e. is_before prefix e ≡ false) e es from)

pub one_more : (prefix : Text) (found : Layer) (e : Text × Change) (es : Layer) → begins prefix e.0 ≡ true → (found ++ e ∷ []) ++ part prefix es ≡ found ++ part prefix (e ∷ es)
one_more prefix found e es h = append_assoc found (e ∷ []) (part prefix es) ∙ ap (λ l. found ++ l) (sym (ap (λ b. cond b (e ∷ part prefix es) (part prefix es)) h))

pub rising_tail : (e : Text × Change) (es : Layer) → IsRising (e ∷ es) → IsRising es
unfolding IsStrictlySortedBy
rising_tail e es h = h.1

-- ---- some entries of a layer

above-filter : (k : Text) (p : Text × Change → Bool) (es : Layer) → Above k es → Above k (filter p es)
above-filter k p [] h = tt
above-filter k p (e ∷ es) h = go (p e) (above-filter k p es h.1)
  where
    go : (b : Bool) → Above k (filter p es) → Above k (cond b (e ∷ filter p es) (filter p es))
    go true ih = (h.0, ih)
    go false ih = ih

pub rising-filter : (p : Text × Change → Bool) (es : Layer) → IsRising es → IsRising (filter p es)
unfolding IsStrictlySortedBy
rising-filter p [] h = tt
rising-filter p (e ∷ es) h = go (p e) (rising-filter p es h.1)
  where
    go : (b : Bool) → IsRising (filter p es) → IsRising (cond b (e ∷ filter p es) (filter p es))
    go true ih = (above-filter e.0 p es h.0, ih)
    go false ih = ih

pub rising-part : (prefix : Text) (es : Layer) → IsRising es → IsRising (part prefix es)
rising-part prefix es h = rising-filter (λ e. begins prefix e.0) es h

pub entry-part : (prefix : Text) (es : Layer) (q : Text) → entry_at (part prefix es) q ≡ cond (begins prefix q) (entry_at es q) None
entry-part prefix es q = sym (find-entry (part prefix es) q) ∙ find-where_key bytes_cmp (begins prefix) q (λ x t. ap (begins prefix) (sym (exact_bytes q x t))) es
    ∙ ap (λ o. cond (begins prefix q) o None) (find-entry es q)
