-- The timers of all keys, by key and by time.
use Rattle.std.proofs.Common.{◌≡◌, ◌∙◌, ℕ, zero, suc, ℤ, Bool, true, false, cond, ◌&&◌, List, [], ◌∷◌, ◌++◌, map, length, Option, None, Some, Result, Ok, Err, IfOk, IfNone, IfSome, refl, sym, ap, subst}
use Rattle.std.proofs.lemmas.Bool.{true≢false}
use Rattle.std.proofs.lemmas.Map.{lookup-none}
use Rattle.std.proofs.lemmas.Map.Entries.{none_past_head}
use Rattle.std.proofs.lemmas.Map.Keys.{sorted_head, sorted_tail, IsDistinct-from_sorted}
use Rattle.std.proofs.lemmas.Map.Lookups.{exact_bytes, exact_signed, exact_unsigned}
use Rattle.std.proofs.lemmas.Map.Steps.{set_value_same}
use Rattle.std.proofs.lemmas.Map.Views.{tells_apart}
use Rattle.std.proofs.lemmas.Cmp.{nat_cmp_total}
use Rattle.std.specs.List.{list_any, slice_get, AllByRecursion}
use Rattle.std.specs.List.Sorted.{IsStrictlySortedBy}
use Rattle.std.specs.Cmp.{eq_by_cmp_equiv, int_cmp_total, tied_itself}
use Rattle.std.specs.Cmp.Lexicographic.{nat_list_cmp_total, texts_ties}
use Rattle.std.specs.Ordering.{is_eq, int_cmp, nat_cmp, match_ordering, ordering_then}
use Rattle.std.specs.declared.cmp.Ordering.{Ordering}
use Rattle.std.specs.declared.cmp.Ordering.TheVariants.{Less, Equal, Greater}
use Rattle.std.specs.Str.{bytes_eq}
use Rattle.std.specs.BTreeMap.{is_at, get, insert_entry}
use Rattle.std.specs.BTreeMap as tree
use Rattle.std.specs.BTreeSet.{insert_key, contains}
use Rattle.std.specs.BTreeSet as sorted
use Rattle.std.specs.Map.{lookup, keys_of, set_value}
use Rattle.std.specs.Set.{remove_key}
use Rattle.ax_time.specs.declared.timer.Timer.{Timer}
use Rattle.ax_time.specs.declared.held.Held.{Held}
use Rattle.ax_time.specs.declared.kept.Kept.{Kept}
use Rattle.ax_text.specs.Times.{insert_time, remove_time}
use Rattle.ax_keys.specs.Keys.{key_cmp}
use Rattle.ax_time.specs.Timers.{times_of, PutsTimes, listed_cmp}
use Rattle.ax_time.specs.Held.{ByKey, Due, due_order, Makes, MakesTime, times_or, kept_times, number_or, Rises, has_at, timers_at, listed, shown_timers, Agree}
use Rattle.ax_time.proofs.SetLemmas.{removed_filter}

pub if_ok : {T E : Type 0} {P Q : T → Type 0} (r : Result T E) → ((x : T) → P x → Q x) → IfOk r P → IfOk r Q
if_ok (Ok x) f p = f x p
if_ok (Err e) f p = tt

sorted_nil : {X : Type 0} (R : X → X → Ordering) → IsStrictlySortedBy R []
unfolding IsStrictlySortedBy
sorted_nil R = tt

sorted_cons : {X : Type 0} (R : X → X → Ordering) (x : X) (xs : List X) → AllByRecursion (λ y. R x y ≡ Less) xs → IsStrictlySortedBy R xs → IsStrictlySortedBy R (x ∷ xs)
unfolding IsStrictlySortedBy
sorted_cons R x xs a s = (a, s)

-- ---- the times of one key

pub inserted_time : (t : ℤ) (xs : List ℤ) → insert_key int_cmp xs t ≡ insert_time t xs
inserted_time t [] = refl
inserted_time t (x ∷ xs) = ap (λ l. match_ordering (int_cmp t x) (t ∷ x ∷ xs) (x ∷ xs) (x ∷ l)) (inserted_time t xs)

pub removed_time : (t : ℤ) (xs : List ℤ) → IsStrictlySortedBy int_cmp xs → remove_key (is_at (int_cmp t)) xs ≡ remove_time t xs
removed_time t xs s = removed_filter int_cmp_total exact_signed t xs s

-- ---- the list of all timers

-- the order of keys and their equality
pub same_key : (a b : List ℕ) → is_at (key_cmp a) b ≡ bytes_eq a b
same_key a b = sym (texts_ties a b)

turned : (a b : List ℕ) → is_at (key_cmp a) b ≡ bytes_eq b a
turned a b = (eq_by_cmp_equiv nat_list_cmp_total).symm a b ∙ same_key b a

times_at : (k : List ℕ) (ts : List ℤ) (rest : List Timer) (q : List ℕ) → times_of (timers_at k ts ++ rest) q ≡ cond (bytes_eq k q) (ts ++ times_of rest q) (times_of rest q)
times_at k [] rest q = sym (go (bytes_eq k q)) where
  go : (b : Bool) → cond b (times_of rest q) (times_of rest q) ≡ times_of rest q
  go true = refl
  go false = refl
times_at k (t ∷ ts) rest q = go (bytes_eq k q) (times_at k ts rest q) where
  go : (b : Bool) → times_of (timers_at k ts ++ rest) q ≡ cond b (ts ++ times_of rest q) (times_of rest q) → cond b (t ∷ times_of (timers_at k ts ++ rest) q) (times_of (timers_at k ts ++ rest) q) ≡ cond b (t ∷ (ts ++ times_of rest q)) (times_of rest q)
  go true ih = ap (λ l. t ∷ l) ih
  go false ih = ih

++-[] : (xs : List ℤ) → xs ++ [] ≡ xs
++-[] [] = refl
++-[] (x ∷ xs) = ap (λ l. x ∷ l) (++-[] xs)

-- the list has each key's times
pub times_listed : (es : List (List ℕ × Held)) (q : List ℕ) → IsStrictlySortedBy key_cmp (keys_of es) → times_of (listed es) q ≡ times_or (lookup (is_at (key_cmp q)) es)
times_listed [] q s = refl
times_listed (e ∷ es) q s = times_at e.0 e.1.times.keys (listed es) q ∙ go (bytes_eq e.0 q) (is_at (key_cmp q) e.0) refl (turned q e.0) (times_listed es q (sorted_tail key_cmp e.0 (keys_of es) s)) where
  go : (b c : Bool) → is_at (key_cmp q) e.0 ≡ c → c ≡ b → times_of (listed es) q ≡ times_or (lookup (is_at (key_cmp q)) es) → cond b (e.1.times.keys ++ times_of (listed es) q) (times_of (listed es) q) ≡ times_or (cond c (Some e.1) (lookup (is_at (key_cmp q)) es))
  go true true at same ih =
      let none : lookup (is_at (key_cmp q)) es ≡ None = lookup-none _ es (none_past_head (eq_by_cmp_equiv nat_list_cmp_total) q e es (IsDistinct-from_sorted key_cmp (keys_of (e ∷ es)) s) at) in
      ap (λ l. e.1.times.keys ++ l) (ih ∙ ap times_or none) ∙ ++-[] e.1.times.keys
  go true false at same ih = absurd (true≢false (sym same))
  go false true at same ih = absurd (true≢false same)
  go false false at same ih = ih

pub times_kept : (m : ByKey) → tree.IsOrdered key_cmp m → (q : List ℕ) → times_of (listed m.entries) q ≡ kept_times m q
times_kept m s q = times_listed m.entries q s

-- ---- the list rises

module _ (k : List ℕ) where
  above_at : (x : Timer) (ts : List ℤ) (rest : List Timer) → AllByRecursion (λ t. listed_cmp x (record { key = k; time = t }) ≡ Less) ts → AllByRecursion (λ y. listed_cmp x y ≡ Less) rest → AllByRecursion (λ y. listed_cmp x y ≡ Less) (timers_at k ts ++ rest)
  above_at x [] rest a b = b
  above_at x (t ∷ ts) rest a b = (a.0, above_at x ts rest a.1 b)

  later_above : (t : ℤ) (ts : List ℤ) → AllByRecursion (λ y. int_cmp t y ≡ Less) ts → AllByRecursion (λ y. listed_cmp (record { key = k; time = t }) (record { key = k; time = y }) ≡ Less) ts
  later_above t [] a = a
  later_above t (y ∷ ys) a = (ap (λ r. ordering_then r (int_cmp t y)) (tied_itself nat_list_cmp_total k) ∙ a.0, later_above t ys a.1)

  rises_at : (ts : List ℤ) (rest : List Timer) → IsStrictlySortedBy int_cmp ts → ((t : ℤ) → AllByRecursion (λ y. listed_cmp (record { key = k; time = t }) y ≡ Less) rest) → IsStrictlySortedBy listed_cmp rest → IsStrictlySortedBy listed_cmp (timers_at k ts ++ rest)
  rises_at [] rest s a r = r
  rises_at (t ∷ ts) rest s a r = sorted_cons listed_cmp _ _ (above_at _ ts rest (later_above t ts (sorted_head int_cmp t ts s)) (a t)) (rises_at ts rest (sorted_tail int_cmp t ts s) a r)

  above_keys : (t : ℤ) (es : List (List ℕ × Held)) → AllByRecursion (λ q. key_cmp k q ≡ Less) (keys_of es) → AllByRecursion (λ y. listed_cmp (record { key = k; time = t }) y ≡ Less) (listed es)
  above_keys t [] a = a
  above_keys t (e ∷ es) a = above_times e.1.times.keys a.0 (above_keys t es a.1) where
    above_times : (ts : List ℤ) → key_cmp k e.0 ≡ Less → AllByRecursion (λ y. listed_cmp (record { key = k; time = t }) y ≡ Less) (listed es) → AllByRecursion (λ y. listed_cmp (record { key = k; time = t }) y ≡ Less) (timers_at e.0 ts ++ listed es)
    above_times [] b r = r
    above_times (u ∷ us) b r = (ap (λ o. ordering_then o (int_cmp t u)) b, above_times us b r)

rises_listed : (es : List (List ℕ × Held)) → IsStrictlySortedBy key_cmp (keys_of es) → AllByRecursion (IsStrictlySortedBy int_cmp) (map (λ e. e.1.times.keys) es) → IsStrictlySortedBy listed_cmp (listed es)
rises_listed [] s a = sorted_nil listed_cmp
rises_listed (e ∷ es) s a = rises_at e.0 e.1.times.keys (listed es) a.0 (λ t. above_keys e.0 t es (sorted_head key_cmp e.0 (keys_of es) s)) (rises_listed es (sorted_tail key_cmp e.0 (keys_of es) s) a.1)

-- the times of each key that is kept rise
each_rises : (es : List (List ℕ × Held)) → IsStrictlySortedBy key_cmp (keys_of es) → ((k : List ℕ) → Rises (lookup (is_at (key_cmp k)) es)) → AllByRecursion (IsStrictlySortedBy int_cmp) (map (λ e. e.1.times.keys) es)
each_rises [] s f = tt
each_rises (e ∷ es) s f = (here, each_rises es (sorted_tail key_cmp e.0 (keys_of es) s) (λ k. there k (is_at (key_cmp k) e.0) refl)) where
  here : IsStrictlySortedBy int_cmp e.1.times.keys
  here = subst Rises (ap (λ r. cond (is_eq r) (Some e.1) (lookup (is_at (key_cmp e.0)) es)) (tied_itself nat_list_cmp_total e.0)) (f e.0)

  there : (k : List ℕ) (b : Bool) → is_at (key_cmp k) e.0 ≡ b → Rises (lookup (is_at (key_cmp k)) es)
  there k true h = subst Rises (sym (lookup-none _ es (none_past_head (eq_by_cmp_equiv nat_list_cmp_total) k e es (IsDistinct-from_sorted key_cmp (keys_of (e ∷ es)) s) h))) tt
  there k false h = subst Rises (ap (λ c. cond c (Some e.1) (lookup (is_at (key_cmp k)) es)) h) (f k)

pub listed_rises : (a : Kept) → Agree a → IsStrictlySortedBy listed_cmp (shown_timers a)
listed_rises a k = rises_listed a.by_key.entries k.ordered (each_rises a.by_key.entries k.ordered k.rising)

-- ---- what a change of one key's times does

-- the times that are seen are those that are kept, and they rise
pub times_seen : (a : Kept) → Agree a → (k : List ℕ) → kept_times a.by_key k ≡ times_of (shown_timers a) k
times_seen a h k = sym (times_kept a.by_key h.ordered k)

rises_or : (o : Option Held) → Rises o → IsStrictlySortedBy int_cmp (times_or o)
rises_or None r = sorted_nil int_cmp
rises_or (Some held) r = r

pub rising_seen : (a : Kept) → Agree a → (k : List ℕ) → IsStrictlySortedBy int_cmp (times_of (shown_timers a) k)
rising_seen a h k = subst (IsStrictlySortedBy int_cmp) (times_seen a h k) (rises_or (get key_cmp a.by_key k) (h.rising k))

-- the same times again
pub times_same : (v : List Timer) (k : List ℕ) (xs : List ℤ) → xs ≡ times_of v k → PutsTimes v v k xs
times_same v k xs e q = go (bytes_eq k q) refl where
  go : (b : Bool) → bytes_eq k q ≡ b → times_of v q ≡ cond b xs (times_of v q)
  go true h = ap (times_of v) (sym (tells_apart exact_bytes k q (same_key k q ∙ h))) ∙ sym e
  go false h = refl

-- the first of some times and the later ones
pub no_times : (a : Kept) → Agree a → (k : List ℕ) → get key_cmp a.by_key k ≡ None → times_of (shown_timers a) k ≡ []
no_times a h k none = sym (times_seen a h k) ∙ ap times_or none

or_cond : (b : Bool) (new : Held) (o : Option Held) → times_or (cond b (Some new) o) ≡ cond b new.times.keys (times_or o)
or_cond true new o = refl
or_cond false new o = refl

-- what is held of a key is now this
abbrev pub Holds : ByKey → ByKey → List ℕ → Held → Type 0
Holds m n k new = (q : List ℕ) → get key_cmp n q ≡ cond (is_at (key_cmp k) q) (Some new) (get key_cmp m q)

pub put_seen : (a : Kept) → Agree a → (n : ByKey) → tree.IsOrdered key_cmp n → (k : List ℕ) (old new : Held) → Some old ≡ get key_cmp a.by_key k → Holds a.by_key n k new
    → (f : List ℤ → List ℤ) → (new.times.keys ≡ f old.times.keys) → PutsTimes (shown_timers a) (listed n.entries) k (f (times_of (shown_timers a) k))
put_seen a h n s k old new was holds f e q =
    times_kept n s q ∙ ap times_or (holds q) ∙ or_cond (is_at (key_cmp k) q) new (get key_cmp a.by_key q) ∙ go (is_at (key_cmp k) q) (bytes_eq k q) (same_key k q)
  where
    go : (b c : Bool) → b ≡ c → cond b new.times.keys (kept_times a.by_key q) ≡ cond c (f (times_of (shown_timers a) k)) (times_of (shown_timers a) q)
    go true true g = e ∙ ap f (ap times_or was ∙ times_seen a h k)
    go true false g = absurd (true≢false g)
    go false true g = absurd (true≢false (sym g))
    go false false g = times_seen a h q

-- the entries stay where what was found is written back
pub back_same : (m n : ByKey) (k : List ℕ) (old new : Held) → n.entries ≡ set_value (is_at (key_cmp k)) m.entries new → new ≡ old → Some old ≡ get key_cmp m k → listed n.entries ≡ listed m.entries
back_same m n k old new w e was = ap listed (w ∙ ap (set_value (is_at (key_cmp k)) m.entries) e ∙ set_value_same (is_at (key_cmp k)) m.entries old (sym was))

-- ---- keys, numbers and both orders after a change

pair_at : (t u : ℤ) (o s : ℕ) → is_at (due_order (t, o)) (u, s) ≡ (is_at (int_cmp t) u && is_at (nat_cmp o) s)
pair_at t u o s = go (int_cmp t u) where
  go : (r : Ordering) → is_eq (ordering_then r (nat_cmp o s)) ≡ (is_eq r && is_eq (nat_cmp o s))
  go Less = refl
  go Equal = refl
  go Greater = refl

and_false : (x y there : Bool) → cond (x && false) there y ≡ y
and_false true y there = refl
and_false false y there = refl

and_true : (x y there : Bool) → cond (x && true) there y ≡ cond x there y
and_true true y there = refl
and_true false y there = refl

-- what is held is the same of each key
module _ (a b : Kept) (h : Agree a) (same : (q : List ℕ) → get key_cmp b.by_key q ≡ get key_cmp a.by_key q) (ordered : tree.IsOrdered key_cmp b.by_key) where
  at_same : (r : Option (List ℕ)) (u : ℤ) → has_at a.by_key r u ≡ has_at b.by_key r u
  at_same None u = refl
  at_same (Some q) u = ap (λ o. list_any (is_at (int_cmp u)) (times_or o)) (sym (same q))

  pub agree_same : b.named.items ≡ a.named.items → ((q : Due) → contains due_order b.by_time q ≡ contains due_order a.by_time q) → Agree b
  agree_same ns due = record {
    ordered = ordered;
    rising = λ q. subst Rises (sym (same q)) (h.rising q);
    named = λ q s e. ap (λ l. slice_get l s) ns ∙ h.named q s (sym (ap number_or (same q)) ∙ e);
    numbered = λ q s e. ap number_or (same q) ∙ h.numbered q s (sym (ap (λ l. slice_get l s) ns) ∙ e);
    same = λ u s. due (u, s) ∙ h.same u s ∙ at_same (slice_get a.named.items s) u ∙ ap (λ l. has_at b.by_key (slice_get l s) u) (sym ns);
  }

module _ (a b : Kept) (h : Agree a) (k : List ℕ) (old new : Held) (was : Some old ≡ get key_cmp a.by_key k) (holds : Holds a.by_key b.by_key k new) (ordered : tree.IsOrdered key_cmp b.by_key) where
  found : (q : List ℕ) → is_at (key_cmp k) q ≡ true → (get key_cmp a.by_key q ≡ Some old) × (get key_cmp b.by_key q ≡ Some new)
  found q e = (ap (get key_cmp a.by_key) (sym (tells_apart exact_bytes k q e)) ∙ sym was, holds q ∙ ap (λ c. cond c (Some new) (get key_cmp a.by_key q)) e)

  other : (q : List ℕ) → is_at (key_cmp k) q ≡ false → get key_cmp b.by_key q ≡ get key_cmp a.by_key q
  other q e = holds q ∙ ap (λ c. cond c (Some new) (get key_cmp a.by_key q)) e

  -- nothing has changed
  pub agree_back : new ≡ old → b.named.items ≡ a.named.items → ((q : Due) → contains due_order b.by_time q ≡ contains due_order a.by_time q) → Agree b
  agree_back e = agree_same a b h (λ q. go q (is_at (key_cmp k) q) refl) ordered where
    go : (q : List ℕ) (c : Bool) → is_at (key_cmp k) q ≡ c → get key_cmp b.by_key q ≡ get key_cmp a.by_key q
    go q true at = (found q at).1 ∙ ap Some e ∙ sym (found q at).0
    go q false at = other q at

  -- one time came or went
  module _ (t : ℤ) (there : Bool) (number : new.number ≡ old.number) (named : b.named.items ≡ a.named.items) (has : MakesTime there t old.times new.times) (due : Makes there t old.number a.by_time b.by_time) where
    number_same : (q : List ℕ) → number_or (get key_cmp b.by_key q) ≡ number_or (get key_cmp a.by_key q)
    number_same q = go (is_at (key_cmp k) q) refl where
      go : (c : Bool) → is_at (key_cmp k) q ≡ c → number_or (get key_cmp b.by_key q) ≡ number_or (get key_cmp a.by_key q)
      go true at = ap number_or (found q at).1 ∙ ap Some number ∙ sym (ap number_or (found q at).0)
      go false at = ap number_or (other q at)

    own : slice_get a.named.items old.number ≡ Some k
    own = h.named k old.number (sym (ap number_or was))

    at_key : (u : ℤ) (s : ℕ) (q : List ℕ) → slice_get a.named.items s ≡ Some q → (c d : Bool) → is_at (key_cmp k) q ≡ c → is_at (nat_cmp old.number) s ≡ d
        → cond (is_at (int_cmp t) u && d) there (has_at a.by_key (Some q) u) ≡ has_at b.by_key (Some q) u
    at_key u s q e true true at is =
        ap (λ o. cond (is_at (int_cmp t) u && true) there (list_any (is_at (int_cmp u)) (times_or o))) (found q at).0
        ∙ and_true (is_at (int_cmp t) u) (list_any (is_at (int_cmp u)) old.times.keys) there ∙ sym (has u) ∙ sym (ap (λ o. list_any (is_at (int_cmp u)) (times_or o)) (found q at).1)
    at_key u s q e true false at is =
        let mine : Some old.number ≡ Some s = sym (ap number_or (found q at).0) ∙ h.numbered q s e in
        let one : old.number ≡ s = cc in
        absurd (true≢false (sym (ap is_eq (tied_itself nat_cmp_total old.number)) ∙ ap (λ x. is_at (nat_cmp old.number) x) one ∙ is))
    at_key u s q e false true at is =
        let both : Some k ≡ Some q = sym own ∙ ap (slice_get a.named.items) (tells_apart exact_unsigned old.number s is) ∙ e in
        let one : k ≡ q = cc in
        absurd (true≢false (sym (ap is_eq (tied_itself nat_list_cmp_total k)) ∙ ap (λ x. is_at (key_cmp k) x) one ∙ at))
    at_key u s q e false false at is = and_false (is_at (int_cmp t) u) (has_at a.by_key (Some q) u) there ∙ ap (λ o. list_any (is_at (int_cmp u)) (times_or o)) (sym (other q at))

    at_none : (u : ℤ) (s : ℕ) → slice_get a.named.items s ≡ None → (d : Bool) → is_at (nat_cmp old.number) s ≡ d → cond (is_at (int_cmp t) u && d) there false ≡ false
    at_none u s e true is =
        let both : Some k ≡ None = sym own ∙ ap (slice_get a.named.items) (tells_apart exact_unsigned old.number s is) ∙ e in absurd (cc)
    at_none u s e false is = and_false (is_at (int_cmp t) u) false there

    at_number : (u : ℤ) (s : ℕ) (r : Option (List ℕ)) → slice_get a.named.items s ≡ r → cond (is_at (int_cmp t) u && is_at (nat_cmp old.number) s) there (has_at a.by_key r u) ≡ has_at b.by_key r u
    at_number u s None e = at_none u s e (is_at (nat_cmp old.number) s) refl
    at_number u s (Some q) e = at_key u s q e (is_at (key_cmp k) q) (is_at (nat_cmp old.number) s) refl refl

    pub agree_made : sorted.IsOrdered int_cmp new.times → Agree b
    agree_made rises = record {
      ordered = ordered;
      rising = λ q. rise q (is_at (key_cmp k) q) refl;
      named = λ q s e. ap (λ l. slice_get l s) named ∙ h.named q s (sym (number_same q) ∙ e);
      numbered = λ q s e. number_same q ∙ h.numbered q s (sym (ap (λ l. slice_get l s) named) ∙ e);
      same = λ u s.
          due (u, s) ∙ ap (λ c. cond c there (contains due_order a.by_time (u, s))) (pair_at t u old.number s) ∙ ap (cond (is_at (int_cmp t) u && is_at (nat_cmp old.number) s) there) (h.same u s)
          ∙ at_number u s (slice_get a.named.items s) refl ∙ ap (λ l. has_at b.by_key (slice_get l s) u) (sym named);
    } where
      rise : (q : List ℕ) (c : Bool) → is_at (key_cmp k) q ≡ c → Rises (get key_cmp b.by_key q)
      rise q true at = subst Rises (sym (found q at).1) rises
      rise q false at = subst Rises (sym (other q at)) (h.rising q)

  -- the first time went, if there was one
  pub agree_took : (r : Option ℤ) → IfNone r ((new ≡ old) × (b.by_time ≡ a.by_time)) → IfSome r (λ t. MakesTime false t old.times new.times) → IfSome r (λ t. Makes false t old.number a.by_time b.by_time)
      → new.number ≡ old.number → b.named.items ≡ a.named.items → sorted.IsOrdered int_cmp new.times → Agree b
  agree_took None e has due number named rises = agree_back e.0 named (λ q. ap (λ d. contains due_order d q) e.1)
  agree_took (Some t) e has due number named rises = agree_made t false number named has due rises

-- what the two orders say of a timer of a key that is held
pub same_there : (a : Kept) → Agree a → (k : List ℕ) (held : Held) → Some held ≡ get key_cmp a.by_key k → (t : ℤ) → contains due_order a.by_time (t, held.number) ≡ contains int_cmp held.times t
same_there a h k held was t =
    h.same t held.number ∙ ap (λ r. has_at a.by_key r t) (h.named k held.number (sym (ap number_or was))) ∙ ap (λ o. list_any (is_at (int_cmp t)) (times_or o)) (sym was)

pub rises_there : (a : Kept) → Agree a → (k : List ℕ) (held : Held) → Some held ≡ get key_cmp a.by_key k → sorted.IsOrdered int_cmp held.times
rises_there a h k held was = subst Rises (sym was) (h.rising k)

-- ---- a key that gets a number

-- a place of a list, and of the list with one more at its end
pub data Place (ns : List (List ℕ)) (k : List ℕ) (s : ℕ) : Type 0 where
  within : (q : List ℕ) → slice_get ns s ≡ Some q → slice_get (ns ++ k ∷ []) s ≡ Some q → Place ns k s
  last : s ≡ length ns → slice_get ns s ≡ None → slice_get (ns ++ k ∷ []) s ≡ Some k → Place ns k s
  past : slice_get ns s ≡ None → slice_get (ns ++ k ∷ []) s ≡ None → Place ns k s

place : (ns : List (List ℕ)) (k : List ℕ) (s : ℕ) → Place ns k s
place [] k zero = last refl refl refl
place [] k (suc s) = past refl refl
place (n ∷ ns) k zero = within n refl refl
place (n ∷ ns) k (suc s) = go (place ns k s) where
  go : Place ns k s → Place (n ∷ ns) k (suc s)
  go (within q e f) = within q e f
  go (last e f g) = last (ap suc e) f g
  go (past e f) = past e f

last_place : (ns : List (List ℕ)) (k : List ℕ) → slice_get (ns ++ k ∷ []) (length ns) ≡ Some k
last_place [] k = refl
last_place (n ∷ ns) k = last_place ns k

listed_held : (es : List (List ℕ × Held)) (k : List ℕ) (e : Held) → e.times.keys ≡ [] → lookup (is_at (key_cmp k)) es ≡ None → listed (insert_entry key_cmp es k e) ≡ listed es
listed_held [] k e empty h = ap (λ ts. timers_at k ts ++ []) empty
listed_held (x ∷ es) k e empty h = go (listed_held es k e empty) (key_cmp k x.0) refl h where
  go : (lookup (is_at (key_cmp k)) es ≡ None → listed (insert_entry key_cmp es k e) ≡ listed es) → (r : Ordering) → key_cmp k x.0 ≡ r → cond (is_eq r) (Some x.1) (lookup (is_at (key_cmp k)) es) ≡ None
      → listed (match_ordering r ((k, e) ∷ x ∷ es) ((x.0, e) ∷ es) (x ∷ insert_entry key_cmp es k e)) ≡ listed (x ∷ es)
  go ih Less c f = ap (λ ts. timers_at k ts ++ listed (x ∷ es)) empty
  go ih Equal c f = let never : Some x.1 ≡ None = f in absurd (cc)
  go ih Greater c f = ap (λ l. timers_at x.0 x.1.times.keys ++ l) (ih f)

pub held_same : (m n : ByKey) (k : List ℕ) (e : Held) → get key_cmp m k ≡ None → e.times.keys ≡ [] → n.entries ≡ insert_entry key_cmp m.entries k e → listed n.entries ≡ listed m.entries
held_same m n k e none empty es = ap listed es ∙ listed_held m.entries k e empty none

module _ (a b : Kept) (h : Agree a) (k : List ℕ) (e : Held) (none : get key_cmp a.by_key k ≡ None) (empty : e.times.keys ≡ []) where
  module _ (number : e.number ≡ length a.named.items) (ns : b.named.items ≡ a.named.items ++ k ∷ []) (holds : Holds a.by_key b.by_key k e) (due : (q : Due) → contains due_order b.by_time q ≡ contains due_order a.by_time q) where
    mine : (q : List ℕ) → is_at (key_cmp k) q ≡ true → (q ≡ k) × (get key_cmp b.by_key q ≡ Some e) × (get key_cmp a.by_key q ≡ None)
    mine q at = (sym (tells_apart exact_bytes k q at), holds q ∙ ap (λ c. cond c (Some e) (get key_cmp a.by_key q)) at, ap (get key_cmp a.by_key) (sym (tells_apart exact_bytes k q at)) ∙ none)

    its : (q : List ℕ) → is_at (key_cmp k) q ≡ false → get key_cmp b.by_key q ≡ get key_cmp a.by_key q
    its q at = holds q ∙ ap (λ c. cond c (Some e) (get key_cmp a.by_key q)) at

    at_k : get key_cmp b.by_key k ≡ Some e
    at_k = (mine k (ap is_eq (tied_itself nat_list_cmp_total k))).1

    times_stay : (q : List ℕ) (c : Bool) → is_at (key_cmp k) q ≡ c → kept_times b.by_key q ≡ kept_times a.by_key q
    times_stay q true at = ap times_or (mine q at).1 ∙ empty ∙ sym (ap times_or (mine q at).2)
    times_stay q false at = ap times_or (its q at)

    named_after : (q : List ℕ) (s : ℕ) (c : Bool) → is_at (key_cmp k) q ≡ c → number_or (get key_cmp b.by_key q) ≡ Some s → slice_get (a.named.items ++ k ∷ []) s ≡ Some q
    named_after q s true at f =
        let is : Some e.number ≡ Some s = sym (ap number_or (mine q at).1) ∙ f in
        let one : e.number ≡ s = cc in
        ap (slice_get (a.named.items ++ k ∷ [])) (sym one ∙ number) ∙ last_place a.named.items k ∙ ap Some (sym (mine q at).0)
    named_after q s false at f = go (place a.named.items k s) where
      was : slice_get a.named.items s ≡ Some q
      was = h.named q s (sym (ap number_or (its q at)) ∙ f)

      go : Place a.named.items k s → slice_get (a.named.items ++ k ∷ []) s ≡ Some q
      go (within p f g) = g ∙ sym f ∙ was
      go (last i f g) = let never : None ≡ Some q = sym f ∙ was in absurd (cc)
      go (past f g) = let never : None ≡ Some q = sym f ∙ was in absurd (cc)

    numbered_after : (q : List ℕ) (s : ℕ) → slice_get (a.named.items ++ k ∷ []) s ≡ Some q → number_or (get key_cmp b.by_key q) ≡ Some s
    numbered_after q s f = go (place a.named.items k s) where
      go : Place a.named.items k s → number_or (get key_cmp b.by_key q) ≡ Some s
      go (within p g i) = by_key (is_at (key_cmp k) q) refl where
        was : number_or (get key_cmp a.by_key q) ≡ Some s
        was = h.numbered q s (g ∙ sym i ∙ f)

        by_key : (c : Bool) → is_at (key_cmp k) q ≡ c → number_or (get key_cmp b.by_key q) ≡ Some s
        by_key true at = let never : None ≡ Some s = sym (ap number_or (mine q at).2) ∙ was in absurd (cc)
        by_key false at = ap number_or (its q at) ∙ was
      go (last i g j) =
          let both : Some k ≡ Some q = sym j ∙ f in
          let one : k ≡ q = cc in
          ap (λ x. number_or (get key_cmp b.by_key x)) (sym one) ∙ ap number_or at_k ∙ ap Some (number ∙ sym i)
      go (past g i) = let never : None ≡ Some q = sym i ∙ f in absurd (cc)

    at_place : (u : ℤ) (s : ℕ) → Place a.named.items k s → has_at a.by_key (slice_get a.named.items s) u ≡ has_at b.by_key (slice_get (a.named.items ++ k ∷ []) s) u
    at_place u s (within p f g) =
        ap (λ r. has_at a.by_key r u) f ∙ ap (list_any (is_at (int_cmp u))) (sym (times_stay p (is_at (key_cmp k) p) refl)) ∙ sym (ap (λ r. has_at b.by_key r u) g)
    at_place u s (last i f g) = ap (λ r. has_at a.by_key r u) f ∙ sym (ap (λ r. has_at b.by_key r u) g ∙ ap (λ o. list_any (is_at (int_cmp u)) (times_or o)) at_k ∙ ap (list_any (is_at (int_cmp u))) empty)
    at_place u s (past f g) = ap (λ r. has_at a.by_key r u) f ∙ sym (ap (λ r. has_at b.by_key r u) g)

    pub agree_held : tree.IsOrdered key_cmp b.by_key → sorted.IsOrdered int_cmp e.times → Agree b
    agree_held ordered rises = record {
      ordered = ordered;
      rising = λ q. rise q (is_at (key_cmp k) q) refl;
      named = λ q s f. ap (λ l. slice_get l s) ns ∙ named_after q s (is_at (key_cmp k) q) refl f;
      numbered = λ q s f. numbered_after q s (sym (ap (λ l. slice_get l s) ns) ∙ f);
      same = λ u s. due (u, s) ∙ h.same u s ∙ at_place u s (place a.named.items k s) ∙ ap (λ l. has_at b.by_key (slice_get l s) u) (sym ns);
    } where
      rise : (q : List ℕ) (c : Bool) → is_at (key_cmp k) q ≡ c → Rises (get key_cmp b.by_key q)
      rise q true at = subst Rises (sym (mine q at).1) rises
      rise q false at = subst Rises (sym (its q at)) (h.rising q)
