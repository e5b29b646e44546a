-- The agenda of a watermark: what it lists.
use Rattle.std.proofs.Common.{◌≡◌, ◌∙◌, ◌+◌, ◌-◌, ◌≤◌, ◌<◌, ◌↔◌, ℕ, zero, suc, ℤ, Bool, true, false, cond, ◌||◌, List, [], ◌∷◌, Option, None, Some, IsSome, unwrap_or, int_le, refl, sym, ap, subst, arith, rules}
use Rattle.std.proofs.lemmas.Bool.{true≢false}
use Rattle.std.proofs.lemmas.Map.Lookups.{CmpEqualImpliesEq, exact_bytes, exact_signed}
use Rattle.std.proofs.lemmas.Map.Views.{tells_apart, list_any-from_Contains}
use Rattle.std.proofs.lemmas.Map.Keys.{sorted_head}
use Rattle.std.specs.List.{list_any, Contains, AllByRecursion}
use Rattle.std.specs.Str.{bytes_eq}
use Rattle.std.specs.Cmp.{IsTotalOrder, int_cmp_total, then_total, on_total, tied_itself, eq_by_cmp_equiv}
use Rattle.std.specs.Cmp.Lexicographic.{nat_list_cmp_total, texts_ties}
use Rattle.std.specs.Ordering.{is_eq, is_lt, is_gt, int_cmp, ordering_then, ordering_reverse}
use Rattle.std.specs.declared.cmp.Ordering.{Ordering}
use Rattle.std.specs.declared.cmp.Ordering.TheVariants.{Less, Equal, Greater}
use Rattle.std.specs.BTreeMap.{is_at, insert_entry}
use Rattle.std.specs.Map.{keys_of}
use Rattle.std.specs.Option.{option_map}
use Rattle.std.specs.List.Sorted.{IsStrictlySortedBy}
use Rattle.std.proofs.lemmas.Map.Entries.{sum_by-insert_entry}
use Rattle.ax_keys.specs.Keys.{key_cmp}
use Rattle.ax_text.specs.Times.{least_time, HasDue}
use Rattle.ax_machine.specs.Entries.{Key}
use Rattle.ax_machine.specs.Firings.{due_of, due_cmp, most_firings, candidate, next_due, one_less}
use Rattle.ax_text.specs.KeyStates.{KeyState}
use Rattle.ax_machine.proofs.FiringLemmas.{next_is, next_none_is, key_is, one_less_own, one_less_other}
use Rattle.ax_machine.specs.Firings as machine
use Rattle.ax_plain.specs.declared.agenda.Due.{Due}
use Rattle.ax_plain.specs.Agenda.{shown_due, timer_of, order, firings_at, Lists, without, NoneFires, IsFirstDue, Puts, firings_left, HasSome}

-- ---- the order of due timers

order_total : IsTotalOrder order
order_total = then_total (on_total (λ d. d.time) int_cmp_total) (on_total (λ d. d.key) nat_list_cmp_total)

same_due : (a b : Due) → a.time ≡ b.time → a.key ≡ b.key → a ≡ b
same_due a b p q i = record { time = p i; key = q i }

exact : CmpEqualImpliesEq order
exact a b h = go (int_cmp a.time b.time) refl h where
  go : (r : Ordering) → int_cmp a.time b.time ≡ r → ordering_then r (key_cmp a.key b.key) ≡ Equal → a ≡ b
  go Less e f = cc
  go Equal e f = same_due a b (exact_signed a.time b.time e) (exact_bytes a.key b.key f)
  go Greater e f = cc

-- a timer of another key stands at another place
apart : (a b : Due) → bytes_eq a.key b.key ≡ false → is_at (order a) b ≡ false
apart a b h = go (int_cmp a.time b.time) where
  go : (r : Ordering) → is_eq (ordering_then r (key_cmp a.key b.key)) ≡ false
  go Less = refl
  go Equal = sym (texts_ties a.key b.key) ∙ h
  go Greater = refl

place_of : (a b : Due) → a ≡ b → is_at (order a) b ≡ true
place_of a b e = subst (λ (x : Due). is_at (order a) x ≡ true) e (ap is_eq (tied_itself order_total a))

reversed : (r : Ordering) → is_gt r ≡ false → is_lt (ordering_reverse r) ≡ false
reversed Less e = refl
reversed Equal e = refl
reversed Greater e = absurd (true≢false e)

not_before : (a b : Due) → is_gt (order a b) ≡ false → is_lt (order b a) ≡ false
not_before a b h = ap is_lt (order_total.antisymm b a) ∙ reversed (order a b) h

bytes_turned : (a b : Key) → bytes_eq a b ≡ bytes_eq b a
bytes_turned a b = texts_ties a b ∙ (eq_by_cmp_equiv nat_list_cmp_total).symm a b ∙ sym (texts_ties b a)

-- ---- the timer with which a key may fire

module _ (w : ℤ) where
  pub timer_key : (n : ℕ) (k : Key) (ts : List ℤ) (c : machine.Due) → timer_of w n k ts ≡ Some c → c.key ≡ k
  timer_key zero k ts c h = cc
  timer_key (suc n) k [] c h = cc
  timer_key (suc n) k (t ∷ ts) c h = go (int_le t w) h where
    go : (b : Bool) → cond b (Some (record { time = t; key = k })) None ≡ Some c → c.key ≡ k
    go true e = ap (λ (o : Option machine.Due). (unwrap_or o c).key) (sym e)
    go false e = cc

  -- it is known by the first time
  pub timer_at : ℕ → Key → Option ℤ → Option machine.Due
  timer_at zero k least = None
  timer_at (suc n) k None = None
  timer_at (suc n) k (Some t) = cond (int_le t w) (Some (record { time = t; key = k })) None

  by_least : (n : ℕ) (k : Key) (ts : List ℤ) → timer_of w n k ts ≡ timer_at n k (least_time ts)
  unfolding timer_at
  by_least zero k ts = refl
  by_least (suc n) k [] = refl
  by_least (suc n) k (t ∷ ts) = refl

  pub fires : (n : ℕ) (k : Key) (t : ℤ) → 0 < n → int_le t w ≡ true → timer_at n k (Some t) ≡ Some (record { time = t; key = k })
  unfolding timer_at
  fires zero k t some due = absurd (omega arith)
  fires (suc n) k t some due = ap (λ b. cond b (Some (record { time = t; key = k })) None) due

  pub no_time : (n : ℕ) (k : Key) → timer_at n k None ≡ None
  unfolding timer_at
  no_time zero k = refl
  no_time (suc n) k = refl

  pub none_left : (k : Key) (least : Option ℤ) → timer_at 0 k least ≡ None
  unfolding timer_at
  none_left k least = refl

  pub too_late : (n : ℕ) (k : Key) (t : ℤ) → int_le t w ≡ false → timer_at n k (Some t) ≡ None
  unfolding timer_at
  too_late zero k t late = refl
  too_late (suc n) k t late = ap (λ b. cond b (Some (record { time = t; key = k })) None) late

unsome : {X : Type 0} (a b : X) → Some a ≡ Some b → a ≡ b
unsome a b e = ap (λ o. unwrap_or o a) e

abbrev pub of_machine : machine.Due → Due
of_machine c = record { time = c.time; key = c.key }

of_due : (a b : Due) → shown_due a ≡ shown_due b → a ≡ b
of_due a b e = ap of_machine e

-- ---- the firings left

pub sum_after : (es es' : List (Due × ℕ)) (d : Due) (n : ℕ) → IsStrictlySortedBy order (keys_of es) → es' ≡ insert_entry order es d n → firings_left es' ≤ firings_left es + n
sum_after es es' d n rises is =
    let all : firings_left (insert_entry order es d n) + unwrap_or (option_map (λ (m : ℕ). m) (firings_at es d)) 0 ≡ firings_left es + n = sum_by-insert_entry (λ (m : ℕ). m) order_total es d n rises in
    let one : firings_left es' ≡ firings_left (insert_entry order es d n) = ap firings_left is in
    omega arith

-- ---- some firing is left of each key

pub some_behind : (es es' : List (Due × ℕ)) (d : Due) (o : Option ℕ) → HasSome es → ((n : ℕ) → o ≡ Some n → 0 < n)
    → ((q : Due) → firings_at es' q ≡ cond (is_at (order d) q) o (firings_at es q)) → HasSome es'
some_behind es es' d o some new is q n h = go (is_at (order d) q) (sym (is q) ∙ h) where
  go : (b : Bool) → cond b o (firings_at es q) ≡ Some n → 0 < n
  go true e = new n e
  go false e = some q n e

pub some_same : (es es' : List (Due × ℕ)) → es' ≡ es → HasSome es → HasSome es'
some_same es es' e some = subst HasSome (sym e) some

pub some_left : (left n : ℕ) → 0 < left → Some left ≡ Some n → 0 < n
some_left left n some e = subst (λ (m : ℕ). 0 < m) (unsome left n e) some

-- ---- what the agenda lists

module _ (w : ℤ) where
  -- a timer is the one with which its key may fire, and its key has so many firings left
  abbrev pub IsListed : (Key → ℕ) → (Key → List ℤ) → Due → ℕ → Type 0
  IsListed more times d n = (timer_of w (more d.key) d.key (times d.key) ≡ Some (shown_due d)) × (more d.key ≡ n)

  -- the same entries list the same
  pub listed_as : (more : Key → ℕ) (times : Key → List ℤ) (es now : List (Due × ℕ)) → es ≡ now → Lists w more times now → Lists w more times es
  listed_as more times es now e lists = subst (Lists w more times) (sym e) lists

  -- the timer with which a key may fire is on the agenda
  stands : (more : Key → ℕ) (times : Key → List ℤ) (es : List (Due × ℕ)) → Lists w more times es → (k : Key) (c : machine.Due) → timer_of w (more k) k (times k) ≡ Some c → firings_at es (of_machine c) ≡ Some (more c.key)
  stands more times es lists k c e =
      let same : k ≡ c.key = sym (timer_key w (more k) k (times k) c e) in
      (lists (of_machine c) (more c.key)).1 (subst (λ (q : Key). timer_of w (more q) q (times q) ≡ Some c) same e, refl)

  pub none_fires : (more : Key → ℕ) (times : Key → List ℤ) (es : List (Due × ℕ)) → Lists w more times es → es ≡ [] → NoneFires w more times
  none_fires more times es lists empty k = go (timer_of w (more k) k (times k)) refl where
    go : (o : Option machine.Due) → timer_of w (more k) k (times k) ≡ o → o ≡ None
    go None e = refl
    go (Some c) e =
        let there : firings_at es (of_machine c) ≡ Some (more c.key) = stands more times es lists k c e in
        let not_there : firings_at es (of_machine c) ≡ None = ap (λ (l : List (Due × ℕ)). firings_at l (of_machine c)) empty in
        absurd (cc)

  -- the first one on the agenda is the first of all
  pub is_next : (more : Key → ℕ) (times : Key → List ℤ) (es : List (Due × ℕ)) (d : Due) (n : ℕ) → Lists w more times es → firings_at es d ≡ Some n
      → ((q : Due) → IsSome (firings_at es q) → is_gt (order d q) ≡ false) → IsFirstDue w more times d n
  is_next more times es d n lists at least =
      let own : IsListed more times d n = (lists d n).0 at in
      record {
        is = own.0;
        left = own.1;
        first = λ k c e. not_before d (of_machine c) (least (of_machine c) (subst (λ (o : Option ℕ). IsSome o) (sym (stands more times es lists k c e)) refl));
      }

  -- what changed at one key alone
  pub changed : (key : Key) (more more' : Key → ℕ) (times times' : Key → List ℤ) (es es' : List (Due × ℕ)) → Lists w more times es
      → ((q : Key) → bytes_eq key q ≡ false → more' q ≡ more q)
      → ((q : Key) → bytes_eq key q ≡ false → times' q ≡ times q)
      → ((d : Due) → bytes_eq key d.key ≡ false → firings_at es' d ≡ firings_at es d)
      → ((d : Due) (n : ℕ) → bytes_eq key d.key ≡ true → (firings_at es' d ≡ Some n) ↔ IsListed more' times' d n)
      → Lists w more' times' es'
  changed key more more' times times' es es' lists m t f own d n = go (bytes_eq key d.key) refl where
    go : (b : Bool) → bytes_eq key d.key ≡ b → (firings_at es' d ≡ Some n) ↔ IsListed more' times' d n
    go true e = own d n e
    go false e =
        let one : timer_of w (more' d.key) d.key (times' d.key) ≡ timer_of w (more d.key) d.key (times d.key) =
        (λ i. timer_of w (m d.key e i) d.key (t d.key e i)) in (
          λ h. let it : IsListed more times d n = (lists d n).0 (sym (f d e) ∙ h) in (one ∙ it.0, m d.key e ∙ it.1),
          λ h. f d e ∙ (lists d n).1 (sym one ∙ h.0, sym (m d.key e) ∙ h.1),
        )

  pub none_some : {X : Type 0} (o : Option X) (x : X) → o ≡ None → o ≡ Some x → ⊥
  none_some o x e f = let g : None ≡ Some x = sym e ∙ f in cc

  -- the first one left the agenda, and its key with it
  pub popped : (more : Key → ℕ) (times : Key → List ℤ) (es es' : List (Due × ℕ)) (d : Due) (n : ℕ) → Lists w more times es → firings_at es d ≡ Some n
      → ((q : Due) → firings_at es' q ≡ cond (is_at (order d) q) None (firings_at es q))
      → Lists w (without d.key more) times es'
  popped more times es es' d n lists at left = changed d.key more (without d.key more) times times es es' lists
      (λ q e. ap (λ b. cond b 0 (more q)) e)
      (λ q e. refl)
      (λ q e. left q ∙ ap (λ b. cond b None (firings_at es q)) (apart d q e))
      own where
        own : (q : Due) (m : ℕ) → bytes_eq d.key q.key ≡ true → (firings_at es' q ≡ Some m) ↔ IsListed (without d.key more) times q m
        own q m e = (λ h. absurd (gone (is_at (order d) q) refl h), λ h. absurd (never h)) where
          never : IsListed (without d.key more) times q m → ⊥
          never h = none_some (timer_of w (without d.key more q.key) q.key (times q.key)) (shown_due q) (ap (λ b. timer_of w (cond b 0 (more q.key)) q.key (times q.key)) e) h.0

          gone : (b : Bool) → is_at (order d) q ≡ b → firings_at es' q ≡ Some m → ⊥
          gone true f h = none_some (firings_at es' q) m (left q ∙ ap (λ b. cond b None (firings_at es q)) f) h
          gone false f h =
              let was : firings_at es q ≡ Some m = sym (left q ∙ ap (λ b. cond b None (firings_at es q)) f) ∙ h in
              let first : timer_of w (more q.key) q.key (times q.key) ≡ Some (shown_due d) = subst (λ (k : Key). timer_of w (more k) k (times k) ≡ Some (shown_due d)) (key_is d.key q.key e) ((lists d n).0 at).0 in
              let same : d ≡ q = of_due d q (unsome (shown_due d) (shown_due q) (sym first ∙ ((lists q m).0 was).0)) in
              true≢false (sym (place_of d q same) ∙ f)

  -- the timer with which a key may fire, by what is put in
  own_timer : (key : Key) (least : Option ℤ) (left : ℕ) (more : Key → ℕ) (times : Key → List ℤ) → more key ≡ left → least_time (times key) ≡ least
      → (q : Key) → bytes_eq key q ≡ true → timer_of w (more q) q (times q) ≡ timer_at w left key least
  own_timer key least left more times m t q e =
      subst (λ (k : Key). timer_of w (more k) k (times k) ≡ timer_at w left key least) (key_is key q e)
      (by_least w (more key) key (times key) ∙ (λ i. timer_at w (m i) key (t i)))

  -- a key of which no firing is left is not on the agenda
  not_there : (key : Key) (more : Key → ℕ) (times : Key → List ℤ) (es : List (Due × ℕ)) → Lists w (without key more) times es
      → (q : Due) → bytes_eq key q.key ≡ true → (n : ℕ) → firings_at es q ≡ Some n → ⊥
  not_there key more times es lists q e n h = none_some (timer_of w (without key more q.key) q.key (times q.key)) (shown_due q) (ap (λ b. timer_of w (cond b 0 (more q.key)) q.key (times q.key)) e) ((lists q n).0 h).0

  -- a key that may not fire stays off
  pub stays_off : (key : Key) (least : Option ℤ) (left : ℕ) (es : List (Due × ℕ)) → timer_at w left key least ≡ None → Puts w key least left es es
  stays_off key least left es none more times lists m t = changed key (without key more) more times times es es lists
      (λ q e. sym (ap (λ b. cond b 0 (more q)) e))
      (λ q e. refl)
      (λ q e. refl)
      (λ q n e. (λ h. absurd (not_there key more times es lists q e n h), λ h. absurd (none_some (timer_of w (more q.key) q.key (times q.key)) (shown_due q) (own_timer key least left more times m t q.key e ∙ none) h.0)))

  -- a key that may fire stands there with its first timer
  pub came : (d : Due) (least : Option ℤ) (left : ℕ) (es es' : List (Due × ℕ)) → timer_at w left d.key least ≡ Some (shown_due d)
      → ((q : Due) → firings_at es' q ≡ cond (is_at (order d) q) (Some left) (firings_at es q))
      → Puts w d.key least left es es'
  came d least left es es' is put more times lists m t = changed d.key (without d.key more) more times times es es' lists
      (λ q e. sym (ap (λ b. cond b 0 (more q)) e))
      (λ q e. refl)
      (λ q e. put q ∙ ap (λ b. cond b (Some left) (firings_at es q)) (apart d q e))
      own where
        own : (q : Due) (n : ℕ) → bytes_eq d.key q.key ≡ true → (firings_at es' q ≡ Some n) ↔ IsListed more times q n
        own q n e = (there (is_at (order d) q) refl, back) where
          now : timer_of w (more q.key) q.key (times q.key) ≡ Some (shown_due d)
          now = own_timer d.key least left more times m t q.key e ∙ is

          left_is : more q.key ≡ left
          left_is = ap more (sym (key_is d.key q.key e)) ∙ m

          there : (b : Bool) → is_at (order d) q ≡ b → firings_at es' q ≡ Some n → IsListed more times q n
          there true f h =
              let same : d ≡ q = tells_apart exact d q f in
              (now ∙ ap (λ (x : Due). Some (shown_due x)) same, left_is ∙ unsome left n (sym (put q ∙ ap (λ b. cond b (Some left) (firings_at es q)) f) ∙ h))
          there false f h = absurd (not_there d.key more times es lists q e n (sym (put q ∙ ap (λ b. cond b (Some left) (firings_at es q)) f) ∙ h))

          back : IsListed more times q n → firings_at es' q ≡ Some n
          back h =
              let same : d ≡ q = of_due d q (unsome (shown_due d) (shown_due q) (sym now ∙ h.0)) in
              put q ∙ ap (λ b. cond b (Some left) (firings_at es q)) (place_of d q same) ∙ ap Some (sym left_is ∙ h.1)

-- ---- the agenda as a watermark comes

pub most_is : most_firings ≡ 65536
unfolding most_firings
most_is = refl

-- these keys have not been put on the agenda yet
abbrev pub yet : List Key → Key → ℕ
yet keys q = cond (list_any (bytes_eq q) keys) 0 most_firings

or_tail : (b c d : Bool) → (c ≡ true → d ≡ true) → (b || c) ≡ true → (b || d) ≡ true
or_tail true c d f e = refl
or_tail false c d f e = f e

in_keys : (q : Key) (keys : List Key) → Contains keys q → list_any (bytes_eq q) keys ≡ true
in_keys q keys h = go keys (list_any-from_Contains (eq_by_cmp_equiv nat_list_cmp_total) q keys h) where
  go : (ks : List Key) → list_any (is_at (key_cmp q)) ks ≡ true → list_any (bytes_eq q) ks ≡ true
  go [] e = e
  go (k ∷ ks) e = ap (λ b. b || list_any (bytes_eq q) ks) (texts_ties q k) ∙ or_tail (is_at (key_cmp q) k) (list_any (is_at (key_cmp q)) ks) (list_any (bytes_eq q) ks) (go ks) e

none_above : (k : Key) (ks : List Key) → AllByRecursion (λ y. key_cmp k y ≡ Less) ks → list_any (bytes_eq k) ks ≡ false
none_above k [] a = refl
none_above k (y ∷ ys) a = ap (λ b. b || list_any (bytes_eq k) ys) (texts_ties k y ∙ ap is_eq a.0) ∙ none_above k ys a.1

module _ (w : ℤ) (times : Key → List ℤ) where
  has_due : (k : Key) (n : ℕ) (c : machine.Due) → timer_of w n k (times k) ≡ Some c → HasDue w (times k)
  has_due k n c h = go n (times k) h where
    due_head : (t : ℤ) (ts : List ℤ) (b : Bool) → int_le t w ≡ b → cond b (Some (record { time = t; key = k })) None ≡ Some c → HasDue w (t ∷ ts)
    due_head t ts true e f = (t, (0, omega arith, refl), search rules)
    due_head t ts false e f = absurd (none_some w None c refl f)

    go : (m : ℕ) (ts : List ℤ) → timer_of w m k ts ≡ Some c → HasDue w ts
    go zero ts e = absurd (none_some w None c refl e)
    go (suc m) [] e = absurd (none_some w None c refl e)
    go (suc m) (t ∷ ts) e = due_head t ts (int_le t w) refl e

  -- at first no key is on it
  pub starts : (keys : List Key) → ((q : Key) → Contains keys q ↔ HasDue w (times q)) → Lists w (yet keys) times []
  starts keys all d n = (λ h. absurd (none_some w None n refl h), λ h. absurd (go (list_any (bytes_eq d.key) keys) refl h.0)) where
    go : (b : Bool) → list_any (bytes_eq d.key) keys ≡ b → timer_of w (yet keys d.key) d.key (times d.key) ≡ Some (shown_due d) → ⊥
    go true e h = none_some w (timer_of w (yet keys d.key) d.key (times d.key)) (shown_due d) (ap (λ b. timer_of w (cond b 0 most_firings) d.key (times d.key)) e) h
    go false e h = true≢false (sym (in_keys d.key keys ((all d.key).1 (has_due d.key (yet keys d.key) (shown_due d) h))) ∙ e)

  -- the next key is put on it
  pub goes_on : (k : Key) (rest : List Key) (es es' : List (Due × ℕ)) (least : Option ℤ) → IsStrictlySortedBy key_cmp (k ∷ rest) → Lists w (yet (k ∷ rest)) times es
      → least ≡ least_time (times k) → Puts w k least 65536 es es' → Lists w (yet rest) times es'
  goes_on k rest es es' least rises lists first puts = puts (yet rest) times (subst (λ (m : Key → ℕ). Lists w m times es) (λ i q. without_k q i) lists)
      (ap (λ b. cond b 0 most_firings) (none_above k rest (sorted_head key_cmp k rest rises)) ∙ most_is) (sym first) where
        without_k : (q : Key) → yet (k ∷ rest) q ≡ without k (yet rest) q
        without_k q = ap (λ b. cond (b || list_any (bytes_eq q) rest) 0 most_firings) (bytes_turned q k) ∙ go (bytes_eq k q) (list_any (bytes_eq q) rest) where
          go : (b c : Bool) → cond (b || c) 0 most_firings ≡ cond b 0 (cond c 0 most_firings)
          go true c = refl
          go false c = refl

-- ---- for the loop that fires

-- what a key that is not on the agenda has makes no difference to it
pub others_stay : (w : ℤ) (key : Key) (more more' : Key → ℕ) (times times' : Key → List ℤ) (agenda : List (Due × ℕ))
    → ((q : Key) → bytes_eq key q ≡ false → more' q ≡ more q)
    → ((q : Key) → bytes_eq key q ≡ false → times' q ≡ times q)
    → Lists w (without key more) times agenda → Lists w (without key more') times' agenda
others_stay w key more more' times times' agenda m t lists = changed w key (without key more) (without key more') times times' agenda agenda lists
    (λ q e. ap (λ b. cond b 0 (more' q)) e ∙ m q e ∙ sym (ap (λ b. cond b 0 (more q)) e))
    t
    (λ q e. refl)
    (λ q n e. (λ h. absurd (not_there w key more times agenda lists q e n h), λ h. absurd (none_some w (timer_of w (without key more' q.key) q.key (times' q.key)) (shown_due q) (ap (λ b. timer_of w (cond b 0 (more' q.key)) q.key (times' q.key)) e) h.0)))

-- the key fired: one firing less is left of it, and it has other times
pub fired : (w : ℤ) (key : Key) (more : Key → ℕ) (times times' : Key → List ℤ) (agenda : List (Due × ℕ))
    → ((q : Key) → bytes_eq key q ≡ false → times' q ≡ times q)
    → Lists w (without key more) times agenda → Lists w (without key (one_less more key)) times' agenda
fired w key more times times' agenda t lists = others_stay w key more (one_less more key) times times' agenda (one_less_other more key) t lists

-- the key that fired is put back with what is left
pub put_back : (w : ℤ) (key : Key) (more : Key → ℕ) (times times' : Key → List ℤ) (n : ℕ) (least : Option ℤ) (agenda agenda' : List (Due × ℕ))
    → ((q : Key) → bytes_eq key q ≡ false → times' q ≡ times q)
    → more key ≡ n → least ≡ least_time (times' key)
    → Lists w (without key more) times agenda → Puts w key least (n - 1) agenda agenda' → Lists w (one_less more key) times' agenda'
put_back w key more times times' n least agenda agenda' t left first lists puts = puts (one_less more key) times' (fired w key more times times' agenda t lists)
    (one_less_own more key ∙ ap (λ (m : ℕ). m - 1) left) (sym first)

-- ---- what fires next

module _ (w : ℤ) (more : Key → ℕ) (map : Key → KeyState) (times : Key → List ℤ) (has : (k : Key) → times k ≡ (map k).times) where
  candidate_of : (n : ℕ) (k : Key) (s : KeyState) → candidate w n k s ≡ timer_of w n k s.times
  candidate_of zero k s = refl
  candidate_of (suc n) k s = refl

  own_candidate : (k : Key) → candidate w (more k) k (map k) ≡ timer_of w (more k) k (times k)
  own_candidate k = candidate_of (more k) k (map k) ∙ ap (timer_of w (more k) k) (sym (has k))

  -- what was popped fires next
  pub pops_next : (keys : List Key) (d : Due) (n : ℕ) → list_any (bytes_eq d.key) keys ≡ true → IsFirstDue w more times d n → next_due w keys more map ≡ Some (shown_due d)
  pops_next keys d n known next = next_is w keys more map (shown_due d) (record {
    known = known;
    own = own_candidate d.key ∙ next.is;
    first = λ k c there e. next.first k c (sym (own_candidate k) ∙ e);
  })

  -- where nothing was popped, nothing fires next
  pub pops_none : (keys : List Key) → NoneFires w more times → next_due w keys more map ≡ None
  pops_none keys none = next_none_is w keys more map (λ k there. own_candidate k ∙ none k)
