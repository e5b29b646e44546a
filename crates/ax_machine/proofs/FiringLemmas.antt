-- The timer that fires next, and what is left to fire behind it.
use Rattle.std.proofs.Common.{◌≡◌, ℕ, zero, suc, ◌+◌, ◌*◌, ◌-◌, ◌≤◌, ◌<◌, ℤ, int_le, List, [], ◌∷◌, length, Bool, true, false, ◌||◌, Option, Some, None, Ordering, Less, Equal, Greater, int_cmp, is_lt, is_gt, refl, sym, ap, ap₂, ◌∙◌, subst, arith, cond, ◌⊎◌, inl, inr, ⊎_elim}
use Rattle.std.specs.Str.{bytes_eq}
use Rattle.std.specs.List.{list_any}
use Rattle.std.specs.BTreeSet.{insert_key}
use Rattle.std.specs.Ordering.{ordering_then, ordering_reverse, match_ordering}
use Rattle.std.specs.Cmp.{IsTotalOrder}
use Rattle.std.proofs.lemmas.Bool.{true≢false, or_right, cond-true, cond-false}
use Rattle.std.proofs.lemmas.Cmp.{int_cmp_total, nat_list_cmp_total, on_total, then_total, upto, tied_itself}
use Rattle.std.proofs.lemmas.Map.Lookups.{exact_signed, exact_bytes}
use Rattle.std.proofs.lemmas.Slice.Eq.{bytes_eq-Decides}
use Rattle.ax_keys.specs.Keys.{key_cmp}
use Rattle.ax_text.specs.KeyStates.{KeyState}
use Rattle.ax_text.specs.Programs.{Program}
use Rattle.ax_machine.specs.Entries.{Key}
use Rattle.ax_machine.specs.Firings.{Due, due_cmp, due_of, candidate, earlier, next_due, one_less}
use Rattle.ax_machine.specs.Sync.{Plain, fire, fire_next, fire_all}

-- how many firings are left to these keys in all
abbrev pub total : List Key → (Key → ℕ) → ℕ
total [] more = 0
total (k ∷ ks) more = more k + total ks more

-- keys as their bytes tell them apart
pub same_key : (k : Key) → bytes_eq k k ≡ true
same_key k = (bytes_eq-Decides k k).1 refl

pub key_is : (k j : Key) → bytes_eq k j ≡ true → k ≡ j
key_is k j e = (bytes_eq-Decides k j).0 e

pub has_head : (k j : Key) (ks : List Key) → k ≡ j → list_any (bytes_eq k) (j ∷ ks) ≡ true
has_head k j ks e = rw ((bytes_eq-Decides k j).1 e) refl

pub has_tail : (k j : Key) (ks : List Key) → list_any (bytes_eq k) ks ≡ true → list_any (bytes_eq k) (j ∷ ks) ≡ true
has_tail k j ks e = or_right (bytes_eq k j) (list_any (bytes_eq k) ks) e

has_cases : (b c : Bool) → (b || c) ≡ true → (b ≡ true) ⊎ (c ≡ true)
has_cases true c e = inl refl
has_cases false c e = inr e

-- a key among keys is the first or one of the others
pub among : (k j : Key) (ks : List Key) → list_any (bytes_eq k) (j ∷ ks) ≡ true → (k ≡ j) ⊎ (list_any (bytes_eq k) ks ≡ true)
among k j ks e = ⊎_elim (λ h. inl (key_is k j h)) (λ h. inr h) (has_cases (bytes_eq k j) (list_any (bytes_eq k) ks) e)

or_swap : (a b c : Bool) → (a || (b || c)) ≡ (b || (a || c))
or_swap true true c = refl
or_swap true false c = refl
or_swap false b c = refl

or_again : (a c : Bool) → (a || c) ≡ (a || (a || c))
or_again true c = refl
or_again false c = refl

-- a key is among keys into which j was put where it is j or was there
pub any_inserted : (k j : Key) (ks : List Key) → list_any (bytes_eq k) (insert_key key_cmp ks j) ≡ (bytes_eq k j || list_any (bytes_eq k) ks)
any_inserted k j [] = refl
any_inserted k j (x ∷ xs) = of (key_cmp j x) refl (any_inserted k j xs)
  where
    of : (o : Ordering) → key_cmp j x ≡ o → list_any (bytes_eq k) (insert_key key_cmp xs j) ≡ (bytes_eq k j || list_any (bytes_eq k) xs)
        → list_any (bytes_eq k) (match_ordering o (j ∷ x ∷ xs) (x ∷ xs) (x ∷ insert_key key_cmp xs j)) ≡ (bytes_eq k j || (bytes_eq k x || list_any (bytes_eq k) xs))
    of Less h more = refl
    of Equal h more = or_again (bytes_eq k x) (list_any (bytes_eq k) xs) ∙ ap (λ (i : Key). bytes_eq k i || (bytes_eq k x || list_any (bytes_eq k) xs)) (sym (exact_bytes j x h))
    of Greater h more = ap (λ (b : Bool). bytes_eq k x || b) more ∙ or_swap (bytes_eq k x) (bytes_eq k j) (list_any (bytes_eq k) xs)

-- a key put among keys stands there, and so do those that stood there
pub has_inserted : (k j : Key) (ks : List Key) → (k ≡ j) ⊎ (list_any (bytes_eq k) ks ≡ true) → list_any (bytes_eq k) (insert_key key_cmp ks j) ≡ true
has_inserted k j ks (inl e) = any_inserted k j ks ∙ ap (λ (b : Bool). b || list_any (bytes_eq k) ks) ((bytes_eq-Decides k j).1 e)
has_inserted k j ks (inr e) = any_inserted k j ks ∙ or_right (bytes_eq k j) (list_any (bytes_eq k) ks) e

-- the order of the timers that are due
due_total : IsTotalOrder due_cmp
due_total = then_total (on_total (λ (d : Due). d.time) int_cmp_total) (on_total (λ (d : Due). d.key) nat_list_cmp_total)

turned : (o : Ordering) → is_gt o ≡ is_lt (ordering_reverse o)
turned Less = refl
turned Equal = refl
turned Greater = refl

not_after : (a b : Due) → is_lt (due_cmp a b) ≡ is_gt (due_cmp b a)
not_after a b = ap is_lt (due_total.antisymm a b) ∙ sym (turned (due_cmp b a))

-- where b doesn't come before c, and a not before b, a doesn't come before c
not_before : (a b c : Due) → is_lt (due_cmp a b) ≡ false → is_lt (due_cmp b c) ≡ false → is_lt (due_cmp a c) ≡ false
not_before a b c p q = not_after a c ∙ upto due_total c b a (sym (not_after b c) ∙ q) (sym (not_after a b) ∙ p)

not_before_itself : (a : Due) → is_lt (due_cmp a a) ≡ false
not_before_itself a = ap is_lt (tied_itself due_total a)

before_one_way : (o : Ordering) → is_lt o ≡ true → is_lt (ordering_reverse o) ≡ false
before_one_way Less e = refl
before_one_way Equal e = refl
before_one_way Greater e = absurd (true≢false (sym e))

not_both_before : (a b : Due) → is_lt (due_cmp a b) ≡ true → is_lt (due_cmp b a) ≡ false
not_both_before a b e = ap is_lt (due_total.antisymm b a) ∙ before_one_way (due_cmp a b) e

pub then_equal : (p q : Ordering) → ordering_then p q ≡ Equal → (p ≡ Equal) × (q ≡ Equal)
then_equal Less q e = absurd (cc)
then_equal Equal q e = (refl, e)
then_equal Greater q e = absurd (cc)

neither_before : (o : Ordering) → is_lt o ≡ false → is_lt (ordering_reverse o) ≡ false → o ≡ Equal
neither_before Less p q = absurd (true≢false p)
neither_before Equal p q = refl
neither_before Greater p q = absurd (true≢false q)

due_path : {a b : Due} → a.time ≡ b.time → a.key ≡ b.key → a ≡ b
due_path p q = λ i. record { time = p i; key = q i }

-- two timers of which neither comes before the other are one
pub same_due : (a b : Due) → is_lt (due_cmp a b) ≡ false → is_lt (due_cmp b a) ≡ false → a ≡ b
same_due a b p q =
    let level : due_cmp a b ≡ Equal = neither_before (due_cmp a b) p (ap is_lt (sym (due_total.antisymm b a)) ∙ q) in
    let both : (int_cmp a.time b.time ≡ Equal) × (key_cmp a.key b.key ≡ Equal) = then_equal (int_cmp a.time b.time) (key_cmp a.key b.key) level in
    due_path (exact_signed a.time b.time both.0) (exact_bytes a.key b.key both.1)

-- what a key fires with: its first time, which is due
pub record IsOwn (w : ℤ) (n : ℕ) (k : Key) (times : List ℤ) (d : Due) : Type 0 where
  pub key : d.key ≡ k
  pub some_left : 0 < n
  pub due : due_of w k times ≡ Some d

due_of_key : (w : ℤ) (k : Key) (times : List ℤ) (d : Due) → due_of w k times ≡ Some d → d.key ≡ k
due_of_key w k [] d e = absurd (cc)
due_of_key w k (t ∷ ts) d e = of (int_le t w) e
  where
    of : (b : Bool) → cond b (Some (record { time = t; key = k })) None ≡ Some d → d.key ≡ k
    of true e = let same : record { time = t; key = k } ≡ d = cc in sym (ap (λ (x : Due). x.key) same)
    of false e = absurd (cc)

pub candidate_own : (w : ℤ) (n : ℕ) (k : Key) (s : KeyState) (d : Due) → candidate w n k s ≡ Some d → IsOwn w n k s.times d
candidate_own w zero k s d e = absurd (cc)
candidate_own w (suc n) k s d e = record { key = due_of_key w k s.times d e; some_left = omega arith; due = e }

pub candidate_is : (w : ℤ) (n : ℕ) (k : Key) (s : KeyState) (d : Due) → 0 < n → due_of w k s.times ≡ Some d → candidate w n k s ≡ Some d
candidate_is w zero k s d some e = absurd (omega arith)
candidate_is w (suc n) k s d some e = e

-- a key that has one firing less, and the others
pub one_less_own : (more : Key → ℕ) (k : Key) → one_less more k k ≡ more k - 1
one_less_own more k = cond-true (bytes_eq k k) (more k - 1) (more k) (same_key k)

pub one_less_other : (more : Key → ℕ) (k q : Key) → bytes_eq k q ≡ false → one_less more k q ≡ more q
one_less_other more k q h = cond-false (bytes_eq k q) (more q - 1) (more q) h

same_some : {a b : Due} → Some a ≡ Some b → a ≡ b
same_some e = cc

-- d is one of two timers, and neither comes before it
record IsLeast (o q : Option Due) (d : Due) : Type 0 where
  one : (o ≡ Some d) ⊎ (q ≡ Some d)
  first : (c : Due) → (o ≡ Some c) ⊎ (q ≡ Some c) → is_lt (due_cmp c d) ≡ false

compared : {a b c d : Due} → a ≡ c → b ≡ d → is_lt (due_cmp a b) ≡ false → is_lt (due_cmp c d) ≡ false
compared p q e = ap₂ (λ (x y : Due). is_lt (due_cmp x y)) (sym p) (sym q) ∙ e

level : (c d : Due) → Some c ≡ Some d → is_lt (due_cmp c d) ≡ false
level c d e = compared refl (same_some e) (not_before_itself c)

least_of_two : (a b d : Due) (t : Bool) → is_lt (due_cmp b a) ≡ t → cond t (Some b) (Some a) ≡ Some d → IsLeast (Some a) (Some b) d
least_of_two a b d true h e = record {
  one = inr e;
  first = λ c. ⊎_elim (λ x. compared (same_some x) (same_some e) (not_both_before b a h)) (λ x. level c d (sym x ∙ e));
}
least_of_two a b d false h e = record {
  one = inl e;
  first = λ c. ⊎_elim (λ x. level c d (sym x ∙ e)) (λ x. compared (same_some x) (same_some e) h);
}

earlier_least : (o q : Option Due) (d : Due) → earlier o q ≡ Some d → IsLeast o q d
earlier_least None q d e = record { one = inr e; first = λ c. ⊎_elim (λ x. absurd (cc x)) (λ x. level c d (sym x ∙ e)) }
earlier_least (Some a) None d e = record { one = inl e; first = λ c. ⊎_elim (λ x. level c d (sym x ∙ e)) (λ x. absurd (cc x)) }
earlier_least (Some a) (Some b) d e = least_of_two a b d (is_lt (due_cmp b a)) refl e

earlier_none : (o q : Option Due) → earlier o q ≡ None → (o ≡ None) × (q ≡ None)
earlier_none None q e = (refl, e)
earlier_none (Some a) None e = absurd (cc)
earlier_none (Some a) (Some b) e = of (is_lt (due_cmp b a)) e
  where
    of : (t : Bool) → cond t (Some b) (Some a) ≡ None → (Some a ≡ None) × (Some b ≡ None)
    of true e = absurd (cc)
    of false e = absurd (cc)

-- where nothing fires next, none of the keys has a timer with which it may fire
pub next_none : (w : ℤ) (keys : List Key) (more : Key → ℕ) (map : Key → KeyState) → next_due w keys more map ≡ None
    → (k : Key) → list_any (bytes_eq k) keys ≡ true → candidate w (more k) k (map k) ≡ None
next_none w [] more map e k h = absurd (true≢false (sym h))
next_none w (j ∷ ks) more map e k h =
    let both : (candidate w (more j) j (map j) ≡ None) × (next_due w ks more map ≡ None) = earlier_none (candidate w (more j) j (map j)) (next_due w ks more map) e in
    ⊎_elim (λ x. subst (λ (i : Key). candidate w (more i) i (map i) ≡ None) (sym x) both.0) (λ x. next_none w ks more map both.1 k x) (among k j ks h)

-- and the other way round
pub next_none_is : (w : ℤ) (keys : List Key) (more : Key → ℕ) (map : Key → KeyState)
    → ((k : Key) → list_any (bytes_eq k) keys ≡ true → candidate w (more k) k (map k) ≡ None) → next_due w keys more map ≡ None
next_none_is w [] more map h = refl
next_none_is w (j ∷ ks) more map h =
    ap₂ earlier (h j (has_head j j ks refl)) (next_none_is w ks more map (λ k e. h k (has_tail k j ks e)))

-- d is the timer of one of the keys with which it may fire, and no such timer of these keys comes before it
pub record IsNext (w : ℤ) (keys : List Key) (more : Key → ℕ) (map : Key → KeyState) (d : Due) : Type 0 where
  pub known : list_any (bytes_eq d.key) keys ≡ true
  pub own : candidate w (more d.key) d.key (map d.key) ≡ Some d
  pub first : (k : Key) (c : Due) → list_any (bytes_eq k) keys ≡ true → candidate w (more k) k (map k) ≡ Some c → is_lt (due_cmp c d) ≡ false

none_or_some : (o : Option Due) → (o ≡ None) ⊎ ((d : Due) × (o ≡ Some d))
none_or_some None = inl refl
none_or_some (Some d) = inr (d, refl)

-- a timer of the further keys doesn't come before the least of all
rest_not_before : (w : ℤ) (ks : List Key) (more : Key → ℕ) (map : Key → KeyState) (o : Option Due) (d : Due) → IsLeast o (next_due w ks more map) d
    → ((b : Due) → next_due w ks more map ≡ Some b → IsNext w ks more map b)
    → (k : Key) (c : Due) → list_any (bytes_eq k) ks ≡ true → candidate w (more k) k (map k) ≡ Some c → is_lt (due_cmp c d) ≡ false
rest_not_before w ks more map o d least found k c h e = ⊎_elim
    (λ x. let none : candidate w (more k) k (map k) ≡ None = next_none w ks more map x k h in absurd (cc))
    (λ x. not_before c x.0 d ((found x.0 x.1).first k c h e) (least.first x.0 (inr x.1)))
    (none_or_some (next_due w ks more map))

next_of : (w : ℤ) (j : Key) (ks : List Key) (more : Key → ℕ) (map : Key → KeyState) (d : Due) → IsLeast (candidate w (more j) j (map j)) (next_due w ks more map) d
    → ((b : Due) → next_due w ks more map ≡ Some b → IsNext w ks more map b) → IsNext w (j ∷ ks) more map d
next_of w j ks more map d least found =
    let before : (k : Key) (c : Due) → list_any (bytes_eq k) (j ∷ ks) ≡ true → candidate w (more k) k (map k) ≡ Some c → is_lt (due_cmp c d) ≡ false = (λ k c h e. ⊎_elim
    (λ x. least.first c (inl (subst (λ (i : Key). candidate w (more i) i (map i) ≡ Some c) x e)))
    (λ x. rest_not_before w ks more map (candidate w (more j) j (map j)) d least found k c x e)
    (among k j ks h)) in
    ⊎_elim
    (λ x. let own : IsOwn w (more j) j (map j).times d = candidate_own w (more j) j (map j) d x in
    record { known = has_head d.key j ks own.key; own = subst (λ (i : Key). candidate w (more i) i (map i) ≡ Some d) (sym own.key) x; first = before })
    (λ x. let it : IsNext w ks more map d = found d x in
    record { known = has_tail d.key j ks it.known; own = it.own; first = before })
    least.one

-- what fires next
pub next_found : (w : ℤ) (keys : List Key) (more : Key → ℕ) (map : Key → KeyState) (d : Due) → next_due w keys more map ≡ Some d → IsNext w keys more map d
next_found w [] more map d e = absurd (cc)
next_found w (j ∷ ks) more map d e =
    next_of w j ks more map d (earlier_least (candidate w (more j) j (map j)) (next_due w ks more map) d e) (λ b. next_found w ks more map b)

-- and the other way round
pub next_is : (w : ℤ) (keys : List Key) (more : Key → ℕ) (map : Key → KeyState) (d : Due) → IsNext w keys more map d → next_due w keys more map ≡ Some d
next_is w keys more map d it = ⊎_elim
    (λ x. let none : candidate w (more d.key) d.key (map d.key) ≡ None = next_none w keys more map x d.key it.known in absurd (cc (it.own)))
    (λ x. let other : IsNext w keys more map x.0 = next_found w keys more map x.0 x.1 in
    x.1 ∙ ap (λ (a : Due). Some a) (same_due x.0 d (it.first x.0.key x.0 other.known other.own) (other.first d.key d it.known it.own)))
    (none_or_some (next_due w keys more map))

-- how many firings are left
pub total_most : (keys : List Key) (n : ℕ) → total keys (λ k. n) ≤ n * length keys
total_most [] n = omega arith
total_most (k ∷ ks) n = omega (arith, total_most ks n)

pub in_total : (keys : List Key) (more : Key → ℕ) (k : Key) → list_any (bytes_eq k) keys ≡ true → more k ≤ total keys more
in_total [] more k e = absurd (true≢false (sym e))
in_total (j ∷ ks) more k e = ⊎_elim
    (λ x. let same : more k ≡ more j = ap more x in omega arith)
    (λ x. omega (arith, in_total ks more k x))
    (among k j ks e)

less_if : (b : Bool) (n : ℕ) → cond b (n - 1) n ≤ n
less_if true n = omega arith
less_if false n = omega arith

total_le : (keys : List Key) (more : Key → ℕ) (j : Key) → total keys (one_less more j) ≤ total keys more
total_le [] more j = omega arith
total_le (k ∷ ks) more j = omega (arith, less_if (bytes_eq j k) (more k), total_le ks more j)

pub total_lt : (keys : List Key) (more : Key → ℕ) (j : Key) → list_any (bytes_eq j) keys ≡ true → 0 < more j → total keys (one_less more j) < total keys more
total_lt [] more j e h = absurd (true≢false (sym e))
total_lt (k ∷ ks) more j e h = ⊎_elim
    (λ x. let here : one_less more j k ≡ more k - 1 = cond-true (bytes_eq j k) (more k - 1) (more k) ((bytes_eq-Decides j k).1 x) in
    let same : more j ≡ more k = ap more x in omega (arith, total_le ks more j))
    (λ x. omega (arith, less_if (bytes_eq j k) (more k), total_lt ks more j x h))
    (among j k ks e)

-- with enough fuel, the timer that is next fires, and there is enough for what is left
pub fire_all_next : (p : Program) (fuel : ℕ) (more : Key → ℕ) (s : Plain) (d : Due) → next_due s.wm s.keys more s.map ≡ Some d → total s.keys more ≤ fuel
    → (less : ℕ) × (fire_all p fuel more s ≡ fire_all p less (one_less more d.key) (fire p d s)) × (total s.keys (one_less more d.key) ≤ less)
fire_all_next p fuel more s d e enough = of fuel enough
  where
    it : IsNext s.wm s.keys more s.map d
    it = next_found s.wm s.keys more s.map d e

    left : 0 < more d.key
    left = (candidate_own s.wm (more d.key) d.key (s.map d.key) d it.own).some_left

    fewer : total s.keys (one_less more d.key) < total s.keys more
    fewer = total_lt s.keys more d.key it.known left

    of : (fuel : ℕ) → total s.keys more ≤ fuel
        → (less : ℕ) × (fire_all p fuel more s ≡ fire_all p less (one_less more d.key) (fire p d s)) × (total s.keys (one_less more d.key) ≤ less)
    of zero enough = absurd (omega (arith, fewer))
    of (suc n) enough = (n, ap (λ (o : Option Due). fire_next p (fire_all p n) o more s) e, omega (arith, fewer))

-- and where none is next, all is as it was
pub fire_all_end : (p : Program) (fuel : ℕ) (more : Key → ℕ) (s : Plain) → next_due s.wm s.keys more s.map ≡ None → fire_all p fuel more s ≡ s
fire_all_end p zero more s e = refl
fire_all_end p (suc n) more s e = ap (λ (o : Option Due). fire_next p (fire_all p n) o more s) e
