-- The least free slot: no greater than the number of slots in use.
use Rattle.std.proofs.Common.{◌≡◌, ◌≢◌, ◌∙◌, ℕ, zero, suc, ◌+◌, ◌≤◌, ◌<◌, length, List, [], ◌∷◌, Bool, true, false, nat_eq, if◌then◌else◌, refl, sym, ap, subst, arith}
use Rattle.std.proofs.lemmas.Bool.{both_ways, eqb-true, eq-eqb}
use Rattle.ax_text.specs.Prints.{has}
use Rattle.ax_text.specs.Controls.{free_from, total, least_free}
use Rattle.ax_text.proofs.Keeps.{by_cases}
use Rattle.ax_text.proofs.Steps.{mem_le}

-- each slot below one is in use
abbrev pub Filled : ℕ → List ℕ → Type 0
Filled n used = (m : ℕ) → m < n → has m used ≡ true

abbrev remove : ℕ → List ℕ → List ℕ
remove x [] = []
remove x (y ∷ ys) = if nat_eq x y then ys else y ∷ remove x ys

nothing : {A : Type 0} → false ≡ true → A
nothing h = absurd (cc h)

length_remove : (x : ℕ) (ys : List ℕ) → has x ys ≡ true → suc (length (remove x ys)) ≡ length ys
length_remove x [] h = nothing h
length_remove x (y ∷ ys) h = by_cases (nat_eq x y) (λ e. rw e refl) (λ e. rw e (ap suc (length_remove x ys (rw e at h))))

has_remove : (m x : ℕ) (ys : List ℕ) → m < x → has m ys ≡ true → has m (remove x ys) ≡ true
has_remove m x [] l h = nothing h
has_remove m x (y ∷ ys) l h = by_cases (nat_eq x y)
    (λ e. rw e (by_cases (nat_eq m y)
    (λ d. absurd (let p : x ≡ y = eqb-true x y e in let q : m ≡ y = eqb-true m y d in omega arith))
    (λ d. rw d at h)))
    (λ e. rw e (by_cases (nat_eq m y) (λ d. rw d refl) (λ d. rw d (has_remove m x ys l (rw d at h)))))

-- slots in use below n are at least n
pub filled_length : (n : ℕ) (used : List ℕ) → Filled n used → n ≤ length used
filled_length zero used h = omega arith
filled_length (suc n) used h =
    let here : has n used ≡ true = h n (omega arith) in
    let e : suc (length (remove n used)) ≡ length used = length_remove n used here in
    let r : n ≤ length (remove n used) = filled_length n (remove n used) (λ m l. has_remove m n used l (h m (omega arith))) in
    omega arith

free_is : (more n : ℕ) (used : List ℕ) (s : ℕ) → n ≤ s → s ≤ n + more → ((m : ℕ) → n ≤ m → m < s → has m used ≡ true) → has s used ≡ false → free_from more n used ≡ s
free_is zero n used s a b h g = omega arith
free_is (suc more) n used s a b h g = by_cases (has n used)
    (λ e. rw e (free_is more (suc n) used s (let d : n ≢ s = λ q. both_ways (has n used) (ap (λ (i : ℕ). has i used) q ∙ g) e in omega arith) (omega arith) (λ m c l. h m (omega arith) l) g))
    (λ e. rw e (by_place (nat_eq n s) refl e))
  where
    by_place : (x : Bool) → nat_eq n s ≡ x → has n used ≡ false → n ≡ s
    by_place true q e = eqb-true n s q
    by_place false q e = absurd (let d : n ≢ s = λ p. both_ways (nat_eq n s) q (eq-eqb n s p) in both_ways (has n used) e (h n (omega arith) (omega arith)))

pub least_is : (used : List ℕ) (s : ℕ) → Filled s used → has s used ≡ false → s ≡ least_free used
unfolding least_free
least_is used s h g = sym (free_is (suc (total used)) 0 used s (omega arith) (low s h) (λ m a l. h m l) g) where
  low : (i : ℕ) → Filled i used → i ≤ 0 + suc (total used)
  low zero f = omega arith
  low (suc i) f = let r : i ≤ total used = mem_le i used (f i (omega arith)) in omega arith

pub filled_more : (n : ℕ) (used : List ℕ) → Filled n used → has n used ≡ true → Filled (suc n) used
filled_more n used f h m l = by_cases (nat_eq m n) (λ e. subst (λ (i : ℕ). has i used ≡ true) (sym (eqb-true m n e)) h) (λ e. f m (let d : m ≢ n = λ q. both_ways (nat_eq m n) e (eq-eqb m n q) in omega arith))

pub filled_none : (used : List ℕ) → Filled 0 used
filled_none used m l = absurd (omega arith)

free_filled : (more n : ℕ) (used : List ℕ) → Filled n used → Filled (free_from more n used) used
free_filled zero n used f = f
free_filled (suc more) n used f = by_cases (has n used) (λ e. rw e (free_filled more (suc n) used (filled_more n used f e))) (λ e. rw e f)

-- all slots below the least free one are in use
pub least_filled : (used : List ℕ) → Filled (least_free used) used
unfolding least_free
least_filled used = free_filled (suc (total used)) 0 used (filled_none used)

-- so it is no greater than the number of those in use
pub least_low : (used : List ℕ) → least_free used ≤ length used
least_low used = filled_length (least_free used) used (least_filled used)
