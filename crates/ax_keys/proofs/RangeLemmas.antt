-- Each group has one range, and the ranges cut the groups.
use Rattle.std.proofs.Common.{◌≡◌, ℕ, ◌+◌, ◌-◌, ◌*◌, ◌/◌, ◌<◌, ◌≤◌, sym, ap, arith}
use Rattle.std.proofs.Math.Nat.{div-mul-le_self, lt-div-mul-add, div-eq_of_lt-le}
use Rattle.std.proofs.lemmas.Nat.{le-div, div_below, mul-le}
use Rattle.ax_keys.specs.Groups.{index_of_group, first_of_index, last_of_index, HasOwnRange, AreWhole, IsFollowed, HasNoOther}

first_at_most : (g i m p : ℕ) → 1 ≤ p → i * m ≤ g * p → first_of_index i m p ≤ g
first_at_most g i m p some h =
    let below : (i * m + p - 1) / p < g + 1 = div_below (i * m + p - 1) p (g + 1) (omega arith) (omega arith) in
    omega arith

first_times : (g i m p : ℕ) → 1 ≤ p → first_of_index i m p ≤ g → i * m ≤ g * p
first_times g i m p some h =
    let more : i * m + p - 1 < (i * m + p - 1) / p * p + p = lt-div-mul-add (omega arith) in
    let up : (i * m + p - 1) / p * p ≤ g * p = mul-le ((i * m + p - 1) / p) p g p h (omega arith) in
    omega arith

last_at_least : (g i m p : ℕ) → 1 ≤ p → g * p < (i + 1) * m → g ≤ last_of_index i m p
last_at_least g i m p some h = le-div g ((i + 1) * m - 1) p (omega arith) (omega arith)

last_times : (g i m p : ℕ) → 1 ≤ m → g ≤ last_of_index i m p → g * p < (i + 1) * m
last_times g i m p some h =
    let less : ((i + 1) * m - 1) / p * p ≤ (i + 1) * m - 1 = div-mul-le_self ((i + 1) * m - 1) p in
    let up : g * p ≤ ((i + 1) * m - 1) / p * p = mul-le g p (((i + 1) * m - 1) / p) p h (omega arith) in
    omega arith

pub index_below : (g m p : ℕ) → 1 ≤ m → 1 ≤ p → g < m → index_of_group g m p < p
index_below g m p some parts small =
    let up : (g + 1) * p ≤ m * p = mul-le (g + 1) p m p (omega arith) (omega arith) in
    div_below (g * p) m p (omega arith) (omega arith)

pub first_to_last : (i m p : ℕ) → 1 ≤ p → p ≤ m → first_of_index i m p ≤ last_of_index i m p
first_to_last i m p parts most =
    let less : (i * m + p - 1) / p * p ≤ i * m + p - 1 = div-mul-le_self (i * m + p - 1) p in
    last_at_least ((i * m + p - 1) / p) i m p parts (omega arith)

pub has_own_range : (g m p : ℕ) → HasOwnRange g m p
has_own_range g m p cut small =
    let low : g * p / m * m ≤ g * p = div-mul-le_self (g * p) m in
    let high : g * p < g * p / m * m + m = lt-div-mul-add (omega arith) in
    (index_below g m p cut.0.0 cut.1 small, (first_at_most g (g * p / m) m p cut.1 low, last_at_least g (g * p / m) m p cut.1 (omega arith)))

pub has_no_other : (g i m p : ℕ) → HasNoOther g i m p
has_no_other g i m p cut small part in_range =
    sym (div-eq_of_lt-le m (first_times g i m p cut.1 in_range.0) (last_times g i m p cut.0.0 in_range.1))

pub is_followed : (i m p : ℕ) → IsFollowed i m p
is_followed i m p cut part =
    let low : ((i + 1) * m - 1) / p * p ≤ (i + 1) * m - 1 = div-mul-le_self ((i + 1) * m - 1) p in
    let high : (i + 1) * m - 1 < ((i + 1) * m - 1) / p * p + p = lt-div-mul-add (omega arith) in
    (first_to_last i m p cut.1 cut.2, div-eq_of_lt-le p (omega arith) (omega arith))

one_more : (k n : ℕ) → (k + 1) * n ≡ k * n + n
one_more k n = omega arith

same_again : (n k : ℕ) → 1 ≤ n → (n - 1 + 1) * k ≡ n * k
same_again n k some = ap (λ q. q * k) (omega arith)

pub are_whole : (m p : ℕ) → AreWhole m p
are_whole m p cut =
    let begin : (0 * m + p - 1) / p < 1 = div_below (0 * m + p - 1) p 1 (omega arith) (omega arith) in
    let parts : (p - 1 + 1) * m ≡ p * m = same_again p m cut.1 in
    let groups : (m - 1 + 1) * p ≡ m * p = same_again m p cut.0.0 in
    let less : (m - 1 + 1) * p ≡ (m - 1) * p + p = one_more (m - 1) p in
    (omega arith, div-eq_of_lt-le p (omega arith) (omega arith))
