-- Numbers with their highest bit turned rise as the numbers do.
use Rattle.std.proofs.Common.{◌≡◌, ℕ, suc, ◌+◌, ◌-◌, ◌*◌, ◌^◌, ◌<◌, ◌≤◌, ℤ, pos, negsuc, [], Option, Some, None, refl, sym, ap, ◌∙◌, arith}
use Rattle.std.proofs.lemmas.Int.{ints}
use Rattle.std.proofs.lemmas.Nat.{from_be_bytes-to_be_bytes_8}
use Rattle.std.proofs.lemmas.Nat.Bits.{and_pow}
use Rattle.std.proofs.lemmas.Cmp.{int_ranked}
use Rattle.std.specs.Prelude.{◌+ℤ◌, ◌<ℤ◌, IfSome}
use Rattle.std.specs.Int.{w64, bit_at, to_be_bytes, from_be_bytes}
use Rattle.std.specs.Int.Bits.{bit_and, bit_xor, xor_add_and}
use Rattle.std.specs.Int.RustNames.{FitsSigned}
use Rattle.std.specs.Cmp.{nat_cmp_is}
use Rattle.std.specs.Cmp.Lexicographic.{slice_cmp}
use Rattle.std.specs.declared.cmp.Ordering.{Ordering}
use Rattle.std.specs.declared.cmp.Ordering.TheVariants.{Less, Equal, Greater}
use Rattle.std.specs.Ordering.{nat_cmp, int_cmp, MatchOrdering}
use Rattle.std.specs.Option.{option_cmp}
use Rattle.ax_serve.specs.CellKeys.{turned, entry_bytes}
use Rattle.ax_serve.proofs.ByteOrder.{by_longs}

set_bit : (x : ℕ) → x < 2 ^ 63 → bit_xor x (2 ^ 63) ≡ x + 2 ^ 63
set_bit x small =
    let a : bit_and x (2 ^ 63) ≡ bit_at x 63 * 2 ^ 63 = and_pow x 63 in
    let b : bit_at x 63 ≡ 0 = omega arith in
    let c : bit_xor x (2 ^ 63) + bit_and x (2 ^ 63) * 2 ≡ x + 2 ^ 63 = xor_add_and x (2 ^ 63) in
    omega arith

cleared_bit : (x : ℕ) → 2 ^ 63 ≤ x → x < 2 ^ 64 → bit_xor x (2 ^ 63) + 2 ^ 63 ≡ x
cleared_bit x large small =
    let a : bit_and x (2 ^ 63) ≡ bit_at x 63 * 2 ^ 63 = and_pow x 63 in
    let b : bit_at x 63 ≡ 1 = omega arith in
    let c : bit_xor x (2 ^ 63) + bit_and x (2 ^ 63) * 2 ≡ x + 2 ^ 63 = xor_add_and x (2 ^ 63) in
    omega arith

below_zero : (x n : ℕ) → n < 2 ^ 63 → x + 2 ^ 63 ≡ 2 ^ 64 - suc n → pos x ≡ negsuc n +ℤ pos (2 ^ 63)
below_zero x n small e = omega (arith, ints)

-- the least number is 0, and each other one as far from it
turned_at : (n : ℤ) → FitsSigned w64 n → pos (turned n) ≡ n +ℤ pos (2 ^ 63)
turned_at (pos n) fits = ap pos (set_bit n fits.sfits)
turned_at (negsuc n) fits =
    let small : n < 2 ^ 63 = fits.sfits in
    below_zero (turned (negsuc n)) n small (cleared_bit (2 ^ 64 - suc n) (omega arith) (omega arith))

turned_fits : (n : ℤ) → FitsSigned w64 n → turned n < 2 ^ 64
turned_fits (pos n) fits =
    let small : n < 2 ^ 63 = fits.sfits in
    let e : bit_xor n (2 ^ 63) ≡ n + 2 ^ 63 = set_bit n small in omega arith
turned_fits (negsuc n) fits =
    let small : n < 2 ^ 63 = fits.sfits in
    let e : bit_xor (2 ^ 64 - suc n) (2 ^ 63) + 2 ^ 63 ≡ 2 ^ 64 - suc n = cleared_bit (2 ^ 64 - suc n) (omega arith) (omega arith) in omega arith

rises : (x y : ℕ) (a b : ℤ) → pos x ≡ a +ℤ pos (2 ^ 63) → pos y ≡ b +ℤ pos (2 ^ 63) → a <ℤ b → x < y
rises x y a b e f less = omega (arith, ints)

one_number : (x y : ℕ) (a b : ℤ) → pos x ≡ a +ℤ pos (2 ^ 63) → pos y ≡ b +ℤ pos (2 ^ 63) → x ≡ y → a ≡ b
one_number x y a b e f same = omega (arith, ints)

turned_cmp : (a b : ℤ) → FitsSigned w64 a → FitsSigned w64 b → nat_cmp (turned a) (turned b) ≡ int_cmp a b
turned_cmp a b fits fit = sym (of (int_cmp a b) (int_ranked a b (int_cmp a b) refl))
  where
    of : (r : Ordering) → MatchOrdering r (a <ℤ b) (a ≡ b) (b <ℤ a) → r ≡ nat_cmp (turned a) (turned b)
    of Less h = nat_cmp_is (turned a) (turned b) Less (rises (turned a) (turned b) a b (turned_at a fits) (turned_at b fit) h)
    of Equal h = nat_cmp_is (turned a) (turned b) Equal (ap turned h)
    of Greater h = nat_cmp_is (turned a) (turned b) Greater (rises (turned b) (turned a) b a (turned_at b fit) (turned_at a fits) h)

-- entries compare by their bytes, behind a cell that is none
pub by_entries : (a b : Option ℤ) → IfSome a (FitsSigned w64) → IfSome b (FitsSigned w64) → slice_cmp nat_cmp (entry_bytes a) (entry_bytes b) ≡ option_cmp int_cmp a b
by_entries None None fits fit = refl
by_entries None (Some y) fits fit = refl
by_entries (Some x) None fits fit = refl
by_entries (Some x) (Some y) fits fit = by_longs (turned x) (turned y) (turned_fits x fits) (turned_fits y fit) ∙ turned_cmp x y fits fit

none_some : (n : ℕ) → [] ≡ to_be_bytes w64 n → ⊥
none_some n e = cc e

pub one_entry : (a b : Option ℤ) → IfSome a (FitsSigned w64) → IfSome b (FitsSigned w64) → entry_bytes a ≡ entry_bytes b → a ≡ b
one_entry None None fits fit e = refl
one_entry None (Some y) fits fit e = absurd (none_some (turned y) e)
one_entry (Some x) None fits fit e = absurd (none_some (turned x) (sym e))
one_entry (Some x) (Some y) fits fit e =
    let same : turned x ≡ turned y =
    sym (from_be_bytes-to_be_bytes_8 (turned x) (turned_fits x fits)) ∙ ap (from_be_bytes w64) e ∙ from_be_bytes-to_be_bytes_8 (turned y) (turned_fits y fit) in
    ap (λ (z : ℤ). Some z) (one_number (turned x) (turned y) x y (turned_at x fits) (turned_at y fit) same)
