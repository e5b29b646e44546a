-- Values of expressions have 64 bits.
use Rattle.std.proofs.Common.{◌≡◌, refl, sym, subst, ℕ, zero, suc, ◌/◌, ◌^◌, ◌<◌, ◌≤◌, ℤ, pos, negsuc, neg_ℤ, ◌+ℤ◌, ◌-ℤ◌, ◌*ℤ◌, int_div, int_rem, unsigned_abs, Bool, true, false, if◌then◌else◌, List, [], ◌∷◌, slice_index_or, w64, Fits, SFits, to_z, of_z, arith}
use Rattle.std.specs.List.{list_all}
use Rattle.std.specs.Int.{int_wrap, int_wrapping_add, int_wrapping_sub, int_wrapping_mul, int_wrapping_div}
use Rattle.std.specs.Ordering.{int_eq}
use Rattle.std.proofs.Math.Facts.{sfits_to_z}
use Rattle.std.proofs.Math.Nat.{div-le_self}
use Rattle.std.proofs.lemmas.Int.{wrapping_add_is, wrapping_sub_is, wrapping_mul_is, SFits-int_wrap, rem_below}
use Rattle.std.proofs.lemmas.Bool.{and_parts, lt-ltb, ltb-true}
use Rattle.ax_base.specs.Numbers.{is_number}
use Rattle.ax_text.specs.declared.vocabulary.Op.{Op}
use Rattle.ax_text.specs.declared.vocabulary.Op.TheVariants as op
use Rattle.ax_text.specs.declared.vocabulary.Atom.{Atom}
use Rattle.ax_text.specs.declared.vocabulary.Atom.TheVariants as atom
use Rattle.ax_text.specs.Exprs.{Expr, Leaf, Join, Facts, Names, flag, apply_op, atom_value, value}
use Rattle.ax_text.specs.Valid.{atom_fits, expr_fits}

sfits_of : (z : ℤ) → is_number z ≡ true → SFits w64 z
sfits_of (pos n) h = record { sfits = ltb-true n (2 ^ 63) h }
sfits_of (negsuc n) h = record { sfits = ltb-true n (2 ^ 63) h }

number_of_sfits : (z : ℤ) → SFits w64 z → is_number z ≡ true
number_of_sfits (pos n) h = lt-ltb n (2 ^ 63) h.sfits
number_of_sfits (negsuc n) h = lt-ltb n (2 ^ 63) h.sfits

small_number : (z : ℤ) → unsigned_abs z < 2 ^ 63 → is_number z ≡ true
small_number (pos n) h = lt-ltb n (2 ^ 63) h
small_number (negsuc n) h = let low : suc n < 2 ^ 63 = h in lt-ltb n (2 ^ 63) (omega arith)

wrapped : (x y : ℤ) → x ≡ int_wrap w64 y → is_number x ≡ true
wrapped x y e = number_of_sfits x (subst (SFits w64) (sym e) (SFits-int_wrap w64 y))

-- how large a number is
abs_most : (z : ℤ) → is_number z ≡ true → unsigned_abs z ≤ 2 ^ 63
abs_most (pos n) h = let low : n < 2 ^ 63 = ltb-true n (2 ^ 63) h in omega arith
abs_most (negsuc n) h = let low : n < 2 ^ 63 = ltb-true n (2 ^ 63) h in omega arith

bits_fit : (z : ℤ) → unsigned_abs z ≤ 2 ^ 63 → Fits w64 (of_z w64 z)
bits_fit (pos n) h = let low : n ≤ 2 ^ 63 = h in record { fits = omega arith }
bits_fit (negsuc n) h = let low : suc n ≤ 2 ^ 63 = h in record { fits = omega arith }

abs_neg : (n : ℕ) → unsigned_abs (neg_ℤ (pos n)) ≡ n
abs_neg zero = refl
abs_neg (suc n) = refl

div_abs : (x y : ℤ) → unsigned_abs (int_div x y) ≤ unsigned_abs x
div_abs (pos a) (pos b) = div-le_self a b
div_abs (pos a) (negsuc b) = subst (λ (n : ℕ). n ≤ a) (sym (abs_neg (a / suc b))) (div-le_self a (suc b))
div_abs (negsuc a) (pos b) = subst (λ (n : ℕ). n ≤ suc a) (sym (abs_neg (suc a / b))) (div-le_self (suc a) b)
div_abs (negsuc a) (negsuc b) = div-le_self (suc a) (suc b)

div_number : (x y : ℤ) → is_number x ≡ true → is_number (int_wrapping_div w64 x y) ≡ true
div_number x y h =
    let a : unsigned_abs x ≤ 2 ^ 63 = abs_most x h in
    let b : unsigned_abs (int_div x y) ≤ unsigned_abs x = div_abs x y in
    number_of_sfits (to_z w64 (of_z w64 (int_div x y))) (sfits_to_z (bits_fit (int_div x y) (omega arith)))

either : (b : Bool) (n : ℤ) → is_number n ≡ true → is_number (if b then pos 0 else n) ≡ true
either true n h = refl
either false n h = h

-- zero or apart from it
if_zero : (y : ℤ) (n : ℤ) → (0 < unsigned_abs y → is_number n ≡ true) → is_number (if int_eq y (pos 0) then pos 0 else n) ≡ true
if_zero (pos zero) n h = refl
if_zero (pos (suc y)) n h = either (int_eq (pos (suc y)) (pos 0)) n (h (omega arith))
if_zero (negsuc y) n h = either (int_eq (negsuc y) (pos 0)) n (h (omega arith))

flag_number : (b : Bool) → is_number (flag b) ≡ true
flag_number true = refl
flag_number false = refl

op_number : (o : Op) (x y : ℤ) → is_number x ≡ true → is_number y ≡ true → is_number (apply_op o x y) ≡ true
unfolding apply_op
op_number op.Less x y h g = flag_number _
op_number op.AtMost x y h g = flag_number _
op_number op.Equal x y h g = flag_number _
op_number op.Differs x y h g = flag_number _
op_number op.AtLeast x y h g = flag_number _
op_number op.Greater x y h g = flag_number _
op_number op.Add x y h g = wrapped (int_wrapping_add w64 x y) (x +ℤ y) (wrapping_add_is w64 x y (sfits_of x h) (sfits_of y g))
op_number op.Subtract x y h g = wrapped (int_wrapping_sub w64 x y) (x -ℤ y) (wrapping_sub_is w64 x y (sfits_of x h) (sfits_of y g))
op_number op.Multiply x y h g = wrapped (int_wrapping_mul w64 x y) (x *ℤ y) (wrapping_mul_is w64 x y (sfits_of x h) (sfits_of y g))
op_number op.Divide x y h g = if_zero y (int_wrapping_div w64 x y) (λ low. div_number x y h)
op_number op.Remainder x y h g = if_zero y (int_rem x y) (λ low.
    let a : unsigned_abs (int_rem x y) < unsigned_abs y = rem_below x y low in
    let b : unsigned_abs y ≤ 2 ^ 63 = abs_most y g in
    small_number (int_rem x y) (omega arith))

-- what a handler knows has 64 bits
pub record AreNumbers (f : Facts) : Type 0 where
  pub time : is_number f.time ≡ true
  pub wm : is_number f.wm ≡ true
  pub values : list_all is_number f.values ≡ true

index_number : (xs : List ℤ) (i : ℕ) → list_all is_number xs ≡ true → is_number (slice_index_or xs i (pos 0)) ≡ true
index_number [] zero h = refl
index_number [] (suc i) h = refl
index_number (x ∷ xs) zero h = (and_parts (is_number x) (list_all is_number xs) h).0
index_number (x ∷ xs) (suc i) h = index_number xs i (and_parts (is_number x) (list_all is_number xs) h).1

atom_number : (fields locals : ℕ) (f : Facts) (names : Names) (a : Atom) → AreNumbers f → ((i : ℕ) → is_number (names i) ≡ true) → atom_fits fields locals a ≡ true → is_number (atom_value f names a) ≡ true
atom_number fields locals f names (atom.Number n) h g e = e
atom_number fields locals f names (atom.Name i) h g e = g i
atom_number fields locals f names (atom.Field i) h g e = index_number f.values i h.values
atom_number fields locals f names atom.Time h g e = h.time
atom_number fields locals f names atom.Watermark h g e = h.wm

pub value_number : (fields locals : ℕ) (f : Facts) (names : Names) (x : Expr) → AreNumbers f → ((i : ℕ) → is_number (names i) ≡ true) → expr_fits fields locals x ≡ true → is_number (value f names x) ≡ true
value_number fields locals f names (Leaf a) h g e = atom_number fields locals f names a h g e
value_number fields locals f names (Join o a b) h g e =
    let p = and_parts (expr_fits fields locals a) (expr_fits fields locals b) e in
    op_number o (value f names a) (value f names b) (value_number fields locals f names a h g p.0) (value_number fields locals f names b h g p.1)
