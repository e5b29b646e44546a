-- The value of digits, capped.
use Rattle.std.proofs.Common.{◌≡◌, ℕ, ◌+◌, ◌-◌, ◌*◌, ◌/◌, ◌%◌, ◌^◌, ◌<◌, ◌≤◌, zero, suc, Option, Some, None, true, false, cond, length, get_or, drop, min, List, [], ◌∷◌, ◌++◌, refl, sym, ap, ◌∙◌, subst, arith}
use Rattle.std.proofs.lemmas.List.{at_drop_more, length-append}
use Rattle.std.proofs.lemmas.List.Folds.{list_all-append}
use Rattle.std.proofs.lemmas.Fmt.{decimal_by_steps}
use Rattle.std.proofs.lemmas.Bool.{leb-true, lt-ltb}
use Rattle.std.proofs.lemmas.Bool.Decides.{nat_tests}
use Rattle.std.proofs.lemmas.Option.{none-some}
use Rattle.std.specs.Fmt.{decimal, signed_decimal}
use Rattle.std.specs.List.{list_all}
use Rattle.std.specs.Prelude.{◌&&◌, Bool, ℤ, pos, negsuc, neg_ℤ, nat_lt, nat_le, ◌==◌, if◌then◌else◌}
use lib.Signed.{mag}
use Rattle.ax_base.specs.Numbers.{value_from, is_digit, are_digits, is_number, unsigned_by, positive, negative, number_of}

-- a number may be capped before the digits that follow it
pub min-value_from-min : (cap m : ℕ) (bs : List ℕ) → min (value_from (min m cap) bs) cap ≡ min (value_from m bs) cap
min-value_from-min cap m [] = omega arith
min-value_from-min cap m (b ∷ bs) =
    sym (min-value_from-min cap (10 * min m cap + (b - 48)) bs)
    ∙ ap (λ k. min (value_from k bs) cap) (omega arith)
    ∙ min-value_from-min cap (10 * m + (b - 48)) bs

-- one digit on
pub value_more : (cap : ℕ) (xs : List ℕ) (i n r : ℕ) → i < length xs → r ≡ min (10 * n + (get_or xs i 0 - 48)) cap → min (value_from r (drop (i + 1) xs)) cap ≡ min (value_from n (drop i xs)) cap
value_more cap xs i n r h e =
    ap (λ k. min (value_from k (drop (i + 1) xs)) cap) e
    ∙ min-value_from-min cap (10 * n + (get_or xs i 0 - 48)) (drop (i + 1) xs)
    ∙ sym (at_drop_more (λ s. min (value_from n s) cap) xs i 0 h)

pub digits_more : (xs : List ℕ) (i : ℕ) → i < length xs → is_digit (get_or xs i 0) ≡ true → list_all is_digit (drop (i + 1) xs) ≡ list_all is_digit (drop i xs)
digits_more xs i h e = sym (at_drop_more (list_all is_digit) xs i 0 h ∙ ap (λ t. t && list_all is_digit (drop (i + 1) xs)) e)

-- digits, whose value is this number
pub record Spells (n : ℕ) (ds : List ℕ) : Type 0 where
  pub some : 0 < length ds
  pub digits : list_all is_digit ds ≡ true
  pub value : value_from 0 ds ≡ n

value_from_last : (n c : ℕ) (ds : List ℕ) → value_from n (ds ++ c ∷ []) ≡ 10 * value_from n ds + (c - 48)
value_from_last n c [] = refl
value_from_last n c (d ∷ ds) = value_from_last (10 * n + (d - 48)) c ds

last_digit : (n : ℕ) → n < 10 → is_digit (48 + n) ≡ true
last_digit n h = grind (arith, nat_tests)

spells_one : (n : ℕ) → n < 10 → Spells n ((48 + n) ∷ [])
spells_one n h = record { some = omega arith; digits = ap (λ t. t && true) (last_digit n h); value = omega arith }

spells_more : (n : ℕ) (ds : List ℕ) → 10 ≤ n → Spells (n / 10) ds → Spells n (ds ++ ((48 + n % 10) ∷ []))
spells_more n ds h s = record {
  some = omega (arith, length-append ds ((48 + n % 10) ∷ []), s.some);
  digits = list_all-append is_digit ds ((48 + n % 10) ∷ []) ∙ ap (λ t. t && (is_digit (48 + n % 10) && true)) s.digits ∙ ap (λ t. t && true) (last_digit (n % 10) (omega arith));
  value = value_from_last 0 (48 + n % 10) ds ∙ ap (λ v. 10 * v + (48 + n % 10 - 48)) s.value ∙ omega arith;
}

pub Spells-decimal : (n : ℕ) → n < 2 ^ 64 → Spells n (decimal n)
Spells-decimal n h = decimal_by_steps Spells spells_one spells_more n h

unsigned-spelled : (f : ℕ → Option ℤ) (n : ℕ) (ds : List ℕ) → Spells n ds → unsigned_by f ds ≡ f n
unsigned-spelled f n [] s = absurd (omega (arith, s.some))
unsigned-spelled f n (b ∷ bs) s = ap (λ t. cond t (f (value_from 0 (b ∷ bs))) None) s.digits ∙ ap f s.value

no_minus : (b : ℕ) (bs : List ℕ) → list_all is_digit (b ∷ bs) ≡ true → (b == 45) ≡ false
no_minus b bs e = grind (arith, nat_tests)

number_of-spelled : (n : ℕ) (ds : List ℕ) → n < 2 ^ 63 → Spells n ds → number_of ds ≡ Some (pos n)
number_of-spelled n [] small s = absurd (omega (arith, s.some))
number_of-spelled n (b ∷ bs) small s =
    let fits : nat_lt n (2 ^ 63) ≡ true = grind (arith, nat_tests) in
    ap (λ t. cond t (unsigned_by negative bs) (unsigned_by positive (b ∷ bs))) (no_minus b bs s.digits)
    ∙ unsigned-spelled positive n (b ∷ bs) s
    ∙ ap (λ t. cond t (Some (pos n)) None) fits

-- the text of a number of 64 bits spells it
pub number_of-signed_decimal : (n : ℤ) → mag n < 2 ^ 63 → number_of (signed_decimal n) ≡ Some n
number_of-signed_decimal (pos n) small = number_of-spelled n (decimal n) small (Spells-decimal n (omega arith))
number_of-signed_decimal (negsuc n) small =
    let fits : nat_le (suc n) (2 ^ 63) ≡ true = grind (arith, nat_tests) in
    unsigned-spelled negative (suc n) (decimal (suc n)) (Spells-decimal (suc n) (omega arith))
    ∙ ap (λ t. cond t (Some (negsuc n)) None) fits

positive_fits : (n : ℕ) (z : ℤ) → positive n ≡ Some z → is_number z ≡ true
positive_fits n z h = cases (nat_lt n (2 ^ 63)) refl h where
  cases : (b : Bool) → nat_lt n (2 ^ 63) ≡ b → (if b then Some (pos n) else None) ≡ Some z → is_number z ≡ true
  cases true e g = subst (λ (o : Option ℤ). elim o as (λ o. Type 0) [ None ↦ Unit {0} | Some y ↦ is_number y ≡ true ]) g e
  cases false e g = absurd (none-some z g)

below_least : (n : ℕ) → nat_le n (2 ^ 63) ≡ true → is_number (neg_ℤ (pos n)) ≡ true
below_least zero h = refl
below_least (suc n) h = let low : suc n ≤ 2 ^ 63 = leb-true (suc n) (2 ^ 63) h in lt-ltb n (2 ^ 63) (omega arith)

negative_fits : (n : ℕ) (z : ℤ) → negative n ≡ Some z → is_number z ≡ true
negative_fits n z h = cases (nat_le n (2 ^ 63)) refl h where
  cases : (b : Bool) → nat_le n (2 ^ 63) ≡ b → (if b then Some (neg_ℤ (pos n)) else None) ≡ Some z → is_number z ≡ true
  cases true e g = subst (λ (o : Option ℤ). elim o as (λ o. Type 0) [ None ↦ Unit {0} | Some y ↦ is_number y ≡ true ]) g (below_least n e)
  cases false e g = absurd (none-some z g)

unsigned_fits : (f : ℕ → Option ℤ) (bs : List ℕ) (z : ℤ) → ((n : ℕ) → f n ≡ Some z → is_number z ≡ true) → unsigned_by f bs ≡ Some z → is_number z ≡ true
unsigned_fits f bs z g h = cases (are_digits bs) h where
  cases : (b : Bool) → (if b then f (value_from 0 bs) else None) ≡ Some z → is_number z ≡ true
  cases true e = g (value_from 0 bs) e
  cases false e = absurd (none-some z e)

-- a word spells a number of 64 bits
pub number_fits : (w : List ℕ) (z : ℤ) → number_of w ≡ Some z → is_number z ≡ true
number_fits [] z h = absurd (none-some z h)
number_fits (b ∷ bs) z h = cases (b == 45) h where
  cases : (t : Bool) → (if t then unsigned_by negative bs else unsigned_by positive (b ∷ bs)) ≡ Some z → is_number z ≡ true
  cases true e = unsigned_fits negative bs z (λ n. negative_fits n z) e
  cases false e = unsigned_fits positive (b ∷ bs) z (λ n. positive_fits n z) e
