-- How numbers compare by their bytes, the highest first.
use Rattle.std.proofs.Common.{◌≡◌, ℕ, zero, suc, ◌+◌, ◌*◌, ◌%◌, ◌^◌, ◌<◌, List, [], ◌++◌, inl, inr, refl, sym, ap, ap₂, ◌∙◌, arith}
use Rattle.std.proofs.lemmas.Bool.{cases_order}
use Rattle.std.proofs.lemmas.Nat.{mul-add-lt, mod_below}
use Rattle.std.proofs.Math.Arith.{mod-mul}
use Rattle.std.proofs.Math.Nat.{mul_comm, pow-suc}
use Rattle.std.specs.Cmp.{nat_cmp_is}
use Rattle.std.specs.declared.cmp.Ordering.{Ordering}
use Rattle.std.specs.declared.cmp.Ordering.TheVariants.{Less, Equal, Greater}
use Rattle.std.specs.Ordering.{nat_cmp, ordering_then}
use Rattle.std.specs.Cmp.Lexicographic.{slice_cmp}
use Rattle.std.specs.Int.{w16, w64, byte_at, bytes_high_first, to_be_bytes}

pub then_assoc : (a b c : Ordering) → ordering_then a (ordering_then b c) ≡ ordering_then (ordering_then a b) c
then_assoc Less b c = refl
then_assoc Equal b c = refl
then_assoc Greater b c = refl

then_last : (a : Ordering) → ordering_then a Equal ≡ a
then_last Less = refl
then_last Equal = refl
then_last Greater = refl

-- two digits compare by the high one and then by the low one
shifted : (h r s : ℕ) → nat_cmp r s ≡ nat_cmp (h + r) (h + s)
shifted h r s = elim (cases_order r s) [
  | inl tie ↦ sym (nat_cmp_is r s Equal tie) ∙ nat_cmp_is (h + r) (h + s) Equal (omega arith)
  | inr either ↦ elim either [
    | inl below ↦ sym (nat_cmp_is r s Less below) ∙ nat_cmp_is (h + r) (h + s) Less (omega arith)
    | inr above ↦ sym (nat_cmp_is r s Greater above) ∙ nat_cmp_is (h + r) (h + s) Greater (omega arith)
  ]
]

high_less : (n a b r s : ℕ) → r < n → a < b → a * n + r < b * n + s
high_less n a b r s small less =
    let x : a * n + r < n * b = mul-add-lt a n r b less small in
    let y : n * b ≡ b * n = mul_comm n b in omega arith

same_high : (n a b r s : ℕ) → a ≡ b → nat_cmp (a * n + r) (a * n + s) ≡ nat_cmp (a * n + r) (b * n + s)
same_high n a b r s tie = ap (λ (x : ℕ). nat_cmp (a * n + r) (x * n + s)) tie

digits : (n a b r s : ℕ) → r < n → s < n → ordering_then (nat_cmp a b) (nat_cmp r s) ≡ nat_cmp (a * n + r) (b * n + s)
digits n a b r s small fits = elim (cases_order a b) [
  | inl tie ↦ ap (λ (o : Ordering). ordering_then o (nat_cmp r s)) (sym (nat_cmp_is a b Equal tie)) ∙ shifted (a * n) r s ∙ same_high n a b r s tie
  | inr either ↦ elim either [
    | inl below ↦ ap (λ (o : Ordering). ordering_then o (nat_cmp r s)) (sym (nat_cmp_is a b Less below)) ∙ nat_cmp_is (a * n + r) (b * n + s) Less (high_less n a b r s small below)
    | inr above ↦ ap (λ (o : Ordering). ordering_then o (nat_cmp r s)) (sym (nat_cmp_is a b Greater above)) ∙ nat_cmp_is (a * n + r) (b * n + s) Greater (high_less n b a s r fits above)
  ]
]

some_power : (k : ℕ) → 0 < 256 ^ k
some_power zero = omega arith
some_power (suc k) =
    let more : 256 ^ suc k ≡ 256 ^ k * 256 = pow-suc 256 k in
    let rest : 0 < 256 ^ k = some_power k in omega arith

-- a number's highest byte, and what is left of it
with_byte : (k n : ℕ) → n % 256 ^ suc k ≡ byte_at k n * 256 ^ k + n % 256 ^ k
with_byte zero n = omega arith
with_byte (suc k) n =
    ap (λ (x : ℕ). n % x) (pow-suc 256 (suc k) ∙ mul_comm (256 ^ suc k) 256)
    ∙ mod-mul n {m = 256} {c = 256 ^ suc k} (omega arith) (some_power (suc k))

by_bytes : (k n m : ℕ) (xs ys : List ℕ)
    → slice_cmp nat_cmp (bytes_high_first k n ++ xs) (bytes_high_first k m ++ ys) ≡ ordering_then (nat_cmp (n % 256 ^ k) (m % 256 ^ k)) (slice_cmp nat_cmp xs ys)
by_bytes zero n m xs ys =
    let a : n % 256 ^ zero ≡ 0 = omega arith in
    let b : m % 256 ^ zero ≡ 0 = omega arith in
    sym (ap₂ (λ (x y : ℕ). ordering_then (nat_cmp x y) (slice_cmp nat_cmp xs ys)) a b)
by_bytes (suc k) n m xs ys =
    let rest : Ordering = slice_cmp nat_cmp xs ys in
    ap (λ (o : Ordering). ordering_then (nat_cmp (byte_at k n) (byte_at k m)) o) (by_bytes k n m xs ys)
    ∙ then_assoc (nat_cmp (byte_at k n) (byte_at k m)) (nat_cmp (n % 256 ^ k) (m % 256 ^ k)) rest
    ∙ ap (λ (o : Ordering). ordering_then o rest) (digits (256 ^ k) (byte_at k n) (byte_at k m) (n % 256 ^ k) (m % 256 ^ k) (mod_below n (256 ^ k) (some_power k)) (mod_below m (256 ^ k) (some_power k)))
    ∙ ap₂ (λ (x y : ℕ). ordering_then (nat_cmp x y) rest) (sym (with_byte k n)) (sym (with_byte k m))

-- numbers of two bytes in front decide, and then what stands behind them
pub by_words : (n m : ℕ) (xs ys : List ℕ) → n < 2 ^ 16 → m < 2 ^ 16
    → slice_cmp nat_cmp (to_be_bytes w16 n ++ xs) (to_be_bytes w16 m ++ ys) ≡ ordering_then (nat_cmp n m) (slice_cmp nat_cmp xs ys)
by_words n m xs ys small fits =
    let a : n % 256 ^ 2 ≡ n = omega arith in
    let b : m % 256 ^ 2 ≡ m = omega arith in
    by_bytes 2 n m xs ys ∙ ap₂ (λ (x y : ℕ). ordering_then (nat_cmp x y) (slice_cmp nat_cmp xs ys)) a b

pub by_longs : (n m : ℕ) → n < 2 ^ 64 → m < 2 ^ 64 → slice_cmp nat_cmp (to_be_bytes w64 n) (to_be_bytes w64 m) ≡ nat_cmp n m
by_longs n m small fits =
    let a : n % 256 ^ 8 ≡ n = omega arith in
    let b : m % 256 ^ 8 ≡ m = omega arith in
    by_bytes 8 n m [] [] ∙ then_last (nat_cmp (n % 256 ^ 8) (m % 256 ^ 8)) ∙ ap₂ nat_cmp a b
