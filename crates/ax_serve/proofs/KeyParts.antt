-- The bytes of a key end at the first 0.
use Rattle.std.proofs.Common.{◌≡◌, ℕ, ◌<◌, List, [], ◌∷◌, ◌++◌, Bool, true, false, ◌&&◌, nat_le, refl, sym, ap, ap₂, ◌∙◌, arith}
use Rattle.std.specs.Cmp.{nat_cmp_is}
use Rattle.std.specs.declared.cmp.Ordering.{Ordering}
use Rattle.std.specs.declared.cmp.Ordering.TheVariants.{Less, Greater}
use Rattle.std.specs.Ordering.{nat_cmp, ordering_then}
use Rattle.std.specs.Cmp.Lexicographic.{slice_cmp}
use Rattle.std.specs.List.{list_all}
use Rattle.ax_keys.specs.Keys.{is_key, is_key_byte}
use Rattle.ax_serve.proofs.ByteOrder.{then_assoc}

false_true : false ≡ true → ⊥
false_true e = cc e

first_of : (a b : Bool) → (a && b) ≡ true → a ≡ true
first_of true b e = refl
first_of false b e = e

second_of : (a b : Bool) → (a && b) ≡ true → b ≡ true
second_of true b e = e
second_of false b e = absurd (false_true e)

pub key_bytes : (key : List ℕ) → is_key key ≡ true → list_all is_key_byte key ≡ true
key_bytes key h = second_of _ (list_all is_key_byte key) h

above : (b : ℕ) (bs : List ℕ) → list_all is_key_byte (b ∷ bs) ≡ true → 0 < b
above b bs h =
    let x : nat_le 33 b ≡ true = first_of (nat_le 33 b) (nat_le b 126) (first_of (is_key_byte b) (list_all is_key_byte bs) h) in
    grind arith

rest_of : (b : ℕ) (bs : List ℕ) → list_all is_key_byte (b ∷ bs) ≡ true → list_all is_key_byte bs ≡ true
rest_of b bs h = second_of (is_key_byte b) (list_all is_key_byte bs) h

pub heads : {x y : ℕ} {xs ys : List ℕ} → x ∷ xs ≡ y ∷ ys → x ≡ y
heads e = cc e

pub tails : {x y : ℕ} {xs ys : List ℕ} → x ∷ xs ≡ y ∷ ys → xs ≡ ys
tails e = cc e

-- keys decide, and then what stands behind their 0
pub by_keys : (k l xs ys : List ℕ) → list_all is_key_byte k ≡ true → list_all is_key_byte l ≡ true
    → slice_cmp nat_cmp (k ++ 0 ∷ xs) (l ++ 0 ∷ ys) ≡ ordering_then (slice_cmp nat_cmp k l) (slice_cmp nat_cmp xs ys)
by_keys [] [] xs ys a b = refl
by_keys [] (y ∷ ls) xs ys a b = ap (λ (o : Ordering). ordering_then o (slice_cmp nat_cmp xs (ls ++ 0 ∷ ys))) (sym (nat_cmp_is 0 y Less (above y ls b)))
by_keys (x ∷ ks) [] xs ys a b = ap (λ (o : Ordering). ordering_then o (slice_cmp nat_cmp (ks ++ 0 ∷ xs) ys)) (sym (nat_cmp_is x 0 Greater (above x ks a)))
by_keys (x ∷ ks) (y ∷ ls) xs ys a b =
    ap (λ (o : Ordering). ordering_then (nat_cmp x y) o) (by_keys ks ls xs ys (rest_of x ks a) (rest_of y ls b))
    ∙ then_assoc (nat_cmp x y) (slice_cmp nat_cmp ks ls) (slice_cmp nat_cmp xs ys)

-- what is one text has one key and one rest
pub cut_at_zero : (k l xs ys : List ℕ) → list_all is_key_byte k ≡ true → list_all is_key_byte l ≡ true → k ++ 0 ∷ xs ≡ l ++ 0 ∷ ys → (k ≡ l) × (xs ≡ ys)
cut_at_zero [] [] xs ys a b e = (refl, tails e)
cut_at_zero [] (y ∷ ls) xs ys a b e = let same : 0 ≡ y = heads e in let more : 0 < y = above y ls b in absurd (omega arith)
cut_at_zero (x ∷ ks) [] xs ys a b e = let same : x ≡ 0 = heads e in let more : 0 < x = above x ks a in absurd (omega arith)
cut_at_zero (x ∷ ks) (y ∷ ls) xs ys a b e =
    let rest : (ks ≡ ls) × (xs ≡ ys) = cut_at_zero ks ls xs ys (rest_of x ks a) (rest_of y ls b) (tails e) in
    (ap₂ (λ (h : ℕ) (t : List ℕ). h ∷ t) (heads e) rest.0, rest.1)
