-- The order of heads decides the order of byte strings.
use Rattle.std.proofs.Common.{◌≡◌, ℕ, ◌+◌, ◌*◌, ◌<◌, ◌≤◌, zero, suc, List, [], ◌∷◌, length, inl, inr, refl, sym, ap, ◌∙◌, arith}
use Rattle.std.proofs.lemmas.Bool.{cases_order}
use Rattle.std.specs.Cmp.{nat_cmp_is}
use Rattle.std.specs.declared.cmp.Ordering.{Ordering}
use Rattle.std.specs.declared.cmp.Ordering.TheVariants.{Less, Equal, Greater}
use Rattle.std.specs.Ordering.{nat_cmp, ordering_then, ordering_reverse}
use Rattle.std.specs.Cmp.Lexicographic.{slice_cmp, nat_list_cmp_total}
use Rattle.ax_base.specs.Heads.{head_from, head_of, AreBytes}

tail : (b : ℕ) (bytes : List ℕ) → AreBytes (b ∷ bytes) → AreBytes bytes
tail b bytes small = λ k h. small (suc k) (omega arith)

first : (b : ℕ) (bytes : List ℕ) → AreBytes (b ∷ bytes) → b < 256
first b bytes small = small 0 (omega arith)

-- a greater number stays greater whatever bytes stand behind it
pub stays_less : (n h g : ℕ) (a b : List ℕ) → AreBytes a → h < g → head_from h n a < head_from g n b
stays_less zero h g a b small less = less
stays_less (suc n) h g [] [] small less = stays_less n (256 * h) (256 * g) [] [] small (omega arith)
stays_less (suc n) h g [] (y ∷ ys) small less = stays_less n (256 * h) (256 * g + y) [] ys small (omega arith)
stays_less (suc n) h g (x ∷ xs) [] small less =
    let byte : x < 256 = first x xs small in
    stays_less n (256 * h + x) (256 * g) xs [] (tail x xs small) (omega arith)
stays_less (suc n) h g (x ∷ xs) (y ∷ ys) small less =
    let byte : x < 256 = first x xs small in
    stays_less n (256 * h + x) (256 * g + y) xs ys (tail x xs small) (omega arith)

-- no bytes make the least head
least_of_none : (n h g : ℕ) (b : List ℕ) → h ≤ g → head_from h n [] ≤ head_from g n b
least_of_none zero h g b most = most
least_of_none (suc n) h g [] most = least_of_none n (256 * h) (256 * g) [] (omega arith)
least_of_none (suc n) h g (y ∷ ys) most = least_of_none n (256 * h) (256 * g + y) ys (omega arith)

then_less : (x y : ℕ) (rest : Ordering) → x < y → ordering_then (nat_cmp x y) rest ≡ Less
then_less x y rest less = ap (λ o. ordering_then o rest) (sym (nat_cmp_is x y Less less))

then_rest : (x y : ℕ) (rest : Ordering) → x ≡ y → rest ≡ Less → ordering_then (nat_cmp x y) rest ≡ Less
then_rest x y rest tie less = ap (λ o. ordering_then o rest) (sym (nat_cmp_is x y Equal tie)) ∙ less

less_from : (n h : ℕ) (a b : List ℕ) → AreBytes a → AreBytes b → head_from h n a < head_from h n b → slice_cmp nat_cmp a b ≡ Less
less_from zero h a b small fits less = absurd (omega arith)
less_from (suc n) h [] [] small fits less = absurd (omega arith)
less_from (suc n) h [] (y ∷ ys) small fits less = refl
less_from (suc n) h (x ∷ xs) [] small fits less =
    let most : head_from (256 * h) n [] ≤ head_from (256 * h + x) n xs = least_of_none n (256 * h) (256 * h + x) xs (omega arith) in
    absurd (omega arith)
less_from (suc n) h (x ∷ xs) (y ∷ ys) small fits less = elim (cases_order x y) [
  | inl tie ↦
      let same : head_from (256 * h + x) n ys ≡ head_from (256 * h + y) n ys = ap (λ z. head_from (256 * h + z) n ys) tie in
      then_rest x y (slice_cmp nat_cmp xs ys) tie (less_from n (256 * h + x) xs ys (tail x xs small) (tail y ys fits) (omega arith))
  | inr either ↦ elim either [
    | inl below ↦ then_less x y (slice_cmp nat_cmp xs ys) below
    | inr above ↦
        let byte : y < 256 = first y ys fits in
        let more : head_from (256 * h + y) n ys < head_from (256 * h + x) n xs = stays_less n (256 * h + y) (256 * h + x) ys xs (tail y ys fits) (omega arith) in
        absurd (omega arith)
  ]
]

-- where the heads differ, they decide
pub head_less : (a b : List ℕ) → AreBytes a → AreBytes b → head_of a < head_of b → slice_cmp nat_cmp a b ≡ Less
head_less a b small fits less = less_from 8 0 a b small fits less

pub head_greater : (a b : List ℕ) → AreBytes a → AreBytes b → head_of b < head_of a → slice_cmp nat_cmp a b ≡ Greater
head_greater a b small fits less = (nat_list_cmp_total).antisymm a b ∙ ap ordering_reverse (head_less b a fits small less)

-- how heads compare, where they differ, is how the bytes compare
pub decided_by_heads : (a b : List ℕ) (h g : ℕ) (found : Ordering) → AreBytes a → AreBytes b → h ≡ head_of a → g ≡ head_of b → found ≡ nat_cmp h g → (found ≡ Equal → ⊥) → found ≡ slice_cmp nat_cmp a b
decided_by_heads a b h g found small fits of_a of_b is differ = elim (cases_order h g) [
  | inl tie ↦ absurd (differ (is ∙ sym (nat_cmp_is h g Equal tie)))
  | inr either ↦ elim either [
    | inl below ↦ is ∙ sym (nat_cmp_is h g Less below) ∙ sym (head_less a b small fits (omega arith))
    | inr above ↦ is ∙ sym (nat_cmp_is h g Greater above) ∙ sym (head_greater a b small fits (omega arith))
  ]
]

equal_from : (n h : ℕ) (a b : List ℕ) → AreBytes a → AreBytes b → length a ≡ length b → length a ≤ n → head_from h n a ≡ head_from h n b → slice_cmp nat_cmp a b ≡ Equal
equal_from n h [] [] small fits long most same = refl
equal_from n h [] (y ∷ ys) small fits long most same = absurd (omega arith)
equal_from n h (x ∷ xs) [] small fits long most same = absurd (omega arith)
equal_from zero h (x ∷ xs) (y ∷ ys) small fits long most same = absurd (omega arith)
equal_from (suc n) h (x ∷ xs) (y ∷ ys) small fits long most same = elim (cases_order x y) [
  | inl tie ↦
      let moved : head_from (256 * h + x) n ys ≡ head_from (256 * h + y) n ys = ap (λ z. head_from (256 * h + z) n ys) tie in
      ap (λ o. ordering_then o (slice_cmp nat_cmp xs ys)) (sym (nat_cmp_is x y Equal tie))
      ∙ equal_from n (256 * h + x) xs ys (tail x xs small) (tail y ys fits) (omega arith) (omega arith) (omega arith)
  | inr either ↦ elim either [
    | inl below ↦
        let byte : x < 256 = first x xs small in
        let more : head_from (256 * h + x) n xs < head_from (256 * h + y) n ys = stays_less n (256 * h + x) (256 * h + y) xs ys (tail x xs small) (omega arith) in
        absurd (omega arith)
    | inr above ↦
        let byte : y < 256 = first y ys fits in
        let more : head_from (256 * h + y) n ys < head_from (256 * h + x) n xs = stays_less n (256 * h + y) (256 * h + x) ys xs (tail y ys fits) (omega arith) in
        absurd (omega arith)
  ]
]

equal_heads : (a b : List ℕ) → AreBytes a → AreBytes b → length a ≡ length b → length a ≤ 8 → head_of a ≡ head_of b → slice_cmp nat_cmp a b ≡ Equal
equal_heads a b small fits long most same = equal_from 8 0 a b small fits long most same

-- at most eight bytes are known by their head and their length
pub known_by_heads : (a b : List ℕ) (h g : ℕ) (found : Ordering) → AreBytes a → AreBytes b → h ≡ head_of a → g ≡ head_of b → found ≡ nat_cmp h g → found ≡ Equal → length a ≡ length b → length a ≤ 8 → Equal ≡ slice_cmp nat_cmp a b
known_by_heads a b h g found small fits of_a of_b is equal long most = elim (cases_order h g) [
  | inl tie ↦ sym (equal_heads a b small fits long most (omega arith))
  | inr either ↦ elim either [
    | inl below ↦ let other : Less ≡ nat_cmp h g = nat_cmp_is h g Less below in absurd (cc)
    | inr above ↦ let other : Greater ≡ nat_cmp h g = nat_cmp_is h g Greater above in absurd (cc)
  ]
]
