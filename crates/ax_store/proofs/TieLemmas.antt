-- Where the numbers of the first bytes are the same, the bytes behind them decide.
use Rattle.std.proofs.Common.{◌≡◌, ℕ, ◌+◌, ◌*◌, ◌<◌, ◌≤◌, zero, suc, List, [], ◌∷◌, inl, inr, refl, sym, ap, ◌∙◌, arith, drop, length}
use Rattle.std.proofs.lemmas.Bool.{cases_order}
use Rattle.std.specs.Cmp.{nat_cmp_is}
use Rattle.std.specs.declared.cmp.Ordering.{Ordering}
use Rattle.std.specs.declared.cmp.Ordering.TheVariants.{Equal}
use Rattle.std.specs.Ordering.{nat_cmp, ordering_then}
use Rattle.ax_base.specs.Heads.{head_from, head_of, AreBytes}
use Rattle.ax_base.proofs.HeadLemmas.{stays_less}
use Rattle.ax_store.specs.Held.{bytes_cmp}

tail : (b : ℕ) (bytes : List ℕ) → AreBytes (b ∷ bytes) → AreBytes bytes
tail b bytes small = λ k h. small (suc k) (omega arith)

then_rest : (x y : ℕ) (rest : Ordering) → x ≡ y → ordering_then (nat_cmp x y) rest ≡ rest
then_rest x y rest tie = ap (λ o. ordering_then o rest) (sym (nat_cmp_is x y Equal tie))

tied_from : (n h : ℕ) (a b : List ℕ) → AreBytes a → AreBytes b → n ≤ length a → n ≤ length b → head_from h n a ≡ head_from h n b → bytes_cmp a b ≡ bytes_cmp (drop n a) (drop n b)
tied_from zero h a b small fits la lb same = refl
tied_from (suc n) h [] b small fits la lb same = absurd (omega arith)
tied_from (suc n) h (x ∷ xs) [] small fits la lb same = absurd (omega arith)
tied_from (suc n) h (x ∷ xs) (y ∷ ys) small fits la lb same = elim (cases_order x y) [
  | inl tie ↦
      let behind : head_from (256 * h + y) n ys ≡ head_from (256 * h + x) n ys = ap (λ z. head_from (256 * h + z) n ys) (sym tie) in
      then_rest x y (bytes_cmp xs ys) tie ∙ tied_from n (256 * h + x) xs ys (tail x xs small) (tail y ys fits) (omega arith) (omega arith) (same ∙ behind)
  | inr either ↦ elim either [
    | inl below ↦
        let less : head_from (256 * h + x) n xs < head_from (256 * h + y) n ys = stays_less n (256 * h + x) (256 * h + y) xs ys (tail x xs small) (omega arith) in
        absurd (omega arith)
    | inr above ↦
        let less : head_from (256 * h + y) n ys < head_from (256 * h + x) n xs = stays_less n (256 * h + y) (256 * h + x) ys xs (tail y ys fits) (omega arith) in
        absurd (omega arith)
  ]
]

pub tied : (a b : List ℕ) → AreBytes a → AreBytes b → 8 ≤ length a → 8 ≤ length b → head_of a ≡ head_of b → bytes_cmp a b ≡ bytes_cmp (drop 8 a) (drop 8 b)
tied a b small fits la lb same = tied_from 8 0 a b small fits la lb same
