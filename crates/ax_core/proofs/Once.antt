-- What is counted at most once in a list stands there once.
use Rattle.std.proofs.Common.{◌≡◌, ℕ, ◌+◌, ◌≤◌, Bool, true, false, List, [], ◌∷◌, refl, sym, ap, Contains, arith}
use Rattle.std.specs.List.{IsDistinct, AllByRecursion}
use Rattle.ax_core.specs.Flow.{one_if}
use Rattle.ax_core.proofs.Replaced.{contains_behind}
use Rattle.ax_core.proofs.Serves.{by_cases}

pub at_most : (b : Bool) → one_if b ≤ 1
at_most true = omega arith
at_most false = omega arith

module _ {X : Type 0} (same : X → X → Bool) where
  abbrev pub times : X → List X → ℕ
  times r [] = 0
  times r (q ∷ qs) = one_if (same r q) + times r qs

  none_same : (r : X) (xs : List X) → times r xs ≡ 0 → AllByRecursion (λ q. same r q ≡ false) xs
  none_same r [] e = tt
  none_same r (x ∷ xs) e = (of (same r x) (omega (arith, e)), none_same r xs (omega (arith, e)))
    where
      of : (b : Bool) → one_if b ≡ 0 → b ≡ false
      of true z = absurd (omega (arith, z))
      of false z = refl

  pub distinct_where : ((r : X) → same r r ≡ true) → (xs : List X) → ((r : X) → times r xs ≤ 1) → IsDistinct same xs
  unfolding IsDistinct
  distinct_where itself [] h = tt
  distinct_where itself (x ∷ xs) h =
      let one : one_if (same x x) ≡ 1 = ap one_if (itself x) in
      (none_same x xs (omega (arith, one, h x)), distinct_where itself xs (λ r. omega (arith, h r)))

  -- what is counted stands there
  pub times_there : ((r q : X) → same r q ≡ true → r ≡ q) → (r : X) (xs : List X) → 1 ≤ times r xs → Contains xs r
  times_there is r [] some = absurd (omega (arith, some))
  times_there is r (x ∷ xs) some = by_cases (same r x)
      (λ e. (0, omega arith, sym (is r x e)))
      (λ e. let none : one_if (same r x) ≡ 0 = ap one_if e in contains_behind x xs r (times_there is r xs (omega (arith, some, none))))
