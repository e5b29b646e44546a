-- Tokens that balance have a tree, and others have none.
use Rattle.std.proofs.Common.{◌≡◌, ◌∙◌, ℕ, zero, suc, ◌+◌, ◌-◌, List, [], ◌∷◌, Bool, true, false, Some, None, Option, refl, ap, subst, arith, eqb-true}
use Rattle.std.specs.Prelude.{◌&&◌, nat_lt, nat_le, if◌then◌else◌}
use Rattle.std.proofs.lemmas.Bool.Decides.{nat_tests}
use Rattle.ax_text.specs.declared.vocabulary.Op.{Op}
use Rattle.ax_expr.specs.declared.tree.Token.{Token}
use Rattle.ax_expr.specs.declared.tree.Token.TheVariants.{Operand, Open, Close, Sign}
use Rattle.ax_text.specs.Exprs.{Expr, Leaf, Join}
use Rattle.ax_expr.specs.Levels.{level_of}
use Rattle.ax_expr.specs.Reading.{Waiting, Opened, Before, joined, whole, closed, with_some, walk}
use Rattle.ax_expr.specs.Balance.{goes_on, HasTree, HasNoTree}

-- how many parentheses are open
abbrev depth : List Waiting → ℕ
depth [] = 0
depth (Opened ∷ ws) = suc (depth ws)
depth (Before l o ∷ ws) = depth ws

joined_depth : (n : ℕ) (x : Expr) (ws : List Waiting) → depth (joined n x ws).waiting ≡ depth ws
joined_depth n x [] = refl
joined_depth n x (Opened ∷ ws) = refl
joined_depth n x (Before l o ∷ ws) = cases (nat_le n (level_of o)) (joined_depth n (Join o l x) ws) where
  cases : (b : Bool) → depth (joined n (Join o l x) ws).waiting ≡ depth ws → depth (if b then joined n (Join o l x) ws else record { value = x; waiting = Before l o ∷ ws }).waiting ≡ depth ws
  cases true h = h
  cases false h = refl

le_zero : (n : ℕ) → nat_le 0 n ≡ true
le_zero n = grind (arith, nat_tests)

joined_on : (x l : Expr) (o : Op) (ws : List Waiting) → joined 0 x (Before l o ∷ ws) ≡ joined 0 (Join o l x) ws
joined_on x l o ws = ap (λ (b : Bool). if b then joined 0 (Join o l x) ws else record { value = x; waiting = Before l o ∷ ws }) (le_zero (level_of o))

-- no parenthesis is open: one tree is left
ends : (x : Expr) (ws : List Waiting) → depth ws ≡ 0 → (t : Expr) × (whole (joined 0 x ws).value (joined 0 x ws).waiting ≡ Some t)
ends x [] h = (x, refl)
ends x (Opened ∷ ws) h = absurd (omega arith)
ends x (Before l o ∷ ws) h = let r = ends (Join o l x) ws h in (r.0, ap (λ j. whole j.value j.waiting) (joined_on x l o ws) ∙ r.1)

closes : (x : Expr) (ws : List Waiting) (n : ℕ) → depth ws ≡ suc n → (rest : List Waiting) × (closed (joined 0 x ws).waiting ≡ Some rest) × (depth rest ≡ n)
closes x [] n h = absurd (omega arith)
closes x (Opened ∷ ws) n h = (ws, refl, omega arith)
closes x (Before l o ∷ ws) n h = let r = closes (Join o l x) ws n h in (r.0, ap (λ j. closed j.waiting) (joined_on x l o ws) ∙ r.1, r.2)

has : Option Expr → Bool
has None = false
has (Some x) = true

and_left : (a b : Bool) → a && b ≡ true → a ≡ true
and_left true b h = refl
and_left false b h = cc

and_right : (a b : Bool) → a && b ≡ true → b ≡ true
and_right true b h = h
and_right false b h = cc

balanced : (ms : List Token) (n : ℕ) (o : Option Expr) (ws : List Waiting) → depth ws ≡ n → goes_on n (has o) ms ≡ true → (t : Expr) × (walk o ws ms ≡ Some t)
unfolding has
balanced [] n None ws d h = cc
balanced [] n (Some x) ws d h = ends x ws (d ∙ eqb-true n 0 h)
balanced (Operand a ∷ ms) n None ws d h = balanced ms n (Some (Leaf a)) ws d h
balanced (Open ∷ ms) n None ws d h = balanced ms (n + 1) None (Opened ∷ ws) (omega arith) h
balanced (Close ∷ ms) n None ws d h = cc
balanced (Sign o ∷ ms) n None ws d h = cc
balanced (Operand a ∷ ms) n (Some x) ws d h = cc
balanced (Open ∷ ms) n (Some x) ws d h = cc
balanced (Close ∷ ms) zero (Some x) ws d h = cc
balanced (Close ∷ ms) (suc n) (Some x) ws d h =
    let c = closes x ws n d in
    let e : suc n - 1 ≡ n = omega arith in
    let P : ℕ → Type 0 = λ k. goes_on k true ms ≡ true in
    let r = balanced ms n (Some (joined 0 x ws).value) c.0 c.2 (subst P e (and_right (nat_lt 0 (suc n)) (goes_on (suc n - 1) true ms) h)) in
    (r.0, ap (λ (o : Option (List Waiting)). with_some o (λ rest. walk (Some (joined 0 x ws).value) rest ms)) c.1 ∙ r.1)
balanced (Sign o ∷ ms) n (Some x) ws d h = balanced ms n None (Before (joined (level_of o) x ws).value o ∷ (joined (level_of o) x ws).waiting) (joined_depth (level_of o) x ws ∙ d) h

pub has_tree : (ms : List Token) → HasTree ms
unfolding has
has_tree ms h = balanced ms 0 None [] refl h

and_false : (a b : Bool) → a ≡ true → a && b ≡ false → b ≡ false
and_false true b e h = h
and_false false b e h = cc

some_below : (n : ℕ) → nat_lt 0 (suc n) ≡ true
some_below n = grind (arith, nat_tests)

-- a parenthesis is open at the end
unended : (x : Expr) (ws : List Waiting) (n : ℕ) → depth ws ≡ suc n → whole (joined 0 x ws).value (joined 0 x ws).waiting ≡ None
unended x [] n h = absurd (omega arith)
unended x (Opened ∷ ws) n h = refl
unended x (Before l o ∷ ws) n h = ap (λ j. whole j.value j.waiting) (joined_on x l o ws) ∙ unended (Join o l x) ws n h

unopened : (x : Expr) (ws : List Waiting) → depth ws ≡ 0 → closed (joined 0 x ws).waiting ≡ None
unopened x [] h = refl
unopened x (Opened ∷ ws) h = absurd (omega arith)
unopened x (Before l o ∷ ws) h = ap (λ j. closed j.waiting) (joined_on x l o ws) ∙ unopened (Join o l x) ws h

unbalanced : (ms : List Token) (n : ℕ) (o : Option Expr) (ws : List Waiting) → depth ws ≡ n → goes_on n (has o) ms ≡ false → walk o ws ms ≡ None
unfolding has
unbalanced [] n None ws d h = refl
unbalanced [] zero (Some x) ws d h = cc
unbalanced [] (suc n) (Some x) ws d h = unended x ws n d
unbalanced (Operand a ∷ ms) n None ws d h = unbalanced ms n (Some (Leaf a)) ws d h
unbalanced (Open ∷ ms) n None ws d h = unbalanced ms (n + 1) None (Opened ∷ ws) (omega arith) h
unbalanced (Close ∷ ms) n None ws d h = refl
unbalanced (Sign o ∷ ms) n None ws d h = refl
unbalanced (Operand a ∷ ms) n (Some x) ws d h = refl
unbalanced (Open ∷ ms) n (Some x) ws d h = refl
unbalanced (Close ∷ ms) zero (Some x) ws d h = ap (λ (o : Option (List Waiting)). with_some o (λ rest. walk (Some (joined 0 x ws).value) rest ms)) (unopened x ws d)
unbalanced (Close ∷ ms) (suc n) (Some x) ws d h =
    let c = closes x ws n d in
    let e : suc n - 1 ≡ n = omega arith in
    let P : ℕ → Type 0 = λ k. goes_on k true ms ≡ false in
    let r = unbalanced ms n (Some (joined 0 x ws).value) c.0 c.2 (subst P e (and_false (nat_lt 0 (suc n)) (goes_on (suc n - 1) true ms) (some_below n) h)) in
    ap (λ (o : Option (List Waiting)). with_some o (λ rest. walk (Some (joined 0 x ws).value) rest ms)) c.1 ∙ r
unbalanced (Sign o ∷ ms) n (Some x) ws d h = unbalanced ms n None (Before (joined (level_of o) x ws).value o ∷ (joined (level_of o) x ws).waiting) (joined_depth (level_of o) x ws ∙ d) h

pub has_no_tree : (ms : List Token) → HasNoTree ms
unfolding has
has_no_tree ms h = unbalanced ms 0 None [] refl h
