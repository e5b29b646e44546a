-- Words are too deep where more than 32 parentheses stand in one another.
use Rattle.std.proofs.Common.{◌≡◌, ◌∙◌, ℕ, ◌+◌, ◌-◌, ◌≤◌, List, [], ◌∷◌, ◌++◌, length, max, refl, sym, ap, arith, Bool, true, false, ◌||◌, nat_lt, nat_le, is_some, if◌then◌else◌, append_assoc, append-nil}
use Rattle.std.proofs.lemmas.Bool.Decides.{nat_tests}
use lib.Chars.{codes}
use Rattle.ax_text.specs.Names.{Word, same_word, keyword_of, is_name}
use Rattle.ax_syntax.specs.Words.{sign_of, is_operand}
use Rattle.ax_expr.specs.declared.tree.Token.{Token}
use Rattle.ax_expr.specs.declared.tree.Token.TheVariants as token
use Rattle.ax_expr.specs.Grammar.{Derivation, Single, Enclosed, Signed, tokens_of}
use Rattle.ax_rules.specs.Faults.{goes_deep}
use Rattle.ax_lang.specs.Spelling.{Say, HasForm, nesting, LimitsTell}
use Rattle.ax_lang.proofs.TokenLemmas.{if_false, apart}

-- the same of tokens
deep : ℕ → List Token → Bool
deep n [] = false
deep n (token.Operand a ∷ ms) = deep n ms
deep n (token.Open ∷ ms) = nat_le 32 n || deep (n + 1) ms
deep n (token.Close ∷ ms) = deep (n - 1) ms
deep n (token.Sign o ∷ ms) = deep n ms

goes_by : (w : Word) (ws : List Word) (n : ℕ) → same_word w (codes "(") ≡ false → same_word w (codes ")") ≡ false → goes_deep n (w ∷ ws) ≡ goes_deep n ws
goes_by w ws n e f =
    if_false (same_word w (codes "(")) (nat_le 32 n || goes_deep (n + 1) ws) (if same_word w (codes ")") then goes_deep (n - 1) ws else goes_deep n ws) e
    ∙ if_false (same_word w (codes ")")) (goes_deep (n - 1) ws) (goes_deep n ws) f

say_deep : (ws : List Word) (ms : List Token) (n : ℕ) → Say HasForm ws ms → goes_deep n ws ≡ deep n ms
unfolding deep sign_of is_operand is_name keyword_of
say_deep [] [] n s = refl
say_deep [] (m ∷ ms) n s = absurd s
say_deep (w ∷ ws) [] n s = absurd s
say_deep (w ∷ ws) (token.Operand a ∷ ms) n s = goes_by w ws n (apart is_operand w (codes "(") refl s.0) (apart is_operand w (codes ")") refl s.0) ∙ say_deep ws ms n s.1
say_deep (w ∷ ws) (token.Open ∷ ms) n s = ap (λ (v : Word). goes_deep n (v ∷ ws)) s.0 ∙ ap (λ (b : Bool). nat_le 32 n || b) (say_deep ws ms (n + 1) s.1)
say_deep (w ∷ ws) (token.Close ∷ ms) n s = ap (λ (v : Word). goes_deep n (v ∷ ws)) s.0 ∙ say_deep ws ms (n - 1) s.1
say_deep (w ∷ ws) (token.Sign o ∷ ms) n s =
    goes_by w ws n (apart (λ v. is_some (sign_of v)) w (codes "(") refl (ap is_some s.0)) (apart (λ v. is_some (sign_of v)) w (codes ")") refl (ap is_some s.0))
    ∙ say_deep ws ms n s.1

say_length : (ws : List Word) (ms : List Token) → Say HasForm ws ms → length ws ≡ length ms
say_length [] [] s = refl
say_length [] (m ∷ ms) s = absurd s
say_length (w ∷ ws) [] s = absurd s
say_length (w ∷ ws) (m ∷ ms) s = let h : length ws ≡ length ms = say_length ws ms s.1 in omega arith

or_assoc : (a b c : Bool) → (a || (b || c)) ≡ ((a || b) || c)
or_assoc true b c = refl
or_assoc false b c = refl

not_over : (n : ℕ) → n ≤ 32 → nat_lt 32 (n + 0) ≡ false
not_over n h = grind (arith, nat_tests)

either : (n a b : ℕ) → (nat_lt 32 (n + a) || nat_lt 32 (n + b)) ≡ nat_lt 32 (n + max a b)
either n a b = cases (nat_lt 32 (n + a)) (nat_lt 32 (n + b)) refl refl where
  cases : (x y : Bool) → nat_lt 32 (n + a) ≡ x → nat_lt 32 (n + b) ≡ y → (x || y) ≡ nat_lt 32 (n + max a b)
  cases true y e f = let m : n + a ≤ n + max a b = omega arith in grind (arith, nat_tests)
  cases false true e f = let m : n + b ≤ n + max a b = omega arith in grind (arith, nat_tests)
  cases false false e f =
      let h : n + a ≤ 32 = grind (arith, nat_tests) in
      let k : n + b ≤ 32 = grind (arith, nat_tests) in
      let m : n + max a b ≤ 32 = omega arith in
      grind (arith, nat_tests)

-- at the parenthesis that is the 33rd
full : (n k : ℕ) (r : Bool) → nat_le 32 n ≡ true → true ≡ (nat_lt 32 (n + (k + 1)) || r)
full n k r h = ap (λ (b : Bool). b || r) e where
  e : true ≡ nat_lt 32 (n + (k + 1))
  e = grind (arith, nat_tests)

one_more : (n k : ℕ) → nat_lt 32 (n + 1 + k) ≡ nat_lt 32 (n + (k + 1))
one_more n k = let e : n + 1 + k ≡ n + (k + 1) = omega arith in ap (λ (m : ℕ). nat_lt 32 m) e

back : (n : ℕ) (ms : List Token) → deep (n + 1 - 1) ms ≡ deep n ms
back n ms = let e : n + 1 - 1 ≡ n = omega arith in ap (λ (m : ℕ). deep m ms) e

below : (n : ℕ) → nat_le 32 n ≡ false → n + 1 ≤ 32
below n h = grind (arith, nat_tests)

deep_in : (d : Derivation) (n : ℕ) (rest : List Token) → n ≤ 32 → deep n (tokens_of d ++ rest) ≡ (nat_lt 32 (n + nesting d) || deep n rest)
unfolding deep
deep_in (Single a) n rest h = sym (ap (λ (b : Bool). b || deep n rest) (not_over n h))
deep_in (Enclosed d) n rest h =
    ap (λ (xs : List Token). nat_le 32 n || deep (n + 1) xs) (append_assoc (tokens_of d) (token.Close ∷ []) rest)
    ∙ cases (nat_le 32 n) refl (λ g. deep_in d (n + 1) (token.Close ∷ rest) g)
  where
    cases : (b : Bool) → nat_le 32 n ≡ b → (n + 1 ≤ 32 → deep (n + 1) (tokens_of d ++ (token.Close ∷ rest)) ≡ (nat_lt 32 (n + 1 + nesting d) || deep (n + 1 - 1) rest))
        → (b || deep (n + 1) (tokens_of d ++ (token.Close ∷ rest))) ≡ (nat_lt 32 (n + (nesting d + 1)) || deep n rest)
    cases true e go = full n (nesting d) (deep n rest) e
    cases false e go =
        go (below n e)
        ∙ (ap (λ (b : Bool). b || deep (n + 1 - 1) rest) (one_more n (nesting d)) ∙ ap (λ (b : Bool). nat_lt 32 (n + (nesting d + 1)) || b) (back n rest))
deep_in (Signed l o r) n rest h =
    ap (deep n) (append_assoc (tokens_of l) (token.Sign o ∷ tokens_of r) rest)
    ∙ (deep_in l n (token.Sign o ∷ (tokens_of r ++ rest)) h
    ∙ (ap (λ (b : Bool). nat_lt 32 (n + nesting l) || b) (deep_in r n rest h)
    ∙ (or_assoc (nat_lt 32 (n + nesting l)) (nat_lt 32 (n + nesting r)) (deep n rest) ∙ ap (λ (b : Bool). b || deep n rest) (either n (nesting l) (nesting r)))))

or_false : (b : Bool) → (b || false) ≡ b
or_false true = refl
or_false false = refl

from_zero : (k : ℕ) → nat_lt 32 (0 + k) ≡ nat_lt 32 k
from_zero k = let e : 0 + k ≡ k = omega arith in ap (λ (m : ℕ). nat_lt 32 m) e

pub limits_tell : (ws : List Word) (d : Derivation) → LimitsTell ws d
unfolding deep
limits_tell ws d s = (
  say_deep ws (tokens_of d) 0 s
      ∙ (ap (deep 0) (sym (append-nil (tokens_of d)))
      ∙ (deep_in d 0 [] (omega arith) ∙ (or_false (nat_lt 32 (0 + nesting d)) ∙ from_zero (nesting d)))),
  ap (λ (n : ℕ). nat_lt 256 n) (say_length ws (tokens_of d) s),
)
