-- Words that have the form of an expression have tokens that balance.
use Rattle.std.proofs.Common.{◌≡◌, ◌∙◌, ℕ, ◌+◌, ◌-◌, List, [], ◌∷◌, map, refl, sym, ap, subst, Bool, true, false, ◌&&◌, nat_lt, Option, Some, None, is_some, if◌then◌else◌}
use Rattle.std.proofs.lemmas.Bool.{and_parts, and_from, eqb-true, true≢false, false≢true}
use lib.Chars.{codes}
use Rattle.ax_text.specs.declared.vocabulary.Op.{Op}
use Rattle.ax_text.specs.Names.{Word, same_word, is_name, keyword_of}
use Rattle.ax_syntax.specs.Words.{sign_of, is_operand}
use Rattle.ax_syntax.specs.Shapes.{goes_on, is_expr}
use Rattle.ax_expr.specs.declared.tree.Token.{Token}
use Rattle.ax_expr.specs.declared.tree.Token.TheVariants as token
use Rattle.ax_expr.specs.Balance.{goes_on as balances}
use Rattle.ax_expr.proofs.BalanceLemmas.{has_tree as tree_law}
use Rattle.ax_lang.specs.Rows.{atom_of, sign_or, token_of}
use Rattle.ax_lang.specs.Laws.{HasTree}

if_true : {A : Type 0} (b : Bool) (x y : A) → b ≡ true → (if b then x else y) ≡ x
if_true true x y h = refl
if_true false x y h = absurd (false≢true h)

pub if_false : {A : Type 0} (b : Bool) (x y : A) → b ≡ false → (if b then x else y) ≡ y
if_false true x y h = absurd (true≢false h)
if_false false x y h = refl

pub same_equal : (a b : Word) → same_word a b ≡ true → a ≡ b
same_equal [] [] h = refl
same_equal [] (y ∷ ys) h = absurd (false≢true h)
same_equal (x ∷ xs) [] h = absurd (false≢true h)
same_equal (x ∷ xs) (y ∷ ys) h =
    let a = and_parts _ (same_word xs ys) h in
    ap (λ (z : ℕ). z ∷ xs) (eqb-true x y a.0) ∙ ap (λ (zs : Word). y ∷ zs) (same_equal xs ys a.1)

-- words that a test tells apart differ
pub apart : (p : Word → Bool) (w s : Word) → p s ≡ false → p w ≡ true → same_word w s ≡ false
apart p w s f t = cases (same_word w s) refl where
  cases : (b : Bool) → same_word w s ≡ b → b ≡ false
  cases true g = absurd (true≢false (sym t ∙ (ap p (same_equal w s g) ∙ f)))
  cases false g = refl

pub sign_none : (w : Word) → is_operand w ≡ true → sign_of w ≡ None
unfolding sign_of is_operand is_name keyword_of
sign_none w h =
    if_false (same_word w (codes "<")) _ _ (apart is_operand w (codes "<") refl h)
    ∙ (if_false (same_word w (codes "<=")) _ _ (apart is_operand w (codes "<=") refl h)
    ∙ (if_false (same_word w (codes "==")) _ _ (apart is_operand w (codes "==") refl h)
    ∙ (if_false (same_word w (codes "!=")) _ _ (apart is_operand w (codes "!=") refl h)
    ∙ (if_false (same_word w (codes ">=")) _ _ (apart is_operand w (codes ">=") refl h)
    ∙ (if_false (same_word w (codes ">")) _ _ (apart is_operand w (codes ">") refl h)
    ∙ (if_false (same_word w (codes "+")) _ _ (apart is_operand w (codes "+") refl h)
    ∙ (if_false (same_word w (codes "-")) _ _ (apart is_operand w (codes "-") refl h)
    ∙ (if_false (same_word w (codes "*")) _ _ (apart is_operand w (codes "*") refl h)
    ∙ (if_false (same_word w (codes "/")) _ _ (apart is_operand w (codes "/") refl h)
    ∙ if_false (same_word w (codes "%")) _ _ (apart is_operand w (codes "%") refl h))))))))))

pub token_open : (locals : List Word) (w : Word) → same_word w (codes "(") ≡ true → token_of locals w ≡ token.Open
unfolding token_of
token_open locals w h = if_true (same_word w (codes "(")) _ _ h

pub token_rest : (locals : List Word) (w : Word) → same_word w (codes "(") ≡ false → same_word w (codes ")") ≡ false → token_of locals w ≡ sign_or (sign_of w) (token.Operand (atom_of locals w))
unfolding token_of
token_rest locals w h g = if_false (same_word w (codes "(")) _ _ h ∙ if_false (same_word w (codes ")")) _ _ g

token_operand : (locals : List Word) (w : Word) → same_word w (codes "(") ≡ false → is_operand w ≡ true → token_of locals w ≡ token.Operand (atom_of locals w)
unfolding is_operand is_name keyword_of
token_operand locals w h o = token_rest locals w h (apart is_operand w (codes ")") refl o) ∙ ap (λ (s : Option Op). sign_or s (token.Operand (atom_of locals w))) (sign_none w o)

pub token_close : (locals : List Word) (w : Word) → same_word w (codes ")") ≡ true → token_of locals w ≡ token.Close
unfolding token_of
token_close locals w h = ap (token_of locals) (same_equal w (codes ")") h)

some_sign : (s : Option Op) (m : Token) → is_some s ≡ true → (o : Op) × (sign_or s m ≡ token.Sign o)
some_sign None m h = absurd (false≢true h)
some_sign (Some o) m h = (o, refl)

token_sign : (locals : List Word) (w : Word) → same_word w (codes ")") ≡ false → is_some (sign_of w) ≡ true → (o : Op) × (token_of locals w ≡ token.Sign o)
unfolding sign_of
token_sign locals w h g =
    let s = some_sign (sign_of w) (token.Operand (atom_of locals w)) g in
    (s.0, token_rest locals w (apart (λ v. is_some (sign_of v)) w (codes "(") refl g) h ∙ s.1)

open_step : (locals : List Word) (w : Word) (ws : List Word) (ms : List Token) (n : ℕ) (b : Bool) → same_word w (codes "(") ≡ b
    → (if b then goes_on (n + 1) false ws else (is_operand w && goes_on n true ws)) ≡ true
    → (goes_on (n + 1) false ws ≡ true → balances (n + 1) false ms ≡ true) → (goes_on n true ws ≡ true → balances n true ms ≡ true)
    → balances n false (token_of locals w ∷ ms) ≡ true
open_step locals w ws ms n true e h f g = subst (λ (m : Token). balances n false (m ∷ ms) ≡ true) (sym (token_open locals w e)) (f h)
open_step locals w ws ms n false e h f g =
    let a = and_parts (is_operand w) (goes_on n true ws) h in
    subst (λ (m : Token). balances n false (m ∷ ms) ≡ true) (sym (token_operand locals w e a.0)) (g a.1)

end_step : (locals : List Word) (w : Word) (ws : List Word) (ms : List Token) (n : ℕ) (b : Bool) → same_word w (codes ")") ≡ b
    → (if b then (nat_lt 0 n && goes_on (n - 1) true ws) else (is_some (sign_of w) && goes_on n false ws)) ≡ true
    → (goes_on (n - 1) true ws ≡ true → balances (n - 1) true ms ≡ true) → (goes_on n false ws ≡ true → balances n false ms ≡ true)
    → balances n true (token_of locals w ∷ ms) ≡ true
end_step locals w ws ms n true e h f g =
    let a = and_parts (nat_lt 0 n) (goes_on (n - 1) true ws) h in
    subst (λ (m : Token). balances n true (m ∷ ms) ≡ true) (sym (token_close locals w e)) (and_from (nat_lt 0 n) (balances (n - 1) true ms) a.0 (f a.1))
end_step locals w ws ms n false e h f g =
    let a = and_parts (is_some (sign_of w)) (goes_on n false ws) h in
    let s = token_sign locals w e a.0 in
    subst (λ (m : Token). balances n true (m ∷ ms) ≡ true) (sym s.1) (g a.1)

tokens_balance : (locals ws : List Word) (n : ℕ) (ended : Bool) → goes_on n ended ws ≡ true → balances n ended (map (token_of locals) ws) ≡ true
tokens_balance locals [] n ended h = h
tokens_balance locals (w ∷ ws) n false h = open_step locals w ws (map (token_of locals) ws) n (same_word w (codes "(")) refl h (tokens_balance locals ws (n + 1) false) (tokens_balance locals ws n true)
tokens_balance locals (w ∷ ws) n true h = end_step locals w ws (map (token_of locals) ws) n (same_word w (codes ")")) refl h (tokens_balance locals ws (n - 1) true) (tokens_balance locals ws n false)

pub has_tree : (locals ws : List Word) → HasTree locals ws
unfolding is_expr
has_tree locals ws = λ h. tree_law (map (token_of locals) ws) (tokens_balance locals ws 0 false h)
