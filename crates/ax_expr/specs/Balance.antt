-- Whether tokens have the shape of an expression: then they have a tree, and else none.
use Rattle.std.specs.Prelude.{◌≡◌, ℕ, ◌+◌, ◌-◌, List, [], ◌∷◌, Bool, true, false, ◌&&◌, ◌==◌, nat_lt, Some, None}
use Rattle.ax_expr.specs.declared.tree.Token.{Token}
use Rattle.ax_expr.specs.declared.tree.Token.TheVariants.{Operand, Open, Close, Sign}
use Rattle.ax_text.specs.Exprs.{Expr}
use Rattle.ax_expr.specs.Reading.{tree_of}

-- operands and signs take turns, and parentheses balance: how many are open, and whether an operand has just ended
abbrev pub goes_on : ℕ → Bool → List Token → Bool
goes_on opened ended [] = ended && (opened == 0)
goes_on opened false (Operand a ∷ ms) = goes_on opened true ms
goes_on opened false (Open ∷ ms) = goes_on (opened + 1) false ms
goes_on opened false (Close ∷ ms) = false
goes_on opened false (Sign o ∷ ms) = false
goes_on opened true (Operand a ∷ ms) = false
goes_on opened true (Open ∷ ms) = false
goes_on opened true (Close ∷ ms) = nat_lt 0 opened && goes_on (opened - 1) true ms
goes_on opened true (Sign o ∷ ms) = goes_on opened false ms

abbrev pub is_balanced : List Token → Bool
is_balanced ms = goes_on 0 false ms

abbrev pub HasTree : List Token → Type 0
HasTree ms = is_balanced ms ≡ true → (t : Expr) × (tree_of ms ≡ Some t)

abbrev pub HasNoTree : List Token → Type 0
HasNoTree ms = is_balanced ms ≡ false → tree_of ms ≡ None
