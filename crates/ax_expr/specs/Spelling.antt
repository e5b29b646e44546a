-- The least spelling of an expression: parentheses stand only where the grammar needs them.
use Rattle.std.specs.Prelude.{◌≡◌, ℕ, ◌+◌, List, [], ◌∷◌, ◌++◌, Bool, Some, nat_le, if◌then◌else◌}
use Rattle.ax_expr.specs.declared.tree.Token.{Token}
use Rattle.ax_expr.specs.declared.tree.Token.TheVariants.{Operand, Open, Close, Sign}
use Rattle.ax_text.specs.Exprs.{Expr, Leaf, Join}
use Rattle.ax_expr.specs.Levels.{level_of}
use Rattle.ax_expr.specs.Reading.{tree_of}

abbrev pub bracketed : Bool → List Token → List Token
bracketed b ms = if b then ms else Open ∷ (ms ++ Close ∷ [])

-- where only what binds at least so tightly may stand bare
abbrev pub spelled : ℕ → Expr → List Token
spelled n (Leaf a) = Operand a ∷ []
spelled n (Join o a b) = bracketed (nat_le n (level_of o)) (spelled (level_of o) a ++ (Sign o ∷ spelled (level_of o + 1) b))

abbrev pub ReadsBack : Expr → Type 0
ReadsBack t = tree_of (spelled 1 t) ≡ Some t
