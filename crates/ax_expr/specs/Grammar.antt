-- The grammar of expressions. An expression is a comparison: sums joined by comparing signs.
-- A sum is products joined by `+` and `-`, a product atoms joined by `*`, `/` and `%`, all to the left.
-- An atom is an operand, or an expression in parentheses.
use Rattle.std.specs.Prelude.{◌≡◌, ◌↔◌, ℕ, ◌+◌, ◌≤◌, List, [], ◌∷◌, ◌++◌, true, Some}
use Rattle.ax_text.specs.declared.vocabulary.Op.{Op}
use Rattle.ax_text.specs.declared.vocabulary.Atom.{Atom}
use Rattle.ax_expr.specs.declared.tree.Token.{Token}
use Rattle.ax_expr.specs.declared.tree.Token.TheVariants.{Operand, Open, Close, Sign}
use Rattle.ax_text.specs.Exprs.{Expr, Leaf, Join}
use Rattle.ax_expr.specs.Levels.{level_of}
use Rattle.ax_expr.specs.Balance.{is_balanced}
use Rattle.ax_expr.specs.Reading.{tree_of}

-- how tokens are put together: an operand, an expression in parentheses, or two parts and the sign between them
pub data Derivation : Type 0 where
  Single : (atom : Atom) → Derivation
  Enclosed : (inside : Derivation) → Derivation
  Signed : (left : Derivation) → (op : Op) → (right : Derivation) → Derivation

-- what the grammar allows at a level: 1 a comparison, 2 a sum, 3 a product, 4 an atom; what binds more tightly may stand at each
abbrev pub IsPart : ℕ → Derivation → Type 0
IsPart level (Single a) = Unit {0}
IsPart level (Enclosed d) = IsPart 1 d
IsPart level (Signed l o r) = (level ≤ level_of o) × IsPart (level_of o) l × IsPart (level_of o + 1) r

abbrev pub tokens_of : Derivation → List Token
tokens_of (Single a) = Operand a ∷ []
tokens_of (Enclosed d) = Open ∷ (tokens_of d ++ Close ∷ [])
tokens_of (Signed l o r) = tokens_of l ++ (Sign o ∷ tokens_of r)

-- parentheses leave no trace in the tree
abbrev pub tree_in : Derivation → Expr
tree_in (Single a) = Leaf a
tree_in (Enclosed d) = tree_in d
tree_in (Signed l o r) = Join o (tree_in l) (tree_in r)

-- by the grammar the tokens, all of them, spell the tree
abbrev pub Spells : List Token → Expr → Type 0
Spells tokens tree = (d : Derivation) × IsPart 1 d × (tokens_of d ≡ tokens) × (tree_in d ≡ tree)

-- what is read is what the grammar spells
abbrev pub IsReading : List Token → Expr → Type 0
IsReading tokens tree = Spells tokens tree → tree_of tokens ≡ Some tree

abbrev pub IsGrammatical : List Token → Expr → Type 0
IsGrammatical tokens tree = tree_of tokens ≡ Some tree → Spells tokens tree

-- no two trees have the same tokens
abbrev pub SpellsOne : List Token → Type 0
SpellsOne tokens = (t u : Expr) → Spells tokens t → Spells tokens u → t ≡ u

abbrev pub SpellsWhereBalanced : List Token → Type 0
SpellsWhereBalanced tokens = is_balanced tokens ≡ true ↔ ((t : Expr) × Spells tokens t)
