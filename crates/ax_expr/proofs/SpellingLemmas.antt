-- What is spelled with the fewest parentheses is in the grammar, and is read back.
use Rattle.std.proofs.Common.{◌≡◌, ◌∙◌, ℕ, ◌+◌, ◌≤◌, List, [], ◌∷◌, ◌++◌, Bool, true, false, refl, ap, arith}
use Rattle.std.proofs.lemmas.Bool.Decides.{nat_tests}
use Rattle.std.specs.Prelude.{nat_le}
use Rattle.ax_text.specs.declared.vocabulary.Op.{Op}
use Rattle.ax_expr.specs.declared.tree.Token.{Token}
use Rattle.ax_expr.specs.declared.tree.Token.TheVariants.{Open, Close, Sign}
use Rattle.ax_text.specs.Exprs.{Expr, Leaf, Join}
use Rattle.ax_expr.specs.Levels.{level_of}
use Rattle.ax_expr.specs.Grammar.{Derivation, Single, Enclosed, Signed, IsPart, tokens_of, tree_in, Spells}
use Rattle.ax_expr.specs.Spelling.{bracketed, spelled, ReadsBack}
use Rattle.ax_expr.proofs.GrammarLemmas.{is_reading, level_from_1}

-- tokens at a level that spell a tree
record PartOf (n : ℕ) (t : Expr) (tokens : List Token) : Type 0 where
  by : Derivation
  part : IsPart n by
  tokens_are : tokens_of by ≡ tokens
  tree_is : tree_in by ≡ t

signed : (n : ℕ) (o : Op) (a b : Expr) (left right : List Token) → n ≤ level_of o → PartOf (level_of o) a left → PartOf (level_of o + 1) b right → PartOf n (Join o a b) (left ++ (Sign o ∷ right))
signed n o a b left right h one two =
    record {
      by = Signed one.by o two.by;
      part = (h, one.part, two.part);
      tokens_are = ap (λ (xs : List Token). xs ++ (Sign o ∷ tokens_of two.by)) one.tokens_are ∙ ap (λ (ys : List Token). left ++ (Sign o ∷ ys)) two.tokens_are;
      tree_is = ap (λ (x : Expr). Join o x (tree_in two.by)) one.tree_is ∙ ap (λ (y : Expr). Join o a y) two.tree_is;
    }

enclosed : (n : ℕ) (t : Expr) (tokens : List Token) → PartOf 1 t tokens → PartOf n t (Open ∷ (tokens ++ Close ∷ []))
enclosed n t tokens p = record { by = Enclosed p.by; part = p.part; tokens_are = ap (λ (xs : List Token). Open ∷ (xs ++ Close ∷ [])) p.tokens_are; tree_is = p.tree_is }

picked : (n : ℕ) (o : Op) (t : Expr) (tokens : List Token) (bit : Bool) → nat_le n (level_of o) ≡ bit → ((m : ℕ) → m ≤ level_of o → PartOf m t tokens) → 1 ≤ level_of o → PartOf n t (bracketed bit tokens)
picked n o t tokens true e p h = p n (grind (arith, nat_tests))
picked n o t tokens false e p h = enclosed n t tokens (p 1 h)

part_of : (t : Expr) (n : ℕ) → PartOf n t (spelled n t)
part_of (Leaf a) n = record { by = Single a; part = tt; tokens_are = refl; tree_is = refl }
part_of (Join o a b) n =
    let l : ℕ = level_of o in
    picked n o (Join o a b) (spelled l a ++ (Sign o ∷ spelled (l + 1) b)) (nat_le n l) refl
    (λ m h. signed m o a b (spelled l a) (spelled (l + 1) b) h (part_of a l) (part_of b (l + 1)))
    (level_from_1 o)

pub spells : (t : Expr) → Spells (spelled 1 t) t
spells t = let p = part_of t 1 in (p.by, p.part, p.tokens_are, p.tree_is)

pub reads_back : (t : Expr) → ReadsBack t
reads_back t = is_reading (spelled 1 t) t (spells t)
