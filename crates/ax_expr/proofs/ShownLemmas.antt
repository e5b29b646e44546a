-- What the code holds, one level at a time.
use Rattle.std.proofs.Common.{◌≡◌, ◌∙◌, ap, sym, refl, List, [], ◌∷◌, ◌++◌}
use Rattle.ax_text.specs.declared.vocabulary.Op.{Op}
use Rattle.ax_text.specs.declared.vocabulary.Atom.{Atom}
use Rattle.ax_expr.specs.declared.tree.Expr.{Expr as Code, fold-roll-Expr}
use Rattle.ax_expr.specs.declared.tree.Expr.TheOpen as e
use Rattle.ax_expr.specs.declared.tree.Expr.TheVariants as v
use Rattle.ax_expr.specs.declared.read.Pending.{Pending}
use Rattle.ax_text.specs.Exprs.{Expr, Leaf, Join}
use Rattle.ax_expr.specs.Shown.{shown_expr, shown_level}
use Rattle.ax_expr.specs.Reading.{Waiting, stack_of, shown_waiting}

pub shown_join : (o : Op) (a b : Code) → shown_expr (v.Join o a b) ≡ Join o (shown_expr a) (shown_expr b)
unfolding shown_expr
shown_join o a b = ap shown_expr (sym (v.rolls-Join o a b)) ∙ fold-roll-Expr Expr shown_level (e.Join o a b)

pub shown_leaf : (a : Atom) → shown_expr (v.Leaf a) ≡ Leaf a
unfolding shown_expr
shown_leaf a = ap shown_expr (sym (v.rolls-Leaf a)) ∙ fold-roll-Expr Expr shown_level (e.Leaf a)

pub stack_of_append : (ps : List Pending) (p : Pending) → stack_of (ps ++ p ∷ []) ≡ shown_waiting p ∷ stack_of ps
stack_of_append [] p = refl
stack_of_append (q ∷ ps) p = ap (λ (ws : List Waiting). ws ++ shown_waiting q ∷ []) (stack_of_append ps p)
