use Rattle.std.proofs.Common.{◌≡◌, ◌∙◌, ap, sym, ℤ, ◌<◌, to_z, of_z, arith}
use Rattle.std.proofs.lemmas.Int.{ints, to_z-of_z}
use Rattle.std.specs.Int.{w64}
use mir.Val.{SFits}
use lib.Signed.{mag}
use Rattle.ax_text.specs.Exprs.{apply_op, value}
use Rattle.ax_expr.specs.Shown.{shown_expr}
use Rattle.ax_expr.specs.Scopes.{shown_facts, shown_names}
use Rattle.ax_expr.proofs.ShownLemmas.{shown_join}
use Rattle.ax_expr.proofs.tree.Expr.+value.Goals as goal

-- a signed number that was passed on
same : (x : ℤ) → mag x < 9223372036854775808 → to_z w64 (of_z w64 x) ≡ x
same x h = let fits : SFits w64 x = omega (arith, ints) in to_z-of_z w64 x fits

pub returns-in-Join : goal.returns-in-Join
returns-in-Join t c =
    let value_of = value (shown_facts c.args.scope.now) (shown_names c.args.scope.now) in
    let whole = ap shown_expr c.in-Join.is ∙ shown_join c.in-Join.op c.in-Join.a c.in-Join.b in
    let left = same c.value-left.result c.value-left.type_inv ∙ c.value-left.ensures ∙ ap (λ e. value_of (shown_expr e)) c.get.ensures in
    let right = same c.value-right.result c.value-right.type_inv ∙ c.value-right.ensures ∙ ap (λ e. value_of (shown_expr e)) c.get-in-Join.ensures in
    same c.apply_op.result c.apply_op.type_inv ∙ c.apply_op.ensures ∙ ap (λ x. apply_op c.in-Join.op x (to_z w64 (of_z w64 c.value-right.result))) left
    ∙ ap (apply_op c.in-Join.op (value_of (shown_expr c.in-Join.a))) right ∙ sym (ap value_of whole)
