use Rattle.std.proofs.Common.{arith, drop, ◌+◌}
use Rattle.std.proofs.lemmas.Grind.{common_steps}
use Rattle.ax_expr.proofs.read.read_expr.Goals as goal

pub returns-in_err-operand : goal.returns-in_err-operand
returns-in_err-operand c =
    let h = c.step.ensures (drop (c.loop-token.token-index + 1) c.args.tokens.now) in
    grind (arith, common_steps, h)
