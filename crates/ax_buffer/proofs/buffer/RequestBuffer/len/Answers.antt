use Rattle.std.proofs.Common.{◌∙◌, sym, arith}
use Rattle.ax_buffer.proofs.ChainLemmas.{total_is}
use Rattle.ax_buffer.proofs.buffer.RequestBuffer.len.Goals as goal

pub overflow_cast-result : goal.overflow_cast-result
overflow_cast-result c = omega (arith, c.len.ensures, c.self.invariant.within, c.self.invariant.small)

pub returns-clause-value : goal.returns-clause-value
returns-clause-value c =
    let old = c.self.inside in
    c.len.ensures ∙ sym (total_is old.nodes old.chains.items old.room c.args.self.now c.self.view_is c.self.invariant)
