use Rattle.std.proofs.Common.{◌∙◌, sym, ap}
use Rattle.ax_buffer.specs.declared.chain.Chain.{Chain}
use Rattle.ax_buffer.proofs.ChainLemmas.{has_chain, chain_is, length_is}
use Rattle.ax_buffer.proofs.buffer.RequestBuffer.active_len.Goals as goal

pub returns : goal.returns
returns c =
    let old = c.self.inside in
    let there = has_chain old.nodes old.chains.items old.room c.args.self.now c.self.view_is c.args.shard c.requires in
    ap (λ (x : Chain). x.length) (chain_is old.nodes old.chains.items old.room c.args.self.now c.self.view_is c.args.shard _ there c.index.ensures)
    ∙ sym (length_is old.nodes old.chains.items old.room c.args.self.now c.self.view_is c.self.invariant c.args.shard)
