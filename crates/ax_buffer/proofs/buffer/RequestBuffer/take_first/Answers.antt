use Rattle.std.proofs.Common.{◌<◌, sym, ap, subst, arith}
use Rattle.slab.specs.Slab.{ContainsKey}
use Rattle.ax_buffer.specs.declared.chain.Chain.{Chain}
use Rattle.ax_buffer.specs.Chains.{chain_of, IsDetached}
use Rattle.ax_buffer.proofs.ChainLemmas.{some_chain, chain_is, length_is, first_live}
use Rattle.ax_buffer.proofs.TakeLemmas.{sound_taken, first_taken, queues_taken, total_after}
use Rattle.ax_buffer.proofs.buffer.RequestBuffer.take_first.Goals as goal

pub detach-item-requires-clause-some : goal.detach-item-requires-clause-some
detach-item-requires-clause-some c =
    let old = c.self.inside in
    let there = some_chain old.nodes old.chains.items old.room c.args.self.now c.self.view_is c.args.shard c.requires in
    let is = chain_is old.nodes old.chains.items old.room c.args.self.now c.self.view_is c.args.shard _ there c.index.ensures in
    omega (arith, ap (λ (x : Chain). x.length) is, c.requires, length_is old.nodes old.chains.items old.room c.args.self.now c.self.view_is c.self.invariant c.args.shard)

pub detach-item-requires-clause-live : goal.detach-item-requires-clause-live
detach-item-requires-clause-live c =
    let old = c.self.inside in
    let there = some_chain old.nodes old.chains.items old.room c.args.self.now c.self.view_is c.args.shard c.requires in
    let is = chain_is old.nodes old.chains.items old.room c.args.self.now c.self.view_is c.args.shard _ there c.index.ensures in
    let long = length_is old.nodes old.chains.items old.room c.args.self.now c.self.view_is c.self.invariant c.args.shard in
    let some : 0 < (chain_of old.chains.items c.args.shard).length = omega (arith, c.requires, long) in
    subst (λ (x : Chain). ContainsKey old.nodes x.first) (sym is) (first_live old.nodes old.chains.items old.room c.args.shard c.self.invariant some)

pub invariant_of-self : goal.invariant_of-self
invariant_of-self c =
    let old = c.self.inside in
    let there = some_chain old.nodes old.chains.items old.room c.args.self.now c.self.view_is c.args.shard c.requires in
    let is = chain_is old.nodes old.chains.items old.room c.args.self.now c.self.view_is c.args.shard _ there c.index.ensures in
    let told = subst (λ (x : Chain). IsDetached old.nodes c.detach-item.new.nodes x c.detach-item.result.1 c.detach-item.result.0) is c.detach-item.ensures.detached in
    let long = length_is old.nodes old.chains.items old.room c.args.self.now c.self.view_is c.self.invariant c.args.shard in
    let some : 0 < (chain_of old.chains.items c.args.shard).length = omega (arith, c.requires, long) in
    sound_taken old.nodes c.detach-item.new.nodes old.chains.items old.room c.args.shard c.detach-item.result.1 c.detach-item.result.0 c.self.invariant there some told c.detach-item.ensures.len c.detach-item.ensures.capacity

pub returns-clause-first : goal.returns-clause-first
returns-clause-first c =
    let old = c.self.inside in
    let there = some_chain old.nodes old.chains.items old.room c.args.self.now c.self.view_is c.args.shard c.requires in
    let is = chain_is old.nodes old.chains.items old.room c.args.self.now c.self.view_is c.args.shard _ there c.index.ensures in
    let told = subst (λ (x : Chain). IsDetached old.nodes c.detach-item.new.nodes x c.detach-item.result.1 c.detach-item.result.0) is c.detach-item.ensures.detached in
    let long = length_is old.nodes old.chains.items old.room c.args.self.now c.self.view_is c.self.invariant c.args.shard in
    let some : 0 < (chain_of old.chains.items c.args.shard).length = omega (arith, c.requires, long) in
    first_taken old.nodes c.detach-item.new.nodes old.chains.items old.room c.args.shard c.detach-item.result.1 c.detach-item.result.0 c.self.invariant there some told c.args.self.now c.self.view_is

pub returns-clause-queues : goal.returns-clause-queues
returns-clause-queues c =
    let old = c.self.inside in
    let there = some_chain old.nodes old.chains.items old.room c.args.self.now c.self.view_is c.args.shard c.requires in
    let is = chain_is old.nodes old.chains.items old.room c.args.self.now c.self.view_is c.args.shard _ there c.index.ensures in
    let told = subst (λ (x : Chain). IsDetached old.nodes c.detach-item.new.nodes x c.detach-item.result.1 c.detach-item.result.0) is c.detach-item.ensures.detached in
    let long = length_is old.nodes old.chains.items old.room c.args.self.now c.self.view_is c.self.invariant c.args.shard in
    let some : 0 < (chain_of old.chains.items c.args.shard).length = omega (arith, c.requires, long) in
    queues_taken old.nodes c.detach-item.new.nodes old.chains.items old.room c.args.shard c.detach-item.result.1 c.detach-item.result.0 c.self.invariant there some told c.args.self.now c.self.view_is

pub returns-clause-len : goal.returns-clause-len
returns-clause-len c =
    let old = c.self.inside in
    let there = some_chain old.nodes old.chains.items old.room c.args.self.now c.self.view_is c.args.shard c.requires in
    let is = chain_is old.nodes old.chains.items old.room c.args.self.now c.self.view_is c.args.shard _ there c.index.ensures in
    let told = subst (λ (x : Chain). IsDetached old.nodes c.detach-item.new.nodes x c.detach-item.result.1 c.detach-item.result.0) is c.detach-item.ensures.detached in
    let long = length_is old.nodes old.chains.items old.room c.args.self.now c.self.view_is c.self.invariant c.args.shard in
    let some : 0 < (chain_of old.chains.items c.args.shard).length = omega (arith, c.requires, long) in
    total_after old.nodes c.detach-item.new.nodes old.chains.items old.room c.args.shard c.detach-item.result.1 c.detach-item.result.0 c.self.invariant there some told c.args.self.now c.self.view_is
