use Rattle.std.proofs.Common.{◌<◌, sym, ap, subst, arith}
use Rattle.slab.specs.Slab.{ContainsKey}
use Rattle.ax_buffer.specs.declared.chain.Chain.{Chain}
use Rattle.ax_buffer.specs.Chains.{IsAppended}
use Rattle.ax_buffer.proofs.ChainLemmas.{room_is, has_chain, chain_is, total_is, last_live, short_chain}
use Rattle.ax_buffer.proofs.PushLemmas.{sound_pushed, queues_pushed, total_after}
use Rattle.ax_buffer.proofs.buffer.RequestBuffer.push.Goals as goal

pub append-longer-requires-clause-room : goal.append-longer-requires-clause-room
append-longer-requires-clause-room c =
    let old = c.self.inside in
    omega (arith, c.requires.room, room_is old.nodes old.chains.items old.room c.args.self.now c.self.view_is, total_is old.nodes old.chains.items old.room c.args.self.now c.self.view_is c.self.invariant, c.self.invariant.reserved)

pub append-longer-requires-clause-live : goal.append-longer-requires-clause-live
append-longer-requires-clause-live c =
    let old = c.self.inside in
    let there = has_chain old.nodes old.chains.items old.room c.args.self.now c.self.view_is c.args.shard c.requires.shard in
    let is = chain_is old.nodes old.chains.items old.room c.args.self.now c.self.view_is c.args.shard _ there c.index.ensures in
    subst (λ (x : Chain). 0 < x.length → ContainsKey old.nodes x.last) (sym is) (last_live old.nodes old.chains.items old.room c.args.shard c.self.invariant)

pub append-longer-requires-clause-short : goal.append-longer-requires-clause-short
append-longer-requires-clause-short c =
    let old = c.self.inside in
    let there = has_chain old.nodes old.chains.items old.room c.args.self.now c.self.view_is c.args.shard c.requires.shard in
    let is = ap (λ (x : Chain). x.length) (chain_is old.nodes old.chains.items old.room c.args.self.now c.self.view_is c.args.shard _ there c.index.ensures) in
    omega (arith, is, short_chain old.nodes old.chains.items old.room c.args.shard c.self.invariant there, c.requires.room, room_is old.nodes old.chains.items old.room c.args.self.now c.self.view_is, total_is old.nodes old.chains.items old.room c.args.self.now c.self.view_is c.self.invariant, c.self.invariant.small)

pub invariant_of-self : goal.invariant_of-self
invariant_of-self c =
    let old = c.self.inside in
    let there = has_chain old.nodes old.chains.items old.room c.args.self.now c.self.view_is c.args.shard c.requires.shard in
    let is = chain_is old.nodes old.chains.items old.room c.args.self.now c.self.view_is c.args.shard _ there c.index.ensures in
    let told = subst (λ (x : Chain). IsAppended old.nodes c.append-longer.new.nodes x c.append-longer.result c.args.item) is c.append-longer.ensures.appended in
    sound_pushed old.nodes c.append-longer.new.nodes old.chains.items old.room c.args.shard c.append-longer.result c.args.item c.self.invariant there told c.append-longer.ensures.len c.append-longer.ensures.capacity
    (omega (arith, c.requires.room, room_is old.nodes old.chains.items old.room c.args.self.now c.self.view_is, total_is old.nodes old.chains.items old.room c.args.self.now c.self.view_is c.self.invariant))

pub returns-clause-queues : goal.returns-clause-queues
returns-clause-queues c =
    let old = c.self.inside in
    let there = has_chain old.nodes old.chains.items old.room c.args.self.now c.self.view_is c.args.shard c.requires.shard in
    let is = chain_is old.nodes old.chains.items old.room c.args.self.now c.self.view_is c.args.shard _ there c.index.ensures in
    let told = subst (λ (x : Chain). IsAppended old.nodes c.append-longer.new.nodes x c.append-longer.result c.args.item) is c.append-longer.ensures.appended in
    queues_pushed old.nodes c.append-longer.new.nodes old.chains.items old.room c.args.shard c.append-longer.result c.args.item c.self.invariant there told c.args.self.now c.self.view_is

pub returns-clause-len : goal.returns-clause-len
returns-clause-len c =
    let old = c.self.inside in
    let there = has_chain old.nodes old.chains.items old.room c.args.self.now c.self.view_is c.args.shard c.requires.shard in
    let is = chain_is old.nodes old.chains.items old.room c.args.self.now c.self.view_is c.args.shard _ there c.index.ensures in
    let told = subst (λ (x : Chain). IsAppended old.nodes c.append-longer.new.nodes x c.append-longer.result c.args.item) is c.append-longer.ensures.appended in
    total_after old.nodes c.append-longer.new.nodes old.chains.items old.room c.args.shard c.append-longer.result c.args.item c.self.invariant there told c.args.self.now c.self.view_is
