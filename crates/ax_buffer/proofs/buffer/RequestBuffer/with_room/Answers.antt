use Rattle.std.proofs.Common.{◌∙◌, sym, ap, subst, arith, length, map}
use Rattle.ax_buffer.specs.Buffer.{total}
use Rattle.ax_buffer.specs.Chains.{IsSound, shown_queue}
use Rattle.ax_buffer.proofs.ChainLemmas.{sound_empty, queues_empty, total_empty}
use Rattle.ax_buffer.proofs.buffer.RequestBuffer.with_room.Goals as goal

pub invariant_of-result : goal.invariant_of-result
invariant_of-result c =
    subst (λ chains. IsSound c.in-Ok.nodes chains c.args.room) (sym c.in_ok-empty_chains.ensures)
    (sound_empty c.in-Ok.nodes c.args.shards c.args.room c.in-Ok.ensures.empty c.in-Ok.ensures.capacity (omega (arith, c.ranges.room)))

pub returns-clause-queues : goal.returns-clause-queues
returns-clause-queues c = ap (map (shown_queue c.in-Ok.nodes)) c.in_ok-empty_chains.ensures ∙ queues_empty c.in-Ok.nodes c.args.shards

pub returns-clause-empty : goal.returns-clause-empty
returns-clause-empty c = ap (λ chains. total length (map (shown_queue c.in-Ok.nodes) chains)) c.in_ok-empty_chains.ensures ∙ total_empty c.in-Ok.nodes c.args.shards
