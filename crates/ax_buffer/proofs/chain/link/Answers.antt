use Rattle.std.proofs.Common.{sym, ap, ◌∙◌}
use Rattle.slab.proofs.SlabLemmas.{Updates-with_value}
use Rattle.ax_buffer.specs.Chains.{next_of, item_of}
use Rattle.ax_buffer.proofs.chain.link.Goals as goal

pub returns-clause-next : goal.returns-clause-next
unfolding next_of
returns-clause-next c = ap next_of (Updates-with_value c.args.nodes.now c.args.place _ c.requires).changed

pub returns-clause-item : goal.returns-clause-item
unfolding item_of
returns-clause-item c = ap item_of (Updates-with_value c.args.nodes.now c.args.place _ c.requires).changed ∙ sym (ap item_of c.index_mut.ensures.value)
