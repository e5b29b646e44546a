use Rattle.std.proofs.Common.{arith}
use Rattle.ax_lang.specs.declared.step.Stmt.TheVariants as code
use Rattle.ax_lang.proofs.LinkLemmas.{can_stand, linked_both}
use Rattle.ax_lang.proofs.link.link_both.Goals as goal

pub add_step-requires : goal.add_step-requires
add_step-requires c = can_stand c.args.steps.now.items c.args.blocks.now.items c.take_starts-inner.new.blocks.items c.take_starts-block.new.blocks.items c.take_starts-inner.result c.take_starts-block.result (code.Both c.take_starts-inner.result.text c.take_starts-inner.result.second) c.requires c.take_starts-inner.ensures c.take_starts-block.ensures (omega arith)

pub returns : goal.returns
returns c = linked_both c.args.steps.now.items c.add_step.new.steps.items c.args.blocks.now.items c.take_starts-inner.new.blocks.items c.take_starts-block.new.blocks.items c.add_step.new.blocks.items c.take_starts-inner.result c.take_starts-block.result c.take_starts-inner.ensures c.take_starts-block.ensures c.in_ok-add_step.ensures
