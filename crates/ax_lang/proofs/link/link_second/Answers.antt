use Rattle.ax_lang.proofs.LinkLemmas.{linked_second}
use Rattle.ax_lang.proofs.link.link_second.Goals as goal

pub returns : goal.returns
returns c = linked_second c.args.steps.now c.args.blocks.now.items c.take_starts-second.new.blocks.items c.push_starts.new.blocks.items c.take_starts-second.result c.requires c.take_starts-second.ensures c.in_ok-push_starts.ensures
