use Rattle.ax_lang.proofs.LinkLemmas.{linked_end}
use Rattle.ax_lang.proofs.link.link_end.Goals as goal

pub returns : goal.returns
returns c = linked_end c.args.steps.now c.args.blocks.now.items c.push_starts.new.blocks.items c.requires c.in_ok-push_starts.ensures
