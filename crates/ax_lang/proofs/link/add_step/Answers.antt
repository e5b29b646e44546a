use Rattle.std.proofs.Common.{◌∙◌}
use Rattle.ax_lang.proofs.LinkLemmas.{added}
use Rattle.ax_lang.proofs.link.add_step.Goals as goal

pub returns : goal.returns
returns c = added c.args.steps.now.items c.push_step.new.steps.items c.args.blocks.now.items c.push_starts.new.blocks.items c.len-text.result c.args.block c.args.stmt c.requires c.in_ok-push_step.ensures (c.len-text.ensures ∙ c.push_step.new.steps.ok.0) c.in_ok-push_starts.ensures
