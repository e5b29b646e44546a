use Rattle.std.proofs.Common.{◌∙◌, sym}
use Rattle.ax_lang.proofs.LinkLemmas.{empty_list, taken_some, taken_none}
use Rattle.ax_lang.proofs.link.take_starts.Goals as goal

pub returns-in-Some : goal.returns-in-Some
returns-in-Some c = taken_some c.args.blocks.now.items c.pop.new.self.items c.in-Some.starts c.in-Some.ensures.items

pub returns-in-None : goal.returns-in-None
returns-in-None c =
    taken_none c.args.blocks.now.items c.pop.new.self.items (empty_list c.args.blocks.now.items (sym c.args.blocks.now.ok.0 ∙ c.in-None.ensures.cases.0)) (empty_list c.pop.new.self.items (sym c.pop.new.self.ok.0 ∙ c.in-None.ensures.cases.1))
