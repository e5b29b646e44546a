use Rattle.std.proofs.Common.{length, arith}
use Rattle.ax_lang.specs.Forms.{form_of}
use Rattle.ax_lang.proofs.LinkLemmas.{plain_form, plain_top, linked_plain}
use Rattle.ax_lang.proofs.link.link_stmt.Goals as goal

pub add_step-requires : goal.add_step-requires
add_step-requires c =
    let n = length c.args.steps.now.items in
    let t = c.take_starts-block.ensures in
    let none = plain_top (form_of c.args.stmt) (plain_form c.args.stmt c.in_default.not-If c.in_default.not-Each c.in_default.not-Both) in
    (t.up n c.requires, t.text n c.requires, t.second n c.requires, omega (arith, none))

pub returns-in_ok-add_step-in_default : goal.returns-in_ok-add_step-in_default
returns-in_ok-add_step-in_default c =
    linked_plain c.args.steps.now.items c.add_step.new.steps.items c.args.blocks.now.items c.take_starts-block.new.blocks.items c.add_step.new.blocks.items c.take_starts-block.result c.args.stmt (plain_form c.args.stmt c.in_default.not-If c.in_default.not-Each c.in_default.not-Both) c.take_starts-block.ensures c.in_ok-add_step-in_default.ensures
