use Rattle.std.proofs.Common.{◌∙◌, ℕ, List, sym, ap}
use Rattle.ax_text.specs.Controls.{also, give_in}
use Rattle.ax_future.specs.Nodes.{control_in}
use Rattle.ax_future.specs.Talks.{known_in, talk_of, asks_in}
use Rattle.ax_future.proofs.machine.give.Goals as goal

pub returns : goal.returns
returns c =
    let p = c.args.program.now in
    let k = control_in p c.args.node.now in
    ap (λ (us : List ℕ). also (asks_in c.args.going.now.said.asks) (give_in (known_in c.args.facts.now) k c.args.slot c.args.answer us (talk_of c.args.going.now))) (sym (c.deref.ensures.value ∙ c.in_ok-others.ensures p))
    ∙ c.in_ok-give_in.ensures
