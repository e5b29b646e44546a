use Rattle.std.proofs.Common.{sym, subst}
use Rattle.ax_future.specs.Least.{HasLeast}
use Rattle.ax_future.specs.Nodes.{cursor_in, control_in}
use Rattle.ax_future.specs.declared.node.Node.{Node}
use Rattle.ax_future.proofs.LeastLemmas.{arms_least}
use Rattle.ax_future.proofs.least.+least_of.Goals as goal

pub returns-in-Arms : goal.returns-in-Arms
returns-in-Arms t c p =
    let whole : Node → Type 0 = λ n. HasLeast (control_in p n) c.lesser.result in
    let one : Node → Type 0 = λ n. HasLeast (control_in p n) c.least_of.result in
    let two : Node → Type 0 = λ n. HasLeast (control_in p n) c.least_of-in-Arms.result in
    subst whole (sym c.in-Arms.is) (arms_least (control_in p c.in-Arms.one.value) (control_in p c.in-Arms.two.value) (cursor_in p c.in-Arms.cursor.items)
    c.least_of.result c.least_of-in-Arms.result c.lesser.result (subst one c.deref.ensures (c.least_of.ensures p)) (subst two c.deref-in-Arms.ensures (c.least_of-in-Arms.ensures p)) c.lesser.ensures)
