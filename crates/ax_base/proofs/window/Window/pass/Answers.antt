use Rattle.std.proofs.Common.{◌-◌, ◌∙◌, ap, drop, length, arith}
use Rattle.std.proofs.lemmas.List.{length-take}
use Rattle.ax_base.proofs.WindowLemmas.{drop-part}
use Rattle.ax_base.proofs.window.Window.pass.Goals as goal

pub returns : goal.returns
returns c =
    let w = c.self.inside in
    let long = ap length c.self.view_is in
    drop-part w.bytes.items w.from w.to c.args.n (omega (arith, length-take (w.to - w.from) (drop w.from w.bytes.items), long)) ∙ ap (drop c.args.n) c.self.view_is
