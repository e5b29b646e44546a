use Rattle.std.proofs.Common.{◌-◌, ◌∙◌, ap, drop, length, arith}
use Rattle.std.proofs.lemmas.List.{length-take}
use Rattle.ax_base.proofs.WindowLemmas.{drop-part}
use Rattle.ax_base.proofs.gather.Room.pass.Goals as goal

pub returns : goal.returns
returns c =
    let r = c.self.inside in
    let long = ap length c.self.view_is in
    drop-part r.bytes.items r.from r.to c.args.n (omega (arith, length-take (r.to - r.from) (drop r.from r.bytes.items), long)) ∙ ap (drop c.args.n) c.self.view_is
