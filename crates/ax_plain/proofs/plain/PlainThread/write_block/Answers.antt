use Rattle.std.proofs.Common.{◌∙◌, ℕ, List, subst}
use Rattle.ax_base.specs.Outside.{AppendsSome}
use Rattle.ax_plain.proofs.RunLemmas.{on_err}
use Rattle.ax_plain.proofs.plain.PlainThread.write_block.Goals as goal

pub returns-clause-part : goal.returns-clause-part
returns-clause-part g c =
    let P : List ℕ → Type 0 = AppendsSome (g.K.Sink.holds c.args.out.now) (g.K.Sink.holds c.write_all.new.out) in
    on_err c.write_all.result c.write_all.ensures.part (λ a. subst P (c.as_slice.ensures ∙ c.in-Ok.ensures) (a.0, a.2))
