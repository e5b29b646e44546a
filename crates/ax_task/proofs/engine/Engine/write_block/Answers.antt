use Rattle.std.proofs.Common.{ℤ, w64, inr, subst}
use Rattle.std.proofs.lemmas.Int.{to_z-of_z}
use Rattle.ax_base.specs.Outside.{AppendsSome}
use Rattle.ax_task.specs.Engines.{IsBlockOf}
use Rattle.ax_task.proofs.Written.{on_err, some_of_part, own_counts}
use Rattle.ax_task.proofs.engine.Engine.write_block.Goals as goal

pub returns-clause-part : goal.returns-clause-part
returns-clause-part g c =
    let before = g.K.Sink.holds c.args.out.now in
    let behind = g.K.Sink.holds c.write_all.new.out in
    on_err c.write_all.result c.write_all.ensures.part (λ a. inr (record {
      text = c.in-Ok.bytes;
      is = subst (λ (z : ℤ). IsBlockOf c.args.self.now z c.in-Ok.bytes) (to_z-of_z w64 c.args.id c.ranges.id) c.in-Ok.ensures;
      part = subst (AppendsSome before behind) c.as_slice.ensures (some_of_part before behind c.as_slice.result.now a);
    }))

pub returns-clause-counts : goal.returns-clause-counts
returns-clause-counts g c = own_counts (g.K.Sink.counts c.args.out.now) (g.K.Sink.counts c.write_all.new.out) c.write_all.result c.write_all.ensures.counts
