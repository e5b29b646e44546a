use Rattle.std.proofs.Common.{inr}
use Rattle.std.specs.Io.KnownBytes.{append_known}
use Rattle.ax_base.proofs.OutsideLemmas.{Appends-kept}
use Rattle.ax_task.proofs.Written.{at_err, AppendsSome-all}
use Rattle.ax_task.proofs.engine.Engine.write_through.Goals as goal

pub returns-clause-part : goal.returns-clause-part
returns-clause-part g c =
    let held = g.K.Sink.holds in
    let h0 = append_known (held c.args.out.now.inner.now) c.args.out.now.room.now in
    let h1 = append_known (held c.write_marker.new.out.inner.now) c.write_marker.new.out.room.now in
    let h2 = append_known (held c.flush.new.self.inner.now) c.flush.new.self.room.now in
    let w = c.in_ok-write_marker.ensures.wrote in
    at_err c.flush.result (inr (record { text = w.text; is = w.is; part = AppendsSome-all h0 h2 w.text (Appends-kept h0 h1 h2 w.text w.grown c.flush.ensures.holds) }))
