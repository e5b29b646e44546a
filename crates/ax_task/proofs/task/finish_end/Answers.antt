use Rattle.std.proofs.Common.{refl, sym, ◌∙◌}
use Rattle.std.proofs.lemmas.Bool.{both_ways}
use Rattle.ax_task.specs.Reads.{sink_end, is_stopped}
use Rattle.ax_task.proofs.Going.{sink_rest}
use Rattle.ax_task.proofs.Running.{begins_trans, end_stopped, end_kept, end_cut, end_as}
use Rattle.ax_task.specs.Things.{AtEnd}
use Rattle.ax_task.proofs.Stepping.{stop_sink, stop_none, end_was, rests_unwritten}
use Rattle.ax_task.proofs.task.finish_end.Goals as goal

pub returns-then-is_stopped-clause-ended : goal.returns-then-is_stopped-clause-ended
returns-then-is_stopped-clause-ended g c = λ s p from left reads b x.
    let holds = g.K.Sink.holds in
    let out = c.args.out.now in
    end_stopped s p from left reads (holds out.inner.now) out.room.now (g.K.Sink.counts out.inner.now) c.args.end x (sym c.is_stopped.ensures ∙ c.if-is_stopped.true)
    (begins_trans from.outer.holds g.B.Begun.held (holds out.inner.now) b out.begun)

pub returns-in-Ok-clause-ended : goal.returns-in-Ok-clause-ended
returns-in-Ok-clause-ended g c = λ s p from left reads b x.
    let holds = g.K.Sink.holds in
    let counts = g.K.Sink.counts in
    let out = c.args.out.now in
    let flushed = c.flush.new.self in
    end_kept s p from left reads (holds out.inner.now) out.room.now (counts out.inner.now) c.args.end x (sym c.is_stopped.ensures ∙ c.if-is_stopped.false)
    (holds flushed.inner.now) flushed.room.now (counts flushed.inner.now) c.flush.ensures.holds c.in-Ok.ensures.empty c.in-Ok.ensures.counts

pub returns-in-Err-clause-ended : goal.returns-in-Err-clause-ended
returns-in-Err-clause-ended g c = λ s p from left reads b x.
    let holds = g.K.Sink.holds in
    let counts = g.K.Sink.counts in
    let out = c.args.out.now in
    let flushed = c.flush.new.self in
    end_as s p from _ (sink_end c.in-Err.fault) c.end_of.result c.end_of.ensures
    (end_cut s p from left reads (holds out.inner.now) out.room.now (counts out.inner.now) c.args.end x (sym c.is_stopped.ensures ∙ c.if-is_stopped.false)
    (holds flushed.inner.now) flushed.room.now (counts flushed.inner.now) c.flush.ensures.holds c.in-Err.fault
    (begins_trans from.outer.holds g.B.Begun.held (holds flushed.inner.now) b flushed.begun) c.in-Err.ensures.counts)

pub returns-in-Err-clause-rest : goal.returns-in-Err-clause-rest
returns-in-Err-clause-rest g c = λ a found r. sink_rest a found c.in-Err.fault c.end_of.result c.end_of.ensures

pub returns-in-Ok-clause-breaks : goal.returns-in-Ok-clause-breaks
returns-in-Ok-clause-breaks g c = λ t old e r lines left reads x y. stop_none _ c.args.end (sym c.is_stopped.ensures ∙ c.if-is_stopped.false)

pub returns-in-Err-clause-breaks : goal.returns-in-Err-clause-breaks
returns-in-Err-clause-breaks g c = λ t old e r lines left reads x y.
    let holds = g.K.Sink.holds in
    let counts = g.K.Sink.counts in
    let out = c.args.out.now in
    let flushed = c.flush.new.self in
    stop_sink c.in-Err.fault c.end_of.result c.end_of.ensures
    (AtEnd (rests_unwritten t (record { engine = e; reading = r; lines = lines; gathered = out.room.now }) (record { engine = e; reading = r; lines = lines; gathered = flushed.room.now })
    old (record { left = left; reads = reads; holds = holds out.inner.now; writes = counts out.inner.now }) (record { left = left; reads = reads; holds = holds flushed.inner.now; writes = counts flushed.inner.now })
    refl refl c.flush.ensures.holds (end_was c.args.end (sym c.is_stopped.ensures ∙ c.if-is_stopped.false) x)))

pub returns-in-Ok-clause-still : goal.returns-in-Ok-clause-still
returns-in-Ok-clause-still g c = λ h. absurd (both_ways (is_stopped c.args.end) (sym c.is_stopped.ensures ∙ c.if-is_stopped.false) h)

pub returns-in-Err-clause-still : goal.returns-in-Err-clause-still
returns-in-Err-clause-still g c = λ h. absurd (both_ways (is_stopped c.args.end) (sym c.is_stopped.ensures ∙ c.if-is_stopped.false) h)
