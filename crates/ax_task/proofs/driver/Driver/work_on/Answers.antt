use Rattle.std.proofs.Common.{◌≡◌, true, false, Bool, rules, refl, sym, subst, arith}
use Rattle.std.specs.Io.KnownBytes.{append_known}
use Rattle.ax_task.specs.Tasks.{Outer, HasEnded}
use Rattle.ax_task.specs.declared.end.End.{End}
use Rattle.ax_task.proofs.EngineLemmas.{ready_behind}
use Rattle.ax_task.proofs.TaskLemmas.{went_on, broke_off}
use Rattle.ax_task.proofs.Going.{goes_as, sink_rest}
use Rattle.ax_task.specs.Things.{Works, AtWork, AtInput}
use Rattle.ax_task.specs.Running.{State}
use Rattle.ax_task.proofs.ReadingLemmas.{finds_same}
use Rattle.ax_task.proofs.Stepping.{reads_next, counts_still, sink_counts, stop_sink, stop_any}
use Rattle.ax_task.proofs.driver.Driver.work_on.Goals as goal

pub read_on-requires-clause-ready : goal.read_on-requires-clause-ready
read_on-requires-clause-ready g c =
    let held = g.K.Sink.holds in
    ready_behind c.args.self.now.engine c.work.new.self c.requires.ready (append_known (held c.args.out.now.inner.now) c.args.out.now.room.now) (append_known (held c.work.new.out.inner.now) c.work.new.out.room.now) c.in-Ok-false.ensures.writes

pub returns-in-Ok-true-clause-steps : goal.returns-in-Ok-true-clause-steps
returns-in-Ok-true-clause-steps g c = λ s p from x.
    let held = g.K.Sink.holds in
    let counts = g.K.Sink.counts in
    let now : Outer = record { left = g.S.Source.left c.args.input.now; reads = g.S.Source.faults c.args.input.now; holds = append_known (held c.args.out.now.inner.now) c.args.out.now.room.now; writes = counts c.args.out.now.inner.now } in
    let h = append_known (held c.work.new.out.inner.now) c.work.new.out.room.now in
    let w = counts c.work.new.out.inner.now in
    went_on s p from c.args.self.now.engine c.args.self.now.reading c.args.lines.now now x c.work.new.self h w c.in-Ok-true.ensures.writes c.in-Ok-true.ensures.counts

pub returns-in-Ok-false-clause-steps : goal.returns-in-Ok-false-clause-steps
returns-in-Ok-false-clause-steps g c = λ s p from x.
    let held = g.K.Sink.holds in
    let counts = g.K.Sink.counts in
    let now : Outer = record { left = g.S.Source.left c.args.input.now; reads = g.S.Source.faults c.args.input.now; holds = append_known (held c.args.out.now.inner.now) c.args.out.now.room.now; writes = counts c.args.out.now.inner.now } in
    let h = append_known (held c.work.new.out.inner.now) c.work.new.out.room.now in
    let w = counts c.work.new.out.inner.now in
    c.read_on.ensures.steps h w s p from (went_on s p from c.args.self.now.engine c.args.self.now.reading c.args.lines.now now x c.work.new.self h w c.in-Ok-false.ensures.writes c.in-Ok-false.ensures.counts)

pub returns-in-Err-clause-steps : goal.returns-in-Err-clause-steps
returns-in-Err-clause-steps g c = λ s p from x.
    let held = g.K.Sink.holds in
    let counts = g.K.Sink.counts in
    let now : Outer = record { left = g.S.Source.left c.args.input.now; reads = g.S.Source.faults c.args.input.now; holds = append_known (held c.args.out.now.inner.now) c.args.out.now.room.now; writes = counts c.args.out.now.inner.now } in
    let h = append_known (held c.work.new.out.inner.now) c.work.new.out.room.now in
    let w = counts c.work.new.out.inner.now in
    subst (λ (e : End). HasEnded s p from (record { left = now.left; reads = now.reads; holds = h; writes = w }) e) (sym c.end_of.ensures)
    (broke_off s p from c.args.self.now.engine c.args.self.now.reading c.args.lines.now now x Bool c.in-Err.fault h w c.in-Err.ensures.part c.in-Err.ensures.counts)

pub returns-in-Ok-true-clause-goes : goal.returns-in-Ok-true-clause-goes
returns-in-Ok-true-clause-goes g c =
    let done : c.in-Ok-true.field-0 ≡ true = search rules in
    (c.in-Ok-true.ensures.falls done, omega arith)

pub returns-in-Ok-false-clause-goes : goal.returns-in-Ok-false-clause-goes
returns-in-Ok-false-clause-goes g c =
    let done : c.in-Ok-false.field-0 ≡ false = search rules in
    goes_as c.args.self.now.engine c.work.new.self c.read_on.new.self.engine c.args.self.now.reading c.args.self.now.reading c.read_on.new.self.reading c.args.lines.now c.read_on.new.lines c.read_on.result
    (c.in-Ok-false.ensures.still done) refl c.read_on.ensures.goes

pub returns-in-Ok-true-clause-finds : goal.returns-in-Ok-true-clause-finds
returns-in-Ok-true-clause-finds g c = finds_same c.args.self.now.reading.found (g.S.Source.left c.args.input.now) (g.S.Source.faults c.args.input.now)

pub returns-in-Err-clause-finds : goal.returns-in-Err-clause-finds
returns-in-Err-clause-finds g c = finds_same c.args.self.now.reading.found (g.S.Source.left c.args.input.now) (g.S.Source.faults c.args.input.now)

pub returns-in-Err-clause-rest : goal.returns-in-Err-clause-rest
returns-in-Err-clause-rest g c = sink_rest c.work.new.self.core c.args.self.now.reading.found c.in-Err.fault c.end_of.result c.end_of.ensures

pub returns-in-Ok-true-clause-does : goal.returns-in-Ok-true-clause-does
returns-in-Ok-true-clause-does g c =
    let done : c.in-Ok-true.field-0 ≡ true = search rules in
    Works (c.in-Ok-true.ensures.works done) refl

pub returns-in-Ok-true-clause-steady : goal.returns-in-Ok-true-clause-steady
returns-in-Ok-true-clause-steady g c =
    let held = g.K.Sink.holds in
    record {
      ready = ready_behind c.args.self.now.engine c.work.new.self c.requires.ready (append_known (held c.args.out.now.inner.now) c.args.out.now.room.now) (append_known (held c.work.new.out.inner.now) c.work.new.out.room.now) c.in-Ok-true.ensures.writes;
      may = c.requires.may;
      found = c.requires.found;
      none = c.requires.none;
    }

pub returns-in-Ok-false-clause-does : goal.returns-in-Ok-false-clause-does
returns-in-Ok-false-clause-does g c =
    let held = g.K.Sink.holds in
    let counts = g.K.Sink.counts in
    let left = g.S.Source.left in
    let faults = g.S.Source.faults in
    let t : State = record { engine = c.args.self.now.engine; reading = c.args.self.now.reading; lines = c.args.lines.now; gathered = c.args.out.now.room.now } in
    let old : Outer = record { left = left c.args.input.now; reads = faults c.args.input.now; holds = held c.args.out.now.inner.now; writes = counts c.args.out.now.inner.now } in
    let out = c.work.new.out in
    let done : c.in-Ok-false.field-0 ≡ false = search rules in
    let read = c.read_on.new in
    reads_next t (record { engine = read.self.engine; reading = read.self.reading; lines = read.lines; gathered = out.room.now }) old (record { left = left read.input; reads = faults read.input; holds = held out.inner.now; writes = counts out.inner.now })
    c.work.new.self c.read_on.result (c.in-Ok-false.ensures.no_work done) (c.in-Ok-false.ensures.still done) (c.in-Ok-false.ensures.unwritten done) c.read_on.ensures.does

pub returns-in-Ok-false-clause-counts : goal.returns-in-Ok-false-clause-counts
returns-in-Ok-false-clause-counts g c =
    let counts = g.K.Sink.counts in
    counts_still (counts c.args.out.now.inner.now) (counts c.work.new.out.inner.now) c.read_on.result c.in-Ok-false.ensures.counts (c.read_on.ensures.counts (counts c.args.out.now.inner.now))

pub returns-in-Err-clause-counts : goal.returns-in-Err-clause-counts
returns-in-Err-clause-counts g c =
    let counts = g.K.Sink.counts in
    sink_counts Bool (counts c.args.out.now.inner.now) (counts c.work.new.out.inner.now) c.in-Err.fault c.end_of.result c.end_of.ensures c.in-Err.ensures.counts

pub returns-in-Ok-false-clause-breaks : goal.returns-in-Ok-false-clause-breaks
returns-in-Ok-false-clause-breaks g c =
    let done : c.in-Ok-false.field-0 ≡ false = search rules in
    stop_any c.read_on.result (AtInput (c.in-Ok-false.ensures.no_work done) (c.in-Ok-false.ensures.unwritten done))

pub returns-in-Err-clause-breaks : goal.returns-in-Err-clause-breaks
returns-in-Err-clause-breaks g c = stop_sink c.in-Err.fault c.end_of.result c.end_of.ensures (AtWork c.in-Err.ensures.breaks)
