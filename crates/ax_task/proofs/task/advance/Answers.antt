use Rattle.std.proofs.Common.{ap, sym, ◌∙◌, subst, List, ℕ, Option}
use Rattle.ax_base.specs.Gathered.{Begins}
use Rattle.ax_core.specs.declared.settings.Settings.{Settings}
use Rattle.ax_lang.specs.declared.program.Program.{Program}
use Rattle.ax_task.specs.Tasks.{Outer, From}
use Rattle.ax_task.specs.Running.{State, IsRunning, DidLeaves}
use Rattle.ax_task.proofs.Running.{moved_in, gathered_as}
use Rattle.ax_base.specs.Outside.{Counts}
use Rattle.ax_task.specs.Causes.{DidCounts}
use Rattle.ax_task.specs.Things.{Does, Ends, Breaks, ByDid, DidStop}
use Rattle.ax_task.proofs.Stepping.{does_from, breaks_from}
use Rattle.ax_task.proofs.task.advance.Goals as goal

pub returns-clause-leaves : goal.returns-clause-leaves
returns-clause-leaves g c =
    let holds = g.K.Sink.holds in
    let counts = g.K.Sink.counts in
    let old : Outer = record { left = g.S.Source.left c.args.input.now; reads = g.S.Source.faults c.args.input.now; holds = holds c.args.out.now; writes = counts c.args.out.now } in
    let sink = c.new-sink.result in
    let worked = c.work_on-worked.new in
    let behind = c.finish-did.new.out in
    let now : Outer = record { left = g.S.Source.left worked.input; reads = g.S.Source.faults worked.input; holds = holds behind.inner.now; writes = counts behind.inner.now } in
    let last : (s : Settings) (p : Program) (from : From) → IsRunning s p from (record { engine = c.args.driver.now.engine; reading = c.args.driver.now.reading; lines = c.args.lines.now; gathered = c.args.room.now }) old
    → DidLeaves s p from (record { engine = worked.self.engine; reading = worked.self.reading; lines = worked.lines; gathered = c.swap-2.new.y }) now c.finish-did.result =
    λ s p from x.
    gathered_as s p from worked.self.engine worked.self.reading worked.lines behind.room.now c.swap-2.new.y now c.finish-did.result c.swap-2.ensures.y_after
    (c.finish-did.ensures.leaves s p from worked.self.engine worked.self.reading worked.lines now.left now.reads
    (subst (λ (o : Option (List ℕ)). Begins from.outer.holds o) c.requires.held x.begun)
    (c.work_on-worked.ensures.steps s p from
    (moved_in s p from c.args.driver.now.engine c.args.driver.now.reading c.args.lines.now old.left old.reads old.holds (holds sink.inner.now) old.writes (counts sink.inner.now) c.args.room.now c.swap.new.x
    (ap holds c.new-sink.ensures.now) (ap counts c.new-sink.ensures.now) c.swap.ensures.x_after x.underway))) in
    let named = sym (c.finish-did.ensures.same ∙ c.work_on-worked.ensures.same ∙ c.new-sink.ensures.same) in
    let Leaves : _ → Type 0 = λ k. (s : Settings) (p : Program) (from : From) → IsRunning s p from (record { engine = c.args.driver.now.engine; reading = c.args.driver.now.reading; lines = c.args.lines.now; gathered = c.args.room.now }) old
    → DidLeaves s p from (record { engine = worked.self.engine; reading = worked.self.reading; lines = worked.lines; gathered = c.swap-2.new.y }) (record { left = now.left; reads = now.reads; holds = holds k; writes = counts k }) c.finish-did.result in
    subst Leaves (sym (c.out-1.given.1 named)) last

pub returns-clause-goes : goal.returns-clause-goes
returns-clause-goes g c =
    c.finish-did.ensures.goes c.args.driver.now.engine c.work_on-worked.new.self.engine c.args.driver.now.reading c.work_on-worked.new.self.reading c.args.lines.now c.work_on-worked.new.lines c.work_on-worked.ensures.goes

pub returns-clause-rest : goal.returns-clause-rest
returns-clause-rest g c = c.finish-did.ensures.rest c.work_on-worked.new.self.engine.core c.work_on-worked.new.self.reading.found c.work_on-worked.ensures.rest

pub returns-clause-counts : goal.returns-clause-counts
returns-clause-counts g c =
    let counts = g.K.Sink.counts in
    let before = counts c.args.out.now in
    let named = sym (c.finish-did.ensures.same ∙ c.work_on-worked.ensures.same ∙ c.new-sink.ensures.same) in
    let worked : DidCounts before (counts c.work_on-worked.new.out.inner.now) c.work_on-worked.result =
    subst (λ (v : Counts). DidCounts v (counts c.work_on-worked.new.out.inner.now) c.work_on-worked.result) (ap counts c.new-sink.ensures.now) c.work_on-worked.ensures.counts in
    subst (λ k. DidCounts before (counts k) c.finish-did.result) (sym (c.out-1.given.1 named)) (c.finish-did.ensures.counts before worked)

pub returns-clause-does : goal.returns-clause-does
returns-clause-does g c =
    let holds = g.K.Sink.holds in
    let counts = g.K.Sink.counts in
    let left = g.S.Source.left in
    let faults = g.S.Source.faults in
    let t : State = record { engine = c.args.driver.now.engine; reading = c.args.driver.now.reading; lines = c.args.lines.now; gathered = c.args.room.now } in
    let old : Outer = record { left = left c.args.input.now; reads = faults c.args.input.now; holds = holds c.args.out.now; writes = counts c.args.out.now } in
    let sink = c.new-sink.result in
    let worked = c.work_on-worked.new in
    let room = worked.out.room.now in
    let inner = worked.out.inner.now in
    let first = does_from t (record { engine = worked.self.engine; reading = worked.self.reading; lines = worked.lines; gathered = room })
    old (record { left = left worked.input; reads = faults worked.input; holds = holds inner; writes = counts inner })
    (holds sink.inner.now) (counts sink.inner.now) c.swap.new.x c.work_on-worked.result (ap holds c.new-sink.ensures.now) (ap counts c.new-sink.ensures.now) c.swap.ensures.x_after c.work_on-worked.ensures.does in
    let last = c.finish-did.ensures.does t old worked.self.engine worked.self.reading worked.lines (left worked.input) (faults worked.input) first in
    let Behind : List ℕ → _ → Type 0 = λ r k.
    let t' : State = record { engine = worked.self.engine; reading = worked.self.reading; lines = worked.lines; gathered = r } in
    let now : Outer = record { left = left worked.input; reads = faults worked.input; holds = holds k; writes = counts k } in
    ByDid (Does t t' old now) (Ends t t' old now) c.finish-did.result in
    let named = sym (c.finish-did.ensures.same ∙ c.work_on-worked.ensures.same ∙ c.new-sink.ensures.same) in
    subst (λ k. Behind c.swap-2.new.y k) (sym (c.out-1.given.1 named)) (subst (λ (r : List ℕ). Behind r c.finish-did.new.out.inner.now) (sym c.swap-2.ensures.y_after) last)

pub returns-clause-breaks : goal.returns-clause-breaks
returns-clause-breaks g c =
    let holds = g.K.Sink.holds in
    let counts = g.K.Sink.counts in
    let left = g.S.Source.left in
    let faults = g.S.Source.faults in
    let t : State = record { engine = c.args.driver.now.engine; reading = c.args.driver.now.reading; lines = c.args.lines.now; gathered = c.args.room.now } in
    let old : Outer = record { left = left c.args.input.now; reads = faults c.args.input.now; holds = holds c.args.out.now; writes = counts c.args.out.now } in
    let sink = c.new-sink.result in
    let worked = c.work_on-worked.new in
    let room = worked.out.room.now in
    let inner = worked.out.inner.now in
    let done = does_from t (record { engine = worked.self.engine; reading = worked.self.reading; lines = worked.lines; gathered = room })
    old (record { left = left worked.input; reads = faults worked.input; holds = holds inner; writes = counts inner })
    (holds sink.inner.now) (counts sink.inner.now) c.swap.new.x c.work_on-worked.result (ap holds c.new-sink.ensures.now) (ap counts c.new-sink.ensures.now) c.swap.ensures.x_after c.work_on-worked.ensures.does in
    let first = breaks_from t (record { engine = worked.self.engine; reading = worked.self.reading; lines = worked.lines; gathered = room })
    old (record { left = left worked.input; reads = faults worked.input; holds = holds inner; writes = counts inner })
    (holds sink.inner.now) (counts sink.inner.now) c.swap.new.x c.work_on-worked.result (ap holds c.new-sink.ensures.now) (ap counts c.new-sink.ensures.now) c.swap.ensures.x_after c.work_on-worked.ensures.breaks in
    let last = c.finish-did.ensures.breaks t old worked.self.engine worked.self.reading worked.lines (left worked.input) (faults worked.input) done first in
    let Behind : List ℕ → _ → Type 0 = λ r k.
    let t' : State = record { engine = worked.self.engine; reading = worked.self.reading; lines = worked.lines; gathered = r } in
    let now : Outer = record { left = left worked.input; reads = faults worked.input; holds = holds k; writes = counts k } in
    DidStop (Breaks t t' old now) c.finish-did.result in
    let named = sym (c.finish-did.ensures.same ∙ c.work_on-worked.ensures.same ∙ c.new-sink.ensures.same) in
    subst (λ k. Behind c.swap-2.new.y k) (sym (c.out-1.given.1 named)) (subst (λ (r : List ℕ). Behind r c.finish-did.new.out.inner.now) (sym c.swap-2.ensures.y_after) last)
