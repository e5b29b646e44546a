use Rattle.std.proofs.Common.{◌≡◌, ℤ, w64, to_z, of_z, OnOk, rules, refl, sym, subst}
use Rattle.ax_machine.specs.Events.{Mark, Barrier}
use Rattle.ax_input.specs.Shown.{shown_event}
use Rattle.ax_input.specs.declared.event.Event.{Event as CodeEvent}
use Rattle.ax_time.specs.declared.epoch.Marker.{Marker}
use Rattle.ax_execution.specs.Machine.{Admit}
use Rattle.ax_execution.specs.MachineControls.{MachineControl}
use Rattle.ax_core.specs.Sound.{StandsFor}
use Rattle.ax_core.specs.Events.{Makes}
use Rattle.ax_task.specs.Engines.{Takes}
use Rattle.ax_task.specs.Calls.{HasClosed, HasTaken}
use Rattle.ax_time.specs.declared.epoch.Marker.TheVariants as marker
use Rattle.ax_task.proofs.Things.{marker_event}
use Rattle.ax_task.proofs.Done.{close_has}
use Rattle.ax_task.proofs.EngineLemmas.{shards_stay, admit_takes, close_ok}
use Rattle.ax_task.proofs.engine.Engine.take.Goals as goal

pub returns-in_ok-admit-in-Row-clause-takes : goal.returns-in_ok-admit-in-Row-clause-takes
returns-in_ok-admit-in-Row-clause-takes c =
    let row = c.in_ok-admit-in-Row.ensures in
    let e' = record c.args.self.now { core = c.admit.new.self } in
    let same : to_z w64 (of_z w64 c.in-Row.time) ≡ c.in-Row.time = search rules in
    subst (λ (v : CodeEvent). Takes c.args.self.now e' (shown_event v)) (sym c.in-Row.is)
    (admit_takes c.args.self.now e' (shards_stay _ _ refl refl refl) row.sound row.same row.outs row.keys c.in_ok-admit-in-Row.field-0 c.in-Row.key c.in-Row.time c.in-Row.values
    (subst (λ (z : ℤ). (m : MachineControl) → StandsFor c.args.self.now.core m → Makes c.args.self.now.core c.admit.new.self (Admit c.in_ok-admit-in-Row.field-0 c.in-Row.key z c.in-Row.values) m) same row.event))

pub returns-in-Mark-clause-takes : goal.returns-in-Mark-clause-takes
returns-in-Mark-clause-takes c =
    let same : to_z w64 (of_z w64 c.in-Mark.time) ≡ c.in-Mark.time = search rules in
    subst (λ (v : CodeEvent). OnOk c.take_watermark.result (Takes c.args.self.now c.take_watermark.new.self (shown_event v))) (sym c.in-Mark.is)
    (subst (λ (z : ℤ). OnOk c.take_watermark.result (Takes c.args.self.now c.take_watermark.new.self (Mark z))) same c.take_watermark.ensures.takes)

pub returns-in-Barrier-clause-takes : goal.returns-in-Barrier-clause-takes
returns-in-Barrier-clause-takes c =
    let closed = c.close.ensures in
    let e' = record c.args.self.now { core = c.close.new.self } in
    let same : to_z w64 (of_z w64 c.in-Barrier.id) ≡ c.in-Barrier.id = search rules in
    subst (λ (v : CodeEvent). OnOk c.close.result (Takes c.args.self.now e' (shown_event v))) (sym c.in-Barrier.is)
    (subst (λ (z : ℤ). OnOk c.close.result (Takes c.args.self.now e' (Barrier z))) same
    (subst (λ (k : Marker). OnOk c.close.result (Takes c.args.self.now e' (marker_event k))) c.barrier.ensures
    (close_ok c.args.self.now e' (shards_stay _ _ refl refl refl) c.barrier.result c.close.result closed.sound closed.same closed.outs closed.keys closed.event)))

pub returns-in_ok-admit-in-Row-clause-taken : goal.returns-in_ok-admit-in-Row-clause-taken
returns-in_ok-admit-in-Row-clause-taken c =
    let row = c.in_ok-admit-in-Row.ensures in
    let e = c.args.self.now in
    let e' = record e { core = c.admit.new.self } in
    let same : to_z w64 (of_z w64 c.in-Row.time) ≡ c.in-Row.time = search rules in
    subst (λ (v : CodeEvent). HasTaken e e' v) (sym c.in-Row.is) (record {
      number = c.in_ok-admit-in-Row.field-0;
      event = subst (λ (z : ℤ). (m : MachineControl) → StandsFor e.core m → Makes e.core c.admit.new.self (Admit c.in_ok-admit-in-Row.field-0 c.in-Row.key z c.in-Row.values) m) same row.event;
      order = row.order;
      idle = row.idle;
      numbers = row.number;
      shards = shards_stay _ _ refl refl refl;
    })

pub returns-in-Barrier-clause-taken : goal.returns-in-Barrier-clause-taken
returns-in-Barrier-clause-taken c =
    let e = c.args.self.now in
    let e' = record e { core = c.close.new.self } in
    let same : to_z w64 (of_z w64 c.in-Barrier.id) ≡ c.in-Barrier.id = search rules in
    subst (λ (v : CodeEvent). OnOk c.close.result (HasTaken e e' v)) (sym c.in-Barrier.is)
    (subst (λ (z : ℤ). OnOk c.close.result (HasClosed e e' (marker.Barrier z))) same
    (subst (λ (k : Marker). OnOk c.close.result (HasClosed e e' k)) c.barrier.ensures
    (close_has e e' (shards_stay _ _ refl refl refl) c.barrier.result c.close.result c.close.ensures.order c.close.ensures.number c.close.ensures.idle c.close.ensures.event)))
