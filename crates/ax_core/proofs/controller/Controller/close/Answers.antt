use Rattle.std.proofs.Common.{◌≡◌, ℤ, w64, to_z, of_z, Result, Ok, Err, OnOk, rules, sym, subst}
use Rattle.ax_base.specs.declared.outside.NoMemory.{NoMemory}
use Rattle.ax_time.specs.declared.epoch.Marker.{Marker}
use Rattle.ax_execution.specs.Machine.{Close, ByWatermark, ByBarrier}
use Rattle.ax_execution.specs.MachineControls.{MachineControl}
use Rattle.ax_core.specs.Epochs.{closing_of}
use Rattle.ax_core.specs.Sound.{StandsFor}
use Rattle.ax_core.specs.Events.{Makes}
use Rattle.ax_core.specs.Order.{idle_in, BecomeIdle, IdleBehind}
use Rattle.ax_core.proofs.controller.Controller.close.Goals as goal

pub returns-in-Mark-clause-event : goal.returns-in-Mark-clause-event
returns-in-Mark-clause-event c =
    let same : to_z w64 (of_z w64 c.in-Mark.time) ≡ c.in-Mark.time = search rules in
    subst (λ (k : Marker). OnOk c.close_by_watermark.result ((m : MachineControl) → StandsFor c.args.self.now m → Makes c.args.self.now c.close_by_watermark.new.self (Close (closing_of k)) m))
    (sym c.in-Mark.is)
    (subst (λ (z : ℤ). OnOk c.close_by_watermark.result ((m : MachineControl) → StandsFor c.args.self.now m → Makes c.args.self.now c.close_by_watermark.new.self (Close (ByWatermark z)) m)) same c.close_by_watermark.ensures.event)

pub returns-in-Barrier-clause-event : goal.returns-in-Barrier-clause-event
returns-in-Barrier-clause-event c =
    let same : to_z w64 (of_z w64 c.in-Barrier.id) ≡ c.in-Barrier.id = search rules in
    subst (λ (k : Marker). OnOk c.close_by_barrier.result ((m : MachineControl) → StandsFor c.args.self.now m → Makes c.args.self.now c.close_by_barrier.new.self (Close (closing_of k)) m))
    (sym c.in-Barrier.is)
    (subst (λ (z : ℤ). OnOk c.close_by_barrier.result ((m : MachineControl) → StandsFor c.args.self.now m → Makes c.args.self.now c.close_by_barrier.new.self (Close (ByBarrier z)) m)) same c.close_by_barrier.ensures.event)

pub returns-in-Mark-clause-idle : goal.returns-in-Mark-clause-idle
returns-in-Mark-clause-idle c =
    let same : to_z w64 (of_z w64 c.in-Mark.time) ≡ c.in-Mark.time = search rules in
    subst (λ (k : Marker). OnOk c.close_by_watermark.result ((m : MachineControl) → StandsFor c.args.self.now m → IdleBehind c.args.self.now c.close_by_watermark.new.self k m))
    (sym c.in-Mark.is)
    (subst (λ (z : ℤ). OnOk c.close_by_watermark.result ((m : MachineControl) → StandsFor c.args.self.now m → BecomeIdle c.args.self.now c.close_by_watermark.new.self z m)) same c.close_by_watermark.ensures.idle)

-- a clause that hangs on no control
of_any : {A : Type 0} (P : MachineControl → Type 0) (result : Result A NoMemory) (X : Type 0) → OnOk result X → OnOk result ((m : MachineControl) → P m → X)
of_any P (Ok x) X h = λ m y. h
of_any P (Err e) X h = tt

pub returns-in-Barrier-clause-idle : goal.returns-in-Barrier-clause-idle
returns-in-Barrier-clause-idle c =
    subst (λ (k : Marker). OnOk c.close_by_barrier.result ((m : MachineControl) → StandsFor c.args.self.now m → IdleBehind c.args.self.now c.close_by_barrier.new.self k m))
    (sym c.in-Barrier.is)
    (of_any (StandsFor c.args.self.now) c.close_by_barrier.result (idle_in c.close_by_barrier.new.self ≡ idle_in c.args.self.now) c.close_by_barrier.ensures.idle)
