use Rattle.std.proofs.Common.{refl, sym, ap, ◌∙◌, subst, ℤ, Bool, int_lt, OnOk}
use Rattle.ax_time.specs.declared.epoch.Marker.{Marker}
use Rattle.ax_task.specs.Engines.{Takes}
use Rattle.ax_task.specs.Calls.{HasClosed, HasMarked}
use Rattle.ax_task.proofs.Things.{marker_event}
use Rattle.ax_task.proofs.Done.{close_has}
use Rattle.ax_task.proofs.EngineLemmas.{shards_stay, close_ok, skip_takes}
use Rattle.ax_task.proofs.engine.Engine.take_watermark.Goals as goal

pub returns-then-is_greater-clause-takes : goal.returns-then-is_greater-clause-takes
returns-then-is_greater-clause-takes c =
    let closed = c.close.ensures in
    let e' = record c.args.self.now { core = c.close.new.self } in
    subst (λ (k : Marker). OnOk c.close.result (Takes c.args.self.now e' (marker_event k))) c.mark.ensures
    (close_ok c.args.self.now e' (shards_stay _ _ refl refl refl) c.mark.result c.close.result closed.sound closed.same closed.outs closed.keys closed.event)

pub returns-else-is_greater-clause-takes : goal.returns-else-is_greater-clause-takes
returns-else-is_greater-clause-takes c = skip_takes c.args.self.now c.args.time.now
    (λ m h. ap (λ (w : ℤ). int_lt w c.args.time.now) (sym h.stands.wm) ∙ (sym c.is_greater.ensures ∙ c.if-is_greater.false))

pub returns-then-is_greater-clause-marked : goal.returns-then-is_greater-clause-marked
returns-then-is_greater-clause-marked c =
    let e = c.args.self.now in
    let e' = record e { core = c.close.new.self } in
    subst (λ (b : Bool). OnOk c.close.result (HasMarked b e e' c.args.time.now)) (sym (sym c.is_greater.ensures ∙ c.if-is_greater.true))
    (subst (λ (k : Marker). OnOk c.close.result (HasClosed e e' k)) c.mark.ensures
    (close_has e e' (shards_stay _ _ refl refl refl) c.mark.result c.close.result c.close.ensures.order c.close.ensures.number c.close.ensures.idle c.close.ensures.event))
