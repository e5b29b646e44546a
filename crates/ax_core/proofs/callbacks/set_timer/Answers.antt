use Rattle.std.proofs.Common.{ℤ, FitsSigned, OnOk, rules, sym, subst, w64}
use Rattle.std.proofs.Math.Facts.{to_z-of_z}
use Rattle.ax_text.specs.declared.vocabulary.TimerOp.{TimerOp}
use Rattle.ax_text.specs.Run.{time_after}
use Rattle.ax_text.specs.Times.{insert_time}
use Rattle.ax_time.specs.Timers.{PutsTimes, times_of}
use Rattle.ax_core.proofs.callbacks.set_timer.Goals as goal

pub returns-in-Set : goal.returns-in-Set
returns-in-Set c =
    let P : TimerOp → Type 0 = λ o. OnOk c.set.result (PutsTimes c.args.timers.now c.set.new.self c.args.key.now (time_after o (times_of c.args.timers.now c.args.key.now))) in
    let T : ℤ → Type 0 = λ t. OnOk c.set.result (PutsTimes c.args.timers.now c.set.new.self c.args.key.now (insert_time t (times_of c.args.timers.now c.args.key.now))) in
    let fits : FitsSigned w64 c.in-Set.time = search rules in
    record { times = subst P (sym c.in-Set.is) (subst T (to_z-of_z fits) c.set.ensures.ok) }
