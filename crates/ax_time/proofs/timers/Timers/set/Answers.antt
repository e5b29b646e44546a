use Rattle.std.proofs.Common.{OnOk, ℤ, subst}
use Rattle.std.proofs.Math.Facts.{to_z-of_z}
use Rattle.ax_text.specs.Times.{insert_time}
use Rattle.ax_time.specs.Timers.{PutsTimes, times_of}
use Rattle.ax_time.proofs.timers.Timers.set.Goals as goal

pub returns-clause-ok : goal.returns-clause-ok
returns-clause-ok c = subst (λ (t : ℤ). OnOk c.set_at.result (PutsTimes c.args.self.now c.set_at.new.self c.args.key.now (insert_time t (times_of c.args.self.now c.args.key.now)))) (to_z-of_z c.ranges.time) c.set_at.ensures.ok
