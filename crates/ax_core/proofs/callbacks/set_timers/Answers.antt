use Rattle.ax_core.proofs.TimerLemmas.{ops_on, ops_end}
use Rattle.ax_core.proofs.callbacks.set_timers.Goals as goal

pub op-preserved : goal.op-preserved
op-preserved c = λ u q. c.op.invariant u (ops_on c.op.timers c.set_timer.new.timers u c.args.key.now c.args.ops.now c.op.op-index _ c.op-test.true c.in_ok-set_timer.ensures.times q)

pub returns : goal.returns
returns c = record { times = c.op.invariant c.op.timers (ops_end c.op.timers c.args.key.now c.args.ops.now c.op.op-index c.op-test.false) }
