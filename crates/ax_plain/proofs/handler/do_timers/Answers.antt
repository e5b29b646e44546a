use Rattle.std.proofs.Common.{◌∙◌}
use Rattle.ax_plain.proofs.RunLemmas.{ops_on, ops_end}
use Rattle.ax_plain.proofs.handler.do_timers.Goals as goal

pub op-preserved : goal.op-preserved
op-preserved c = record {
  rest = λ u q. c.op.invariant.rest u (ops_on c.op.timers c.do_timer.new.timers u c.args.key.now c.args.ops.now c.op.op-index _ c.op-test.true c.in_ok-do_timer.ensures.times q);
  others = λ q e. c.in_ok-do_timer.ensures.others q e ∙ c.op.invariant.others q e;
}

pub returns-clause-times : goal.returns-clause-times
returns-clause-times c = c.op.invariant.rest c.op.timers (ops_end c.op.timers c.args.key.now c.args.ops.now c.op.op-index c.op-test.false)
