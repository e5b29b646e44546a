use Rattle.std.proofs.Common.{refl}
use Rattle.ax_text.specs.Exprs.{apply_op}
use Rattle.ax_text.specs.Prints.{is_accepted}
use Rattle.ax_text.specs.Controls.{begin, give, least_free}
use Rattle.ax_machine.specs.Firings.{most_firings}
use Rattle.ax_execution.proofs.rows.arms_in_either_order.Goals as goal

pub returns-clause-asks : goal.returns-clause-asks
unfolding apply_op most_firings begin give least_free
returns-clause-asks c = refl

pub returns-clause-runs : goal.returns-clause-runs
unfolding apply_op most_firings begin give least_free
returns-clause-runs c = refl

pub returns-clause-writes : goal.returns-clause-writes
unfolding apply_op most_firings begin give least_free
returns-clause-writes c = refl

pub returns-clause-accepted : goal.returns-clause-accepted
unfolding is_accepted
returns-clause-accepted c = record { row = refl; timer = refl }
