use Rattle.std.proofs.Common.{refl}
use Rattle.std.specs.Fmt.{digits}
use Rattle.ax_text.specs.Exprs.{apply_op}
use Rattle.ax_text.specs.Controls.{begin, give, least_free}
use Rattle.ax_machine.specs.Firings.{most_firings}
use Rattle.ax_execution.proofs.edge_rows.firing_waits_for_its_answer.Goals as goal

pub returns-clause-runs : goal.returns-clause-runs
unfolding digits apply_op most_firings begin give least_free
returns-clause-runs c = refl

pub returns-clause-epoch : goal.returns-clause-epoch
unfolding digits apply_op most_firings begin give least_free
returns-clause-epoch c = refl

pub returns-clause-send : goal.returns-clause-send
unfolding digits apply_op most_firings begin give least_free
returns-clause-send c = refl

pub returns-clause-gone : goal.returns-clause-gone
unfolding digits apply_op most_firings begin give least_free
returns-clause-gone c = refl

pub returns-clause-writes : goal.returns-clause-writes
unfolding digits apply_op most_firings begin give least_free
returns-clause-writes c = refl
