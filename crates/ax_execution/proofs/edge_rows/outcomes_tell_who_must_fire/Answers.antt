use Rattle.std.proofs.Common.{refl}
use Rattle.std.specs.Fmt.{digits}
use Rattle.ax_text.specs.Exprs.{apply_op}
use Rattle.ax_text.specs.Controls.{begin, give, least_free}
use Rattle.ax_machine.specs.Firings.{most_firings}
use Rattle.ax_execution.proofs.edge_rows.outcomes_tell_who_must_fire.Goals as goal

pub returns-clause-start : goal.returns-clause-start
unfolding digits apply_op most_firings begin give least_free
returns-clause-start c = refl

pub returns-clause-again : goal.returns-clause-again
unfolding digits apply_op most_firings begin give least_free
returns-clause-again c = refl

pub returns-clause-last : goal.returns-clause-last
unfolding digits apply_op most_firings begin give least_free
returns-clause-last c = refl

pub returns-clause-deliver : goal.returns-clause-deliver
unfolding digits apply_op most_firings begin give least_free
returns-clause-deliver c = refl

pub returns-clause-waits : goal.returns-clause-waits
unfolding digits apply_op most_firings begin give least_free
returns-clause-waits c = refl

pub returns-clause-fire : goal.returns-clause-fire
unfolding digits apply_op most_firings begin give least_free
returns-clause-fire c = refl

pub returns-clause-control_start : goal.returns-clause-control_start
unfolding digits apply_op most_firings begin give least_free
returns-clause-control_start c = refl

pub returns-clause-control_last : goal.returns-clause-control_last
unfolding digits apply_op most_firings begin give least_free
returns-clause-control_last c = refl

pub returns-clause-control_deliver : goal.returns-clause-control_deliver
unfolding digits apply_op most_firings begin give least_free
returns-clause-control_deliver c = refl

pub returns-clause-control_waits : goal.returns-clause-control_waits
unfolding digits apply_op most_firings begin give least_free
returns-clause-control_waits c = refl
