use Rattle.std.proofs.Common.{refl}
use Rattle.std.specs.Fmt.{digits}
use Rattle.ax_text.specs.Exprs.{apply_op}
use Rattle.ax_text.specs.Controls.{begin, give, least_free}
use Rattle.ax_machine.specs.Firings.{most_firings}
use Rattle.ax_execution.proofs.rows.idle_key_fires_first.Goals as goal

pub returns-clause-runs : goal.returns-clause-runs
unfolding digits apply_op most_firings begin give least_free
returns-clause-runs c = refl

pub returns-clause-fires : goal.returns-clause-fires
unfolding digits apply_op most_firings begin give least_free
returns-clause-fires c = refl

pub returns-clause-row : goal.returns-clause-row
unfolding digits apply_op most_firings begin give least_free
returns-clause-row c = refl

pub returns-clause-send : goal.returns-clause-send
unfolding digits apply_op most_firings begin give least_free
returns-clause-send c = refl

pub returns-clause-full : goal.returns-clause-full
unfolding digits apply_op most_firings begin give least_free
returns-clause-full c = refl

pub returns-clause-other : goal.returns-clause-other
unfolding digits apply_op most_firings begin give least_free
returns-clause-other c = refl
