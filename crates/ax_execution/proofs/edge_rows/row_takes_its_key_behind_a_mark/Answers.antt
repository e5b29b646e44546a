use Rattle.std.proofs.Common.{refl}
use Rattle.std.specs.Fmt.{digits}
use Rattle.ax_text.specs.Exprs.{apply_op}
use Rattle.ax_text.specs.Controls.{begin, give, least_free}
use Rattle.ax_machine.specs.Firings.{most_firings}
use Rattle.ax_execution.proofs.edge_rows.row_takes_its_key_behind_a_mark.Goals as goal

pub returns-clause-runs : goal.returns-clause-runs
unfolding digits apply_op most_firings begin give least_free
returns-clause-runs c = refl

pub returns-clause-waits : goal.returns-clause-waits
unfolding digits apply_op most_firings begin give least_free
returns-clause-waits c = refl

pub returns-clause-flight : goal.returns-clause-flight
unfolding digits apply_op most_firings begin give least_free
returns-clause-flight c = refl

pub returns-clause-epoch : goal.returns-clause-epoch
unfolding digits apply_op most_firings begin give least_free
returns-clause-epoch c = refl

pub returns-clause-next_epoch : goal.returns-clause-next_epoch
unfolding digits apply_op most_firings begin give least_free
returns-clause-next_epoch c = refl

pub returns-clause-writes : goal.returns-clause-writes
unfolding digits apply_op most_firings begin give least_free
returns-clause-writes c = refl
