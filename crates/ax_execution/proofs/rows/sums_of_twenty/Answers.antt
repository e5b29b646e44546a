use Rattle.std.proofs.Common.{refl}
use Rattle.std.specs.Fmt.{digits}
use Rattle.ax_text.specs.Exprs.{apply_op}
use Rattle.ax_text.specs.Controls.{begin, give, least_free}
use Rattle.ax_machine.specs.Firings.{most_firings}
use Rattle.ax_execution.proofs.rows.sums_of_twenty.Goals as goal

pub returns-clause-one : goal.returns-clause-one
unfolding digits apply_op most_firings begin give least_free
returns-clause-one c = refl

pub returns-clause-one_writes : goal.returns-clause-one_writes
unfolding digits apply_op most_firings begin give least_free
returns-clause-one_writes c = refl

pub returns-clause-many : goal.returns-clause-many
unfolding digits apply_op most_firings begin give least_free
returns-clause-many c = refl

pub returns-clause-many_write : goal.returns-clause-many_write
unfolding digits apply_op most_firings begin give least_free
returns-clause-many_write c = refl
