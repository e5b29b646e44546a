use Rattle.std.proofs.Common.{refl}
use Rattle.std.specs.Fmt.{digits}
use Rattle.ax_text.specs.Exprs.{apply_op}
use Rattle.ax_text.specs.Controls.{begin, give, least_free}
use Rattle.ax_machine.specs.Firings.{most_firings}
use Rattle.ax_execution.proofs.rows.keys_by_turns.Goals as goal

pub returns-clause-runs : goal.returns-clause-runs
unfolding digits apply_op most_firings begin give least_free
returns-clause-runs c = refl

pub returns-clause-writes : goal.returns-clause-writes
unfolding digits apply_op most_firings begin give least_free
returns-clause-writes c = refl

pub returns-clause-flight : goal.returns-clause-flight
unfolding digits apply_op most_firings begin give least_free
returns-clause-flight c = refl

pub returns-clause-work : goal.returns-clause-work
unfolding digits apply_op most_firings begin give least_free
returns-clause-work c = refl

pub returns-clause-send : goal.returns-clause-send
unfolding digits apply_op most_firings begin give least_free
returns-clause-send c = refl

pub returns-clause-serial : goal.returns-clause-serial
unfolding digits apply_op most_firings begin give least_free
returns-clause-serial c = refl

pub returns-clause-parallel : goal.returns-clause-parallel
unfolding digits apply_op most_firings begin give least_free
returns-clause-parallel c = refl

pub returns-clause-skipped : goal.returns-clause-skipped
unfolding digits apply_op most_firings begin give least_free
returns-clause-skipped c = refl

pub returns-clause-greater : goal.returns-clause-greater
unfolding digits apply_op most_firings begin give least_free
returns-clause-greater c = refl

pub returns-clause-serial_close : goal.returns-clause-serial_close
unfolding digits apply_op most_firings begin give least_free
returns-clause-serial_close c = refl

pub returns-clause-serial_barrier : goal.returns-clause-serial_barrier
unfolding digits apply_op most_firings begin give least_free
returns-clause-serial_barrier c = refl

pub returns-clause-unserved : goal.returns-clause-unserved
unfolding digits apply_op most_firings begin give least_free
returns-clause-unserved c = refl
