use Rattle.std.proofs.Common.{refl}
use Rattle.std.specs.Fmt.{digits}
use Rattle.ax_text.specs.Exprs.{apply_op}
use Rattle.ax_text.specs.Controls.{begin, give, least_free}
use Rattle.ax_machine.specs.Firings.{most_firings}
use Rattle.ax_execution.proofs.rows.row_watermark_row.Goals as goal

pub returns-clause-serial : goal.returns-clause-serial
unfolding digits apply_op most_firings begin give least_free
returns-clause-serial c = refl

pub returns-clause-serial_writes : goal.returns-clause-serial_writes
unfolding digits apply_op most_firings begin give least_free
returns-clause-serial_writes c = refl

pub returns-clause-parallel : goal.returns-clause-parallel
unfolding digits apply_op most_firings begin give least_free
returns-clause-parallel c = refl

pub returns-clause-parallel_writes : goal.returns-clause-parallel_writes
unfolding digits apply_op most_firings begin give least_free
returns-clause-parallel_writes c = refl

pub returns-clause-refused : goal.returns-clause-refused
unfolding digits apply_op most_firings begin give least_free
returns-clause-refused c = refl
