use Rattle.std.proofs.Common.{refl}
use Rattle.std.specs.Fmt.{digits}
use Rattle.ax_text.specs.Exprs.{apply_op}
use Rattle.ax_text.specs.Controls.{begin, give, least_free}
use Rattle.ax_machine.specs.Firings.{most_firings}
use Rattle.ax_execution.proofs.edge_rows.serial_runs_are_parallel_ones.Goals as goal

pub returns : goal.returns
unfolding digits apply_op most_firings begin give least_free
returns c = refl
