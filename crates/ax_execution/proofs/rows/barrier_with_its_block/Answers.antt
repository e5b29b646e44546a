use Rattle.std.proofs.Common.{refl}
use Rattle.std.specs.Fmt.{digits}
use Rattle.ax_text.specs.Exprs.{apply_op}
use Rattle.ax_text.specs.Controls.{begin, give, least_free}
use Rattle.ax_machine.specs.Firings.{most_firings}
use Rattle.ax_execution.proofs.rows.barrier_with_its_block.Goals as goal

pub returns-clause-runs : goal.returns-clause-runs
unfolding digits apply_op most_firings begin give least_free
returns-clause-runs c = refl

pub returns-clause-writes : goal.returns-clause-writes
unfolding digits apply_op most_firings begin give least_free
returns-clause-writes c = refl

pub returns-clause-send : goal.returns-clause-send
unfolding digits apply_op most_firings begin give least_free
returns-clause-send c = refl

pub returns-clause-serial : goal.returns-clause-serial
unfolding digits apply_op most_firings begin give least_free
returns-clause-serial c = refl

pub returns-clause-parallel : goal.returns-clause-parallel
unfolding digits apply_op most_firings begin give least_free
returns-clause-parallel c = refl

pub returns-clause-barrier : goal.returns-clause-barrier
unfolding digits apply_op most_firings begin give least_free
returns-clause-barrier c = refl

pub returns-clause-watermark : goal.returns-clause-watermark
unfolding digits apply_op most_firings begin give least_free
returns-clause-watermark c = refl
