use Rattle.std.proofs.Common.{refl}
use Rattle.std.specs.Fmt.{digits}
use Rattle.ax_text.specs.Exprs.{apply_op}
use Rattle.ax_text.specs.Controls.{begin, give, least_free}
use Rattle.ax_machine.specs.Firings.{most_firings}
use Rattle.ax_execution.proofs.rows.nothing_comes_before_the_fire.Goals as goal

pub returns-clause-runs : goal.returns-clause-runs
unfolding digits apply_op most_firings begin give least_free
returns-clause-runs c = refl

pub returns-clause-must : goal.returns-clause-must
unfolding digits apply_op most_firings begin give least_free
returns-clause-must c = refl

pub returns-clause-fires : goal.returns-clause-fires
unfolding digits apply_op most_firings begin give least_free
returns-clause-fires c = refl

pub returns-clause-other : goal.returns-clause-other
unfolding digits apply_op most_firings begin give least_free
returns-clause-other c = refl

pub returns-clause-start : goal.returns-clause-start
unfolding digits apply_op most_firings begin give least_free
returns-clause-start c = refl

pub returns-clause-serve : goal.returns-clause-serve
unfolding digits apply_op most_firings begin give least_free
returns-clause-serve c = refl

pub returns-clause-deliver : goal.returns-clause-deliver
unfolding digits apply_op most_firings begin give least_free
returns-clause-deliver c = refl

pub returns-clause-send : goal.returns-clause-send
unfolding digits apply_op most_firings begin give least_free
returns-clause-send c = refl

pub returns-clause-watermark : goal.returns-clause-watermark
unfolding digits apply_op most_firings begin give least_free
returns-clause-watermark c = refl

pub returns-clause-barrier : goal.returns-clause-barrier
unfolding digits apply_op most_firings begin give least_free
returns-clause-barrier c = refl

pub returns-clause-row : goal.returns-clause-row
unfolding digits apply_op most_firings begin give least_free
returns-clause-row c = refl

pub returns-clause-row_behind : goal.returns-clause-row_behind
unfolding digits apply_op most_firings begin give least_free
returns-clause-row_behind c = refl

pub returns-clause-number : goal.returns-clause-number
unfolding digits apply_op most_firings begin give least_free
returns-clause-number c = refl

pub returns-clause-full : goal.returns-clause-full
unfolding digits apply_op most_firings begin give least_free
returns-clause-full c = refl
