use Rattle.std.proofs.Common.{refl}
use Rattle.std.specs.Fmt.{digits}
use Rattle.ax_text.specs.Exprs.{apply_op}
use Rattle.ax_text.specs.Controls.{begin, give, least_free}
use Rattle.ax_machine.specs.Firings.{most_firings}
use Rattle.ax_execution.proofs.rows.firing_is_covered_by_its_mark.Goals as goal

pub returns-clause-idle : goal.returns-clause-idle
unfolding digits apply_op most_firings begin give least_free
returns-clause-idle c = refl

pub returns-clause-fired : goal.returns-clause-fired
unfolding digits apply_op most_firings begin give least_free
returns-clause-fired c = refl

pub returns-clause-ended : goal.returns-clause-ended
unfolding digits apply_op most_firings begin give least_free
returns-clause-ended c = refl

pub returns-clause-flight : goal.returns-clause-flight
unfolding digits apply_op most_firings begin give least_free
returns-clause-flight c = refl

pub returns-clause-send : goal.returns-clause-send
unfolding digits apply_op most_firings begin give least_free
returns-clause-send c = refl
