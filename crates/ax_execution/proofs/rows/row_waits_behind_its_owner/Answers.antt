use Rattle.std.proofs.Common.{refl}
use Rattle.std.specs.Fmt.{digits}
use Rattle.ax_text.specs.Exprs.{apply_op}
use Rattle.ax_text.specs.Controls.{begin, give, least_free}
use Rattle.ax_machine.specs.Firings.{most_firings}
use Rattle.ax_execution.proofs.rows.row_waits_behind_its_owner.Goals as goal

pub returns-clause-runs : goal.returns-clause-runs
unfolding digits apply_op most_firings begin give least_free
returns-clause-runs c = refl

pub returns-clause-flight : goal.returns-clause-flight
unfolding digits apply_op most_firings begin give least_free
returns-clause-flight c = refl

pub returns-clause-waits : goal.returns-clause-waits
unfolding digits apply_op most_firings begin give least_free
returns-clause-waits c = refl

pub returns-clause-second : goal.returns-clause-second
unfolding digits apply_op most_firings begin give least_free
returns-clause-second c = refl

pub returns-clause-goes : goal.returns-clause-goes
unfolding digits apply_op most_firings begin give least_free
returns-clause-goes c = refl

pub returns-clause-served : goal.returns-clause-served
unfolding digits apply_op most_firings begin give least_free
returns-clause-served c = refl

pub returns-clause-full : goal.returns-clause-full
unfolding digits apply_op most_firings begin give least_free
returns-clause-full c = refl

pub returns-clause-number : goal.returns-clause-number
unfolding digits apply_op most_firings begin give least_free
returns-clause-number c = refl

pub returns-clause-free : goal.returns-clause-free
unfolding digits apply_op most_firings begin give least_free
returns-clause-free c = refl

pub returns-clause-slot : goal.returns-clause-slot
unfolding digits apply_op most_firings begin give least_free
returns-clause-slot c = refl

pub returns-clause-no_owner : goal.returns-clause-no_owner
unfolding digits apply_op most_firings begin give least_free
returns-clause-no_owner c = refl
