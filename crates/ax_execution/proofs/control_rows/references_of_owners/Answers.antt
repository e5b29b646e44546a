use Rattle.std.proofs.Common.{refl}
use Rattle.std.specs.Fmt.{digits}
use Rattle.ax_text.specs.Exprs.{apply_op}
use Rattle.ax_text.specs.Controls.{begin, give, least_free}
use Rattle.ax_machine.specs.Firings.{most_firings}
use Rattle.ax_execution.proofs.control_rows.references_of_owners.Goals as goal

pub returns-clause-unbegun : goal.returns-clause-unbegun
unfolding digits apply_op most_firings begin give least_free
returns-clause-unbegun c = refl

pub returns-clause-begun : goal.returns-clause-begun
unfolding digits apply_op most_firings begin give least_free
returns-clause-begun c = refl

pub returns-clause-arms : goal.returns-clause-arms
unfolding digits apply_op most_firings begin give least_free
returns-clause-arms c = refl

pub returns-clause-waits : goal.returns-clause-waits
unfolding digits apply_op most_firings begin give least_free
returns-clause-waits c = refl

pub returns-clause-start : goal.returns-clause-start
unfolding digits apply_op most_firings begin give least_free
returns-clause-start c = refl

pub returns-clause-deliver : goal.returns-clause-deliver
unfolding digits apply_op most_firings begin give least_free
returns-clause-deliver c = refl

pub returns-clause-serve : goal.returns-clause-serve
unfolding digits apply_op most_firings begin give least_free
returns-clause-serve c = refl
