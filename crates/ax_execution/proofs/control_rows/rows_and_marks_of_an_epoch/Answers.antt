use Rattle.std.proofs.Common.{refl}
use Rattle.std.specs.Fmt.{digits}
use Rattle.ax_text.specs.Exprs.{apply_op}
use Rattle.ax_text.specs.Controls.{begin, give, least_free}
use Rattle.ax_machine.specs.Firings.{most_firings}
use Rattle.ax_execution.proofs.control_rows.rows_and_marks_of_an_epoch.Goals as goal

pub returns-clause-owners : goal.returns-clause-owners
unfolding digits apply_op most_firings begin give least_free
returns-clause-owners c = refl

pub returns-clause-due : goal.returns-clause-due
unfolding digits apply_op most_firings begin give least_free
returns-clause-due c = refl

pub returns-clause-not_due : goal.returns-clause-not_due
unfolding digits apply_op most_firings begin give least_free
returns-clause-not_due c = refl

pub returns-clause-both : goal.returns-clause-both
unfolding digits apply_op most_firings begin give least_free
returns-clause-both c = refl

pub returns-clause-one : goal.returns-clause-one
unfolding digits apply_op most_firings begin give least_free
returns-clause-one c = refl

pub returns-clause-stays : goal.returns-clause-stays
unfolding digits apply_op most_firings begin give least_free
returns-clause-stays c = refl

pub returns-clause-serve_enters : goal.returns-clause-serve_enters
unfolding digits apply_op most_firings begin give least_free
returns-clause-serve_enters c = refl

pub returns-clause-serve_leaves : goal.returns-clause-serve_leaves
unfolding digits apply_op most_firings begin give least_free
returns-clause-serve_leaves c = refl
