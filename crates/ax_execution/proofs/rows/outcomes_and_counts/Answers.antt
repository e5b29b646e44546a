use Rattle.std.proofs.Common.{refl}
use Rattle.ax_text.specs.Exprs.{apply_op}
use Rattle.ax_text.specs.Controls.{begin, give, least_free}
use Rattle.ax_machine.specs.Firings.{most_firings}
use Rattle.ax_execution.proofs.rows.outcomes_and_counts.Goals as goal

pub returns-clause-asks : goal.returns-clause-asks
unfolding apply_op most_firings begin give least_free
returns-clause-asks c = refl

pub returns-clause-writes : goal.returns-clause-writes
unfolding apply_op most_firings begin give least_free
returns-clause-writes c = refl

pub returns-clause-gone : goal.returns-clause-gone
unfolding apply_op most_firings begin give least_free
returns-clause-gone c = refl

pub returns-clause-stays : goal.returns-clause-stays
unfolding apply_op most_firings begin give least_free
returns-clause-stays c = refl

pub returns-clause-owes : goal.returns-clause-owes
unfolding apply_op most_firings begin give least_free
returns-clause-owes c = refl

pub returns-clause-epoch : goal.returns-clause-epoch
unfolding apply_op most_firings begin give least_free
returns-clause-epoch c = refl

pub returns-clause-next_epoch : goal.returns-clause-next_epoch
unfolding apply_op most_firings begin give least_free
returns-clause-next_epoch c = refl

pub returns-clause-number : goal.returns-clause-number
unfolding apply_op most_firings begin give least_free
returns-clause-number c = refl

pub returns-clause-free_number : goal.returns-clause-free_number
unfolding apply_op most_firings begin give least_free
returns-clause-free_number c = refl
