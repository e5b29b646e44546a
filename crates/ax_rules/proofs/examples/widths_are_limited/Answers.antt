use Rattle.std.proofs.Common.{refl}
use Rattle.ax_rules.specs.Faults.{block_fault}
use Rattle.ax_rules.proofs.examples.widths_are_limited.Goals as goal

pub returns-clause-width : goal.returns-clause-width
unfolding block_fault
returns-clause-width c = refl

pub returns-clause-many : goal.returns-clause-many
unfolding block_fault
returns-clause-many c = refl
