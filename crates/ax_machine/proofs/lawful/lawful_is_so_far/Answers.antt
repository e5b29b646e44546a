use Rattle.ax_machine.proofs.FrontLemmas.{whole_so_far, first_so_far}
use Rattle.ax_machine.proofs.lawful.lawful_is_so_far.Goals as goal

pub returns-clause-whole : goal.returns-clause-whole
returns-clause-whole c = whole_so_far

pub returns-clause-first : goal.returns-clause-first
returns-clause-first c = first_so_far
