use Rattle.ax_machine.proofs.BlockLemmas.{same_block, no_states, fresh_lines, left_out}
use Rattle.ax_machine.proofs.laws.blocks_have_the_lines_of_keys.Goals as goal

pub returns-clause-lines : goal.returns-clause-lines
returns-clause-lines c = same_block

pub returns-clause-empty : goal.returns-clause-empty
returns-clause-empty c = no_states

pub returns-clause-untouched : goal.returns-clause-untouched
returns-clause-untouched c = fresh_lines

pub returns-clause-left_out : goal.returns-clause-left_out
returns-clause-left_out c = left_out
