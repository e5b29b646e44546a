use Rattle.ax_machine.proofs.RowLemmas.{sync_keys, other_states, other_lines}
use Rattle.ax_machine.proofs.laws.keys_are_those_of_rows.Goals as goal

pub returns-clause-keys : goal.returns-clause-keys
returns-clause-keys c m p events k = sync_keys m p k events

pub returns-clause-states : goal.returns-clause-states
returns-clause-states c m p events k h = other_states m p k events h

pub returns-clause-lines : goal.returns-clause-lines
returns-clause-lines c m p events k h = other_lines m p k events h
