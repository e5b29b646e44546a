use Rattle.ax_machine.proofs.ExampleLemmas.{keys_swapped, lines_swapped}
use Rattle.ax_machine.proofs.examples.lines_of_two_keys.Goals as goal

pub returns-clause-two : goal.returns-clause-two
returns-clause-two c = keys_swapped

pub returns-clause-one : goal.returns-clause-one
returns-clause-one c = lines_swapped
