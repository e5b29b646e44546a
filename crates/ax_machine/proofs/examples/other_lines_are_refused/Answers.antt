use Rattle.ax_machine.proofs.ExampleLemmas.{line_missing, marker_missing, marker_twice}
use Rattle.ax_machine.proofs.examples.other_lines_are_refused.Goals as goal

pub returns-clause-line : goal.returns-clause-line
returns-clause-line c = line_missing

pub returns-clause-marker : goal.returns-clause-marker
returns-clause-marker c = marker_missing

pub returns-clause-twice : goal.returns-clause-twice
returns-clause-twice c = marker_twice
