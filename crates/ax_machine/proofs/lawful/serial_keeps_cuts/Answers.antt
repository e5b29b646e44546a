use Rattle.ax_machine.proofs.LawfulLemmas.{same_cuts_lawful}
use Rattle.ax_machine.proofs.MeaningLemmas.{serial_cuts}
use Rattle.ax_machine.proofs.lawful.serial_keeps_cuts.Goals as goal

pub returns-clause-cuts : goal.returns-clause-cuts
returns-clause-cuts c = serial_cuts

pub returns-clause-enough : goal.returns-clause-enough
returns-clause-enough c = same_cuts_lawful
