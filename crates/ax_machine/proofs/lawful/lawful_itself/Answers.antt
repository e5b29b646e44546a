use Rattle.ax_machine.proofs.LawfulLemmas.{lawful_itself}
use Rattle.ax_machine.proofs.lawful.lawful_itself.Goals as goal

pub returns : goal.returns
returns c = lawful_itself
