use Rattle.ax_machine.proofs.KeyLemmas.{is_projected}
use Rattle.ax_machine.proofs.laws.keys_are_apart.Goals as goal

pub returns : goal.returns
returns c = is_projected
