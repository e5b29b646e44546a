use Rattle.ax_machine.proofs.MeaningLemmas.{held_back}
use Rattle.ax_machine.proofs.lawful.strict_markers_hold_back.Goals as goal

pub returns : goal.returns
returns c = held_back
