use Rattle.ax_machine.proofs.MeaningLemmas.{has_place}
use Rattle.ax_machine.proofs.lawful.markers_have_their_places.Goals as goal

pub returns : goal.returns
returns c = has_place
