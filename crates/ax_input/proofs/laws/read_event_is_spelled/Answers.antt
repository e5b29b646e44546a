use Rattle.ax_input.proofs.ReadLemmas.{read_fits}
use Rattle.ax_input.proofs.laws.read_event_is_spelled.Goals as goal

pub returns : goal.returns
returns c = read_fits
