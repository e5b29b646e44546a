use Rattle.ax_input.proofs.LineLemmas.{event_back}
use Rattle.ax_input.proofs.laws.event_is_read_back.Goals as goal

pub returns : goal.returns
returns c = event_back
