use Rattle.ax_input.proofs.LineLemmas.{one_event}
use Rattle.ax_input.proofs.laws.event_is_one_line.Goals as goal

pub returns : goal.returns
returns c = one_event
