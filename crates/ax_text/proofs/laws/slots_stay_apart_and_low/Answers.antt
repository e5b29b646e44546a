use Rattle.ax_text.proofs.Slots.{keeps_slots}
use Rattle.ax_text.proofs.laws.slots_stay_apart_and_low.Goals as goal

pub returns : goal.returns
returns c n f t cells es = keeps_slots n f t cells es
