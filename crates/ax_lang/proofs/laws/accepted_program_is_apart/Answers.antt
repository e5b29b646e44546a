use Rattle.ax_lang.proofs.AcceptedLemmas.{accepted_apart}
use Rattle.ax_lang.proofs.laws.accepted_program_is_apart.Goals as goal

pub returns : goal.returns
returns c = accepted_apart
