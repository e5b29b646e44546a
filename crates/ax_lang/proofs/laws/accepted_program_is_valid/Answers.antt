use Rattle.ax_lang.proofs.AcceptedLemmas.{accepted_valid}
use Rattle.ax_lang.proofs.laws.accepted_program_is_valid.Goals as goal

pub returns : goal.returns
returns c = accepted_valid
