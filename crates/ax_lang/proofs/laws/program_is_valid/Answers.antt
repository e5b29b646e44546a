use Rattle.ax_lang.proofs.ProgramLemmas.{program_valid}
use Rattle.ax_lang.proofs.laws.program_is_valid.Goals as goal

pub returns : goal.returns
returns c = program_valid
