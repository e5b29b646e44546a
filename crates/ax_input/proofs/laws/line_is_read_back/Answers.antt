use Rattle.ax_input.proofs.LineLemmas.{line_back}
use Rattle.ax_input.proofs.laws.line_is_read_back.Goals as goal

pub returns : goal.returns
returns c = line_back
