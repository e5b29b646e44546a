use Rattle.ax_input.proofs.LineLemmas.{one_line}
use Rattle.ax_input.proofs.laws.line_is_one_line.Goals as goal

pub returns : goal.returns
returns c = one_line
