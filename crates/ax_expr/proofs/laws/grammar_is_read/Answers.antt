use Rattle.ax_expr.proofs.GrammarLemmas.{is_reading}
use Rattle.ax_expr.proofs.laws.grammar_is_read.Goals as goal

pub returns : goal.returns
returns c = is_reading
