use Rattle.ax_words.proofs.Ranges.{asked_in_range}
use Rattle.ax_words.proofs.laws.options_in_range_law.Goals as goal

pub returns : goal.returns
returns c = asked_in_range
