use Rattle.ax_lang.proofs.LineLemmas.{known_spell}
use Rattle.ax_lang.proofs.laws.known_law.Goals as goal

pub returns : goal.returns
returns c = known_spell
