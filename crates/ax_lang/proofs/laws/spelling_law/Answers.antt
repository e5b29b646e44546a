use Rattle.ax_lang.proofs.SpellingLemmas.{reads_spelled, spell_one}
use Rattle.ax_lang.proofs.laws.spelling_law.Goals as goal

pub returns-clause-exact : goal.returns-clause-exact
returns-clause-exact c = reads_spelled

pub returns-clause-one : goal.returns-clause-one
returns-clause-one c = spell_one
