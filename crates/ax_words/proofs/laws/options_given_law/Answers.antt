use Rattle.std.proofs.Common.{refl}
use Rattle.ax_words.specs.Words.{given_by}
use Rattle.ax_words.proofs.laws.options_given_law.Goals as goal

pub returns : goal.returns
unfolding given_by
returns c = record { flag = refl; word = refl; word_default = refl; number = refl; greatest = refl; all = refl }
