use Rattle.std.proofs.Common.{refl}
use Rattle.ax_words.specs.Words.{given_by}
use Rattle.ax_words.proofs.laws.value_law.Goals as goal

pub returns : goal.returns
unfolding given_by
returns c = record { word = refl; word_abbreviated = refl; word_empty = refl; zero = refl; above = refl; hyphen = refl; hyphen_behind = refl; hyphen_alone = refl; hyphen_zero = refl; plus = refl; option_as_value = refl; hyphens_as_value = refl }
