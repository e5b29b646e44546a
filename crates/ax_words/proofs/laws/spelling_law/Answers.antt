use Rattle.std.proofs.Common.{refl}
use Rattle.ax_words.specs.Words.{given_by}
use Rattle.ax_words.proofs.laws.spelling_law.Goals as goal

pub returns : goal.returns
unfolding given_by
returns c = record { flag_twice = refl; word_twice = refl; flag_with_value = refl; flag_before_word = refl; no_value = refl; abbreviated = refl; longer = refl; unknown = refl; short = refl; other_word = refl; not_last = refl; hyphens_twice = refl }
