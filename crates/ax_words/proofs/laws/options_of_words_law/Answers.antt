use Rattle.std.proofs.Common.{refl}
use Rattle.ax_words.specs.Words.{given_by}
use Rattle.ax_words.proofs.laws.options_of_words_law.Goals as goal

pub returns : goal.returns
unfolding given_by
returns c = record { all = refl; greatest = refl; batch_zero = refl; batch_above = refl; batch_twice = refl; in_flight_zero = refl; in_flight_above = refl; threads = refl }
