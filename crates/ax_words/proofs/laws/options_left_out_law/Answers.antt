use Rattle.std.proofs.Common.{refl}
use Rattle.ax_words.specs.Words.{given_by}
use Rattle.ax_words.proofs.laws.options_left_out_law.Goals as goal

pub returns : goal.returns
unfolding given_by
returns c = record { nothing = refl; hyphens = refl }
