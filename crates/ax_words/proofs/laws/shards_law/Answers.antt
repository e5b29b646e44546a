use Rattle.std.proofs.Common.{refl}
use Rattle.ax_words.specs.Words.{given_by}
use Rattle.ax_words.proofs.laws.shards_law.Goals as goal

pub returns : goal.returns
unfolding given_by
returns c = record { fewer = refl; one_each = refl; above_groups = refl; zero = refl; above = refl }
