use Rattle.ax_time.proofs.OrderLemmas.{there}
use Rattle.ax_time.proofs.epoch_laws.oldest_is_taken_law.Goals as goal

pub returns-clause-there : goal.returns-clause-there
returns-clause-there c = λ book fits. there book fits.oldest
