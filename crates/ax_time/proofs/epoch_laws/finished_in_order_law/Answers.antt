use Rattle.ax_time.proofs.EpochLemmas.{earlier_finished}
use Rattle.ax_time.proofs.OrderLemmas.{finished_means}
use Rattle.ax_time.proofs.epoch_laws.finished_in_order_law.Goals as goal

pub returns-clause-means : goal.returns-clause-means
returns-clause-means c = finished_means

pub returns-clause-earlier : goal.returns-clause-earlier
returns-clause-earlier c = earlier_finished
