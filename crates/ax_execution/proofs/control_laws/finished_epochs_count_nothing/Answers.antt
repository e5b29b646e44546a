use Rattle.ax_execution.proofs.ReachedCounts.{finished_counts_on, counts_finished_on, sent_finished, first_finished}
use Rattle.ax_execution.proofs.ReachedOrderly.{reached_orderly, reached_holds}
use Rattle.ax_execution.proofs.control_laws.finished_epochs_count_nothing.Goals as goal

pub returns-clause-finished : goal.returns-clause-finished
returns-clause-finished c e m h u a = finished_counts_on e m h u a

pub returns-clause-counts : goal.returns-clause-counts
returns-clause-counts c r p m e accepted reached h = counts_finished_on r m (reached_orderly r p m accepted reached) e h

pub returns-clause-sent : goal.returns-clause-sent
returns-clause-sent c r p m e accepted reached h = sent_finished r m (reached_orderly r p m accepted reached) e h

pub returns-clause-first : goal.returns-clause-first
returns-clause-first c r p m x cs accepted reached e h = first_finished r m (reached_holds r p accepted m reached) x cs e h
