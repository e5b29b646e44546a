use Rattle.ax_execution.proofs.Merging.{watermark_merges, fires_alone}
use Rattle.ax_execution.proofs.laws.firings_are_merged_by_time_and_key.Goals as goal

pub returns-clause-order : goal.returns-clause-order
returns-clause-order c g p from events w h = watermark_merges g p from events w h

pub returns-clause-alone : goal.returns-clause-alone
returns-clause-alone c g p from events w k fits h = fires_alone g p from events w k fits h
