use Rattle.ax_time.specs.Epochs.{place_of}
use Rattle.ax_time.proofs.EpochLemmas.{count_at-close, taken_count}
use Rattle.ax_time.proofs.epoch_laws.counts_stay_law.Goals as goal

pub returns-clause-closed : goal.returns-clause-closed
returns-clause-closed c = λ book m epoch. count_at-close book.closed book.count (place_of book epoch) m

pub returns-clause-taken : goal.returns-clause-taken
returns-clause-taken c = λ book epoch fits e. taken_count book epoch fits.oldest fits.pending e
