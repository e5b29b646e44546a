use Rattle.std.proofs.Common.{arith}
use Rattle.ax_time.specs.Epochs.{place_of}
use Rattle.ax_time.proofs.EpochLemmas.{own_count, other_count, put_markers, put_length}
use Rattle.ax_time.proofs.epoch_laws.one_epoch_law.Goals as goal

pub returns-clause-own : goal.returns-clause-own
returns-clause-own c = λ book epoch n open_now. own_count book.closed book.count (place_of book epoch) n open_now

pub returns-clause-others : goal.returns-clause-others
returns-clause-others c = λ book epoch other n fits e o differ.
    let oldest = fits.oldest in
    other_count book.closed book.count (place_of book epoch) (place_of book other) n (λ same. differ (omega (arith, same, oldest, e, o)))

pub returns-clause-actions : goal.returns-clause-actions
returns-clause-actions c = λ book epoch n. put_markers book.closed (place_of book epoch) n

pub returns-clause-pending : goal.returns-clause-pending
returns-clause-pending c = λ book epoch n. put_length book.closed (place_of book epoch) n
