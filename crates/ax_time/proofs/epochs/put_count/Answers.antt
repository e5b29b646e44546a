use Rattle.std.proofs.Common.{slice_set, ap, ◌∙◌}
use Rattle.ax_time.proofs.EpochLemmas.{put_closed-at}
use Rattle.ax_time.proofs.epochs.put_count.Goals as goal

pub returns : goal.returns
returns c =
    let closed = c.args.closed.now.items in
    let epoch = c.index_mut.result.now in
    ap (λ x. slice_set closed c.args.place (record { marker = x.marker; count = c.args.count })) c.index_mut.ensures.value
    ∙ put_closed-at closed c.args.place c.args.count epoch c.requires
