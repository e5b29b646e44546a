use Rattle.std.proofs.Common.{◌≡◌, ◌∙◌, List, false, sym, ap}
use Rattle.ax_machine.specs.Entries.{Key}
use Rattle.ax_account.specs.Queues.{has_key}
use Rattle.ax_time.specs.Timers.{times_of}
use Rattle.ax_core.proofs.MarkLemmas.{goes}
use Rattle.ax_core.proofs.IdleKeys.{owned_busy}
use Rattle.ax_core.proofs.callbacks.hand_over.Goals as goal

pub loop-epoch-preserved : goal.loop-epoch-preserved
loop-epoch-preserved c = goes c.args.key.now (times_of c.args.timers.now c.args.key.now) c.args.accounts.now c.loop-epoch.accounts c.end_mark-next.new.self c.args.epochs.now c.loop-epoch.epochs c.leave.new.self
    c.loop-epoch.next c.end_mark-next.result c.in-Some.epoch c.loop-epoch.invariant (sym c.ending_epoch.ensures ∙ c.in-Some.is)
    c.end_mark-next.ensures.next c.end_mark-next.ensures.part c.end_mark-next.ensures.idle c.leave.ensures

pub returns-clause-idle : goal.returns-clause-idle
returns-clause-idle c = c.loop-epoch.invariant.idle (owned_busy c.args.accounts.now c.args.key.now c.accounts_law.ensures c.requires.owner)

pub returns-clause-busy : goal.returns-clause-busy
returns-clause-busy c =
    let busy : has_key c.args.accounts.now.idle c.args.key.now ≡ false = owned_busy c.args.accounts.now c.args.key.now c.accounts_law.ensures c.requires.owner in
    ap (λ (ks : List Key). has_key ks c.args.key.now) (c.loop-epoch.invariant.idle busy) ∙ busy
