use Rattle.std.proofs.Common.{refl}
use Rattle.ax_account.proofs.AccountLemmas.{handed_free}
use Rattle.ax_account.proofs.accounting.hand_over.Goals as goal

pub returns-in-Free-clause-sets : goal.returns-in-Free-clause-sets
returns-in-Free-clause-sets c =
    handed_free c.args.entries.now.entries c.hand_over_at.new.entries.entries c.take_out.new.entries.entries c.args.key.now (λ part. part.waiting) refl c.in-Free.ensures.sets c.take_out.ensures c.in-Free.ensures.next
