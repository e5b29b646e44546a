use Rattle.ax_account.proofs.AccountLemmas.{sets_removed}
use Rattle.ax_account.proofs.accounting.take_out.Goals as goal

pub returns : goal.returns
returns c = sets_removed c.args.entries.now.entries c.remove.new.self.entries c.args.key.now c.remove.ensures.entries c.remove.ensures.updates.0 c.remove.ensures.ordered
