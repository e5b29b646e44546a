use Rattle.ax_account.proofs.QueueLemmas.{linked_nil}
use Rattle.ax_account.proofs.idle.KeyQueue.new.Goals as goal

pub invariant_of-result : goal.invariant_of-result
invariant_of-result c = linked_nil c.new.result.entries c.new-2.result.entries c.new.ensures.empty c.new-2.ensures.empty
