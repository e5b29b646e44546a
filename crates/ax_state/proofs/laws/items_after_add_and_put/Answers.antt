use Rattle.ax_state.proofs.EntryLemmas.{items_after_add, items_after_put}
use Rattle.ax_state.proofs.laws.items_after_add_and_put.Goals as goal

pub returns-clause-add : goal.returns-clause-add
returns-clause-add c cells s n = items_after_add cells s n

pub returns-clause-put : goal.returns-clause-put
returns-clause-put c cells s items = items_after_put cells s items
