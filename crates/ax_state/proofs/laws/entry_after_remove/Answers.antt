use Rattle.ax_state.proofs.EntryLemmas.{get_after_remove, other_after_remove}
use Rattle.ax_state.proofs.laws.entry_after_remove.Goals as goal

pub returns-clause-there : goal.returns-clause-there
returns-clause-there c cells s at r = get_after_remove cells s at r

pub returns-clause-elsewhere : goal.returns-clause-elsewhere
returns-clause-elsewhere c cells s at q d = other_after_remove cells s at q d
