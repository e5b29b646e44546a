use Rattle.ax_state.proofs.EntryLemmas.{get_after_map_put, other_after_map_put}
use Rattle.ax_state.proofs.laws.entry_after_put.Goals as goal

pub returns-clause-there : goal.returns-clause-there
returns-clause-there c cells s at n = get_after_map_put cells s at n

pub returns-clause-elsewhere : goal.returns-clause-elsewhere
returns-clause-elsewhere c cells s at n q d = other_after_map_put cells s at n q d
