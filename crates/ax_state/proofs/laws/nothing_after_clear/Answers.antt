use Rattle.ax_state.proofs.EntryLemmas.{value_after_clear, items_after_clear, entries_after_clear, kind_after_clear}
use Rattle.ax_state.proofs.laws.nothing_after_clear.Goals as goal

pub returns-clause-value : goal.returns-clause-value
returns-clause-value c cells s = value_after_clear cells s

pub returns-clause-items : goal.returns-clause-items
returns-clause-items c cells s = items_after_clear cells s

pub returns-clause-entries : goal.returns-clause-entries
returns-clause-entries c cells s = entries_after_clear cells s

pub returns-clause-kind : goal.returns-clause-kind
returns-clause-kind c cells s = kind_after_clear cells s
