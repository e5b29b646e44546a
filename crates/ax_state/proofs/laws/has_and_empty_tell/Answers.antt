use Rattle.ax_state.proofs.EntryLemmas.{has_found, has_missing, empty_none, empty_some}
use Rattle.ax_state.proofs.laws.has_and_empty_tell.Goals as goal

pub returns-clause-has : goal.returns-clause-has
returns-clause-has c cells s at n h = has_found cells s at n h

pub returns-clause-has_not : goal.returns-clause-has_not
returns-clause-has_not c cells s at h = has_missing cells s at h

pub returns-clause-empty : goal.returns-clause-empty
returns-clause-empty c cells s h = empty_none cells s h

pub returns-clause-not_empty : goal.returns-clause-not_empty
returns-clause-not_empty c cells s p ps h = empty_some cells s p ps h
