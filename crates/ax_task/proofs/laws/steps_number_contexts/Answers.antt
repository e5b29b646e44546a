use Rattle.ax_task.specs.Laws.{AsCalls}
use Rattle.ax_task.proofs.Numbering.{as_calls}
use Rattle.ax_task.proofs.laws.steps_number_contexts.Goals as goal

pub returns-clause-calls : goal.returns-clause-calls
returns-clause-calls c = as_calls

pub returns-clause-counted : goal.returns-clause-counted
returns-clause-counted c t steps none h =
    let all : AsCalls t steps = as_calls t steps h in
    (all, c.contexts_are_counted.ensures t.engine.core all.calls none all.are)
