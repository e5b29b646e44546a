use Rattle.ax_input.proofs.PlainLemmas.{sync_plain, so_far_plain, whole_plain}
use Rattle.ax_input.proofs.runs.runs_write_plain_entries.Goals as goal

pub returns-clause-plain : goal.returns-clause-plain
returns-clause-plain c = sync_plain

pub returns-clause-so_far : goal.returns-clause-so_far
returns-clause-so_far c = so_far_plain

pub returns-clause-whole : goal.returns-clause-whole
returns-clause-whole c = whole_plain
