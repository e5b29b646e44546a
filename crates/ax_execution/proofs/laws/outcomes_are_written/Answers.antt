use Rattle.ax_execution.proofs.Outside.{written_grows}
use Rattle.ax_execution.proofs.laws.outcomes_are_written.Goals as goal

pub returns : goal.returns
returns c g p e m = written_grows g p e m
