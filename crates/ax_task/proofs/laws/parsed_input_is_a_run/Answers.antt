use Rattle.ax_task.proofs.Parsed.{parsed_runs}
use Rattle.ax_task.proofs.laws.parsed_input_is_a_run.Goals as goal

pub returns : goal.returns
returns c = parsed_runs
