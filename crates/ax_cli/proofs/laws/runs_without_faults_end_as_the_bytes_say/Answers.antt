use Rattle.ax_cli.proofs.Says.{ends_as_said}
use Rattle.ax_cli.proofs.laws.runs_without_faults_end_as_the_bytes_say.Goals as goal

pub returns : goal.returns
returns c = ends_as_said
