use Rattle.ax_cli.proofs.Says.{program_wrote}
use Rattle.ax_cli.proofs.laws.program_faults_wrote_nothing.Goals as goal

pub returns : goal.returns
returns c = program_wrote
