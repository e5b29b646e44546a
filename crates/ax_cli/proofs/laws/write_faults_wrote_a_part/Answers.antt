use Rattle.ax_cli.proofs.Says.{write_wrote_some}
use Rattle.ax_cli.proofs.laws.write_faults_wrote_a_part.Goals as goal

pub returns : goal.returns
returns c = write_wrote_some
