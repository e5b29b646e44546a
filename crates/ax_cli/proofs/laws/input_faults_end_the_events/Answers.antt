use Rattle.ax_cli.proofs.Says.{input_wrote}
use Rattle.ax_cli.proofs.laws.input_faults_end_the_events.Goals as goal

pub returns : goal.returns
returns c = input_wrote
