use Rattle.ax_cli.proofs.Says.{read_wrote_all}
use Rattle.ax_cli.proofs.laws.read_faults_wrote_a_lawful_list.Goals as goal

pub returns : goal.returns
returns c = read_wrote_all
