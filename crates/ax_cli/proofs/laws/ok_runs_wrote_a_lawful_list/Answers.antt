use Rattle.ax_cli.proofs.Says.{ok_wrote}
use Rattle.ax_cli.proofs.laws.ok_runs_wrote_a_lawful_list.Goals as goal

pub returns : goal.returns
returns c = ok_wrote
