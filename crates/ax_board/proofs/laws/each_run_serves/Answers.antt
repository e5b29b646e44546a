use Rattle.ax_board.proofs.Runs.{all_served}
use Rattle.ax_board.proofs.laws.each_run_serves.Goals as goal

pub returns : goal.returns
returns g c = all_served _ _ _
