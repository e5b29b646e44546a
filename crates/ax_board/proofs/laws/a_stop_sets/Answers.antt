use Rattle.ax_board.proofs.Runs.{stop_set}
use Rattle.ax_board.proofs.laws.a_stop_sets.Goals as goal

pub returns : goal.returns
returns g c = stop_set _ _ _
