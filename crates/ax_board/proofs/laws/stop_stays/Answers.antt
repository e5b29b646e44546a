use Rattle.ax_board.proofs.Runs.{stays}
use Rattle.ax_board.proofs.laws.stop_stays.Goals as goal

pub returns : goal.returns
returns g c = stays _ _ _
