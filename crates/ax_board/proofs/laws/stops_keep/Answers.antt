use Rattle.ax_board.proofs.Keeps.{stops}
use Rattle.ax_board.proofs.laws.stops_keep.Goals as goal

pub returns : goal.returns
returns g c = stops _ _ _
