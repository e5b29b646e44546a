use Rattle.ax_board.proofs.Keeps.{rings}
use Rattle.ax_board.proofs.laws.rings_keep.Goals as goal

pub returns : goal.returns
returns g c = rings _ _ _
