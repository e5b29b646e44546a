use Rattle.ax_board.proofs.Keeps.{opens}
use Rattle.ax_board.proofs.laws.opens_keep.Goals as goal

pub returns : goal.returns
returns g c = opens _ _ _
