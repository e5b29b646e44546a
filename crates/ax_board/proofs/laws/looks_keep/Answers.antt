use Rattle.ax_board.proofs.Keeps.{looks}
use Rattle.ax_board.proofs.laws.looks_keep.Goals as goal

pub returns : goal.returns
returns g c = looks _ _ _
