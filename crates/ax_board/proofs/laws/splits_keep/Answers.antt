use Rattle.ax_board.proofs.Keeps.{splits}
use Rattle.ax_board.proofs.laws.splits_keep.Goals as goal

pub returns : goal.returns
returns g c = splits _ _ _
