use Rattle.ax_board.proofs.Keeps.{collects}
use Rattle.ax_board.proofs.laws.collects_keep.Goals as goal

pub returns : goal.returns
returns g c = collects _ _ _
