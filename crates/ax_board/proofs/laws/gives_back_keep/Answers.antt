use Rattle.ax_board.proofs.Keeps.{gives_back}
use Rattle.ax_board.proofs.laws.gives_back_keep.Goals as goal

pub returns : goal.returns
returns g c = gives_back _ _ _
