use Rattle.ax_board.proofs.Runs.{rung}
use Rattle.ax_board.proofs.laws.a_ring_adds.Goals as goal

pub returns : goal.returns
returns g c = rung _ _ _
