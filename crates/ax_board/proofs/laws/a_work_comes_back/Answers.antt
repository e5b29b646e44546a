use Rattle.ax_board.proofs.Runs.{comes_back}
use Rattle.ax_board.proofs.laws.a_work_comes_back.Goals as goal

pub returns : goal.returns
returns g c = comes_back _ _ _
