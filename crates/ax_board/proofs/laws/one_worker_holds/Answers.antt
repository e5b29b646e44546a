use Rattle.ax_board.proofs.Runs.{one_holds}
use Rattle.ax_board.proofs.laws.one_worker_holds.Goals as goal

pub returns : goal.returns
returns g c = one_holds _ _ _
