use Rattle.ax_board.proofs.Runs.{post_between}
use Rattle.ax_board.proofs.laws.a_post_between.Goals as goal

pub returns : goal.returns
returns g c = post_between _ _ _
