use Rattle.ax_board.proofs.Keeps.{posts}
use Rattle.ax_board.proofs.laws.posts_keep.Goals as goal

pub returns : goal.returns
returns g c = posts _ _ _
