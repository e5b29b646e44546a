use Rattle.std.proofs.Common.{rules, sym}
use Rattle.ax_board.proofs.Beside.{hears}
use Rattle.ax_board.proofs.board.Board.stopped.Goals as goal

pub load-requires : goal.load-requires
load-requires g c = (search rules, search rules, rw (sym c.args.self.now.key) (hears _ _ _ _ _ _ _))
