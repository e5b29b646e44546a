use Rattle.std.proofs.Common.{rules, sym}
use Rattle.ax_board.proofs.Beside.{stops}
use Rattle.ax_board.proofs.board.Board.stop.Goals as goal

pub store-requires : goal.store-requires
store-requires g c = (search rules, search rules, rw (sym c.args.self.now.key) (stops _ _ _ _ _ _ _ c.args.seat.now.task.view))
