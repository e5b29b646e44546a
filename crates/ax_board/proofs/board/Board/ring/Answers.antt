use Rattle.std.proofs.Common.{rules, arith}
use Rattle.ax_board.proofs.Beside.{rings}
use Rattle.ax_board.proofs.board.Board.ring.Goals as goal

pub fetch_add-requires : goal.fetch_add-requires
fetch_add-requires g c = let z = c.args.self.now.key in (search rules, search rules, rings _ _ _ _ _ _ _ _ (omega arith))
