use Rattle.std.proofs.Common.{rules, ap, refl, arith}
use Rattle.ax_board.specs.Trail.{bare}
use Rattle.ax_board.proofs.Beside.{gives_back}
use Rattle.ax_board.proofs.Tasks.{busy}
use Rattle.ax_board.proofs.board.Board.give_at.Goals as goal

pub store-requires : goal.store-requires
store-requires g c = let z = c.args.self.now.key in
    let now = busy (bare c.args.seat.now.seat.me) (bare c.exchange.new.seat.me) _ _ _ c.args.seat.now.worker c.requires.same (ap bare c.exchange.ensures.3) in
    (search rules, search rules, gives_back _ _ _ _ _ _ _ _ c.args.work _ (omega arith) now c.requires.ran refl (g.met.W.Work.keeps_result c.args.work c.requires.ran))
