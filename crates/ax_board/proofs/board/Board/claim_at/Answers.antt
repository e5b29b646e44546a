use Rattle.std.proofs.Common.{rules, ap, arith}
use Rattle.ax_board.proofs.Beside.{claims}
use Rattle.ax_board.proofs.Tasks.{front_slot}
use Rattle.ax_board.proofs.board.Board.claim_at.Goals as goal

pub compare_exchange-found-requires : goal.compare_exchange-found-requires
compare_exchange-found-requires g c = let z = c.args.self.now.key in
    (search rules, search rules, claims _ _ _ _ _ _ _ _ (omega arith) c.args.seat.now.worker c.requires.empty)

pub exchange-requires : goal.exchange-requires
exchange-requires g c = let t = c.compare_exchange-found.ensures.2.0.0 c.if-found-ne1.false in (search rules, front_slot _ _ _ _ (ap (λ m. m.1) t.1))
