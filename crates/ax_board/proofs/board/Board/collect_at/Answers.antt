use Rattle.std.proofs.Common.{rules, ◌<◌, ◌∷◌, ap, sym, ◌∙◌, arith, length, map, set, true, Some, None}
use Rattle.ax_board.specs.Seats.{is_home}
use Rattle.ax_board.specs.Trail.{bare}
use Rattle.ax_board.specs.Seats.{notes_of}
use Rattle.ax_board.proofs.Beside.{collects}
use Rattle.ax_board.proofs.Tasks.{front_slot, room_for, comes, refilled, flags_now}
use Rattle.ax_board.specs.declared.view.Note.TheVariants.{Home}
use Rattle.ax_board.proofs.board.Board.collect_at.Goals as goal

pub compare_exchange-found-requires : goal.compare_exchange-found-requires
compare_exchange-found-requires g c = let z = c.args.self.now.key in
    (search rules, search rules, collects _ _ _ _ _ _ _ _ (omega arith) c.args.seat.now.task.view)

pub push_front_reserved-requires : goal.push_front_reserved-requires
push_front_reserved-requires g c = let s = c.args.seat.now in let z = c.args.self.now.key in
    let below : c.args.at < length (notes_of s.seat.me.0.0) = omega (arith, s.wide, ap (λ z. z.slots) c.requires.board) in
    let room = room_for (bare s.seat.me) s.order.items c.args.at s.task below c.requires.out in
    omega (arith, s.order.ok.0, s.room)

pub exchange-requires : goal.exchange-requires
exchange-requires g c = let t = c.compare_exchange-found.ensures.2.0.0 c.if-found-ne3.false in (search rules, front_slot _ _ _ _ (ap (λ m. m.1) t.1))

pub invariant_of-seat-2-clause-task : goal.invariant_of-seat-2-clause-task
invariant_of-seat-2-clause-task g c = let s = c.args.seat.now in let z = c.args.self.now.key in
    let t = c.compare_exchange-found.ensures.2.0.0 c.if-found-ne3.false in
    let below : c.args.at < length (notes_of s.seat.me.0.0) = omega (arith, s.wide, ap (λ z. z.slots) c.requires.board) in
    let came = comes (bare s.seat.me) _ s.order.items c.args.at (Some t.0) s.task below c.requires.out t.1 in
    rw c.push_front_reserved.ensures.items (refilled _ (bare c.exchange.new.seat.me) (c.args.at ∷ s.order.items) c.args.at c.exchange.result None came c.exchange.ensures.2 (ap bare c.exchange.ensures.3))

pub invariant_of-seat-2-clause-flags : goal.invariant_of-seat-2-clause-flags
invariant_of-seat-2-clause-flags g c = let s = c.args.seat.now in
    let t = c.compare_exchange-found.ensures.2.0.0 c.if-found-ne3.false in
    ap (λ l. set l c.args.at true) s.flags ∙ (flags_now (bare s.seat.me) _ c.args.at Home _ t.1 ∙ sym (ap (λ m. map is_home (notes_of m.0.0)) c.exchange.ensures.3))
