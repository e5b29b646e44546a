use Rattle.std.proofs.Common.{rules, ◌≡◌, ◌<◌, ap, ◌∙◌, arith, length, set, false, true, None}
use Rattle.ax_board.specs.Seats.{at_home}
use Rattle.ax_board.specs.Trail.{bare}
use Rattle.ax_board.specs.Seats.{notes_of}
use Rattle.ax_board.proofs.Beside.{opens}
use Rattle.ax_board.proofs.Tasks.{note_home, room_for, comes, flags_now}
use Rattle.ax_board.specs.declared.view.Note.TheVariants.{Closed, Home}
use Rattle.ax_board.proofs.board.Board.open.Goals as goal

pub load-requires : goal.load-requires
load-requires g c = let z = c.args.self.now.key in (search rules, search rules, opens _ _ _ _ _ _ _ _ (omega arith) c.args.seat.now.task.view c.requires.closed)

pub push_front_reserved-requires : goal.push_front_reserved-requires
push_front_reserved-requires g c = let s = c.args.seat.now in let z = c.args.self.now.key in
    let out : at_home (notes_of s.seat.me.0.0) c.args.at ≡ false = note_home (notes_of s.seat.me.0.0) c.args.at Closed c.requires.closed in
    let below : c.args.at < length (notes_of s.seat.me.0.0) = omega (arith, s.wide, ap (λ z. z.slots) c.requires.board) in
    let room = room_for (bare s.seat.me) s.order.items c.args.at s.task below out in
    omega (arith, s.order.ok.0, s.room)

pub invariant_of-seat-clause-task : goal.invariant_of-seat-clause-task
invariant_of-seat-clause-task g c = let s = c.args.seat.now in let z = c.args.self.now.key in
    let out : at_home (notes_of s.seat.me.0.0) c.args.at ≡ false = note_home (notes_of s.seat.me.0.0) c.args.at Closed c.requires.closed in
    let below : c.args.at < length (notes_of s.seat.me.0.0) = omega (arith, s.wide, ap (λ z. z.slots) c.requires.board) in
    rw c.push_front_reserved.ensures.items (comes (bare s.seat.me) _ s.order.items c.args.at None s.task below out c.load.ensures.2.0)

pub invariant_of-seat-clause-flags : goal.invariant_of-seat-clause-flags
invariant_of-seat-clause-flags g c = let s = c.args.seat.now in
    ap (λ l. set l c.args.at true) s.flags ∙ flags_now (bare s.seat.me) _ c.args.at Home _ c.load.ensures.2.0
