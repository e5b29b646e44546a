use Rattle.std.proofs.Common.{◌≡◌, ◌<◌}
use Rattle.ax_board.specs.Seats.{times}
use Rattle.ax_board.proofs.Turns.{place}
use Rattle.ax_board.proofs.seats.TaskSeat.bring.Given as goal

abbrev pub invariant-loop-self : goal.invariant-loop-self
invariant-loop-self g l = (0 < times l.cell l.self.order.items) × (l.self.seat.table_id ≡ l.initial.self.seat.table_id) × (l.self.seat.me.0.0 ≡ l.initial.self.seat.me.0.0) × (l.self.seat.me.0.1 ≡ l.initial.self.seat.me.0.1)

abbrev pub decreases-loop-self : goal.decreases-loop-self
decreases-loop-self g l = place l.cell l.self.order.items
