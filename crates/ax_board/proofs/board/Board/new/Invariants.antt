use Rattle.std.proofs.Common.{◌≡◌, ◌-◌, ◌++◌, false, replicate}
use Rattle.ax_board.specs.Seats.{notes_of, told_of}
use Rattle.ax_board.specs.declared.view.Note.TheVariants.{Closed, Home}
use Rattle.ax_board.proofs.board.Board.new.Given as goal

abbrev pub invariant-loop-at : goal.invariant-loop-at
invariant-loop-at g l = (l.seat.seat.table_id ≡ l.initial.seat.seat.table_id) × (notes_of l.seat.seat.me.0.0 ≡ replicate l.at Home ++ replicate (l.at-end - l.at) Closed) × (told_of l.seat.seat.me.0.0 ≡ false)
