-- What contracts say of a board and its seats.
use Rattle.std.specs.Prelude.{ℕ, Bool, List, Option}
use Rattle.atomic_table.specs.Seated.{TableId}
use Rattle.ax_board.specs.declared.view.Note.{Note}
use Rattle.ax_board.specs.declared.work.Work.{Ghosts}
use Rattle.ax_board.specs.declared.board.Board.{Board}
use Rattle.ax_board.specs.declared.held.Held.{Held}
use Rattle.ax_board.specs.declared.seats.TaskSeat.{TaskSeat}
use Rattle.ax_board.specs.declared.seats.WorkSeat.{WorkSeat}
use Rattle.ax_board.specs.Trail.{Trail}
use Rattle.ax_board.specs.Seats.{notes_of, told_of, held_of}

-- the table of a board, by which a seat is known to be of this board
abbrev pub table : {W J : Type 0} → Board W J → TableId
table b = b.table.shared.table_id

-- how many cells a board has
abbrev pub cell_count : {W J : Type 0} → Board W J → ℕ
cell_count b = b.cells

module _ {W J : Type 0} {g : Ghosts W J} where
  -- the work that a worker claimed
  abbrev pub work_of : Held W J g → W
  work_of h = h.work

  -- the cell to which it was posted
  abbrev pub cell_of : Held W J g → ℕ
  cell_of h = h.cell

  -- the worker has run it
  abbrev pub is_run : Held W J g → Bool
  is_run h = h.is_run

  abbrev pub task_table : TaskSeat W J g → TableId
  task_table s = s.seat.table_id

  abbrev pub work_table : WorkSeat W J g → TableId
  work_table s = s.seat.table_id

  -- what the task notes for each cell
  abbrev pub notes : TaskSeat W J g → List (Note J)
  notes s = notes_of s.seat.me.0.0

  -- the task has told the workers to stop
  abbrev pub told : TaskSeat W J g → Bool
  told s = told_of s.seat.me.0.0

  -- the cell and the job of the work that a worker holds
  abbrev pub holds : WorkSeat W J g → Option (ℕ × J)
  holds s = held_of s.seat.me.0.0

  -- what the seat's steps did at the words, the last one first
  abbrev pub task_found : TaskSeat W J g → Trail
  task_found s = s.seat.me.0.1

  abbrev pub work_found : WorkSeat W J g → Trail
  work_found s = s.seat.me.0.1
