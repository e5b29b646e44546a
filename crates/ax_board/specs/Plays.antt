-- What each kind of step tells: of the step, the seat m before it, the number r that it found, and the seat n after it. A seat is a view, with the slots that it has taken.
use Rattle.std.specs.Prelude.{◌≡◌, ◌≢◌, ◌≤◌, ℕ, Bool, true, false, ◌∷◌, slice_set, Option, Some, None}
use mathlib.Core.Option.{some}
use lib.ListN.{get_elem?}
use Rattle.atomic_table.specs.Table.{Me, Step, rest}
use Rattle.ax_board.specs.declared.view.View.{View}
use Rattle.ax_board.specs.declared.view.View.TheVariants.{Task, Worker}
use Rattle.ax_board.specs.declared.view.Note.TheVariants.{Home, Out}
use Rattle.ax_board.specs.Seats.{notes_of, told_of}

module _ {W J : Type 0} where
  -- nothing changed
  abbrev pub looked : Step (Option W) → Me (Option W) (View J) → ℕ → Me (Option W) (View J) → Type 0
  looked st m r n = n ≡ m

  -- the same at the stop word, which is 0 or 1
  abbrev pub heard : Step (Option W) → Me (Option W) (View J) → ℕ → Me (Option W) (View J) → Type 0
  heard st m r n = (n ≡ m) × (r ≤ 1)

  -- the task notes that stop was told
  abbrev pub stop_told : Step (Option W) → Me (Option W) (View J) → ℕ → Me (Option W) (View J) → Type 0
  stop_told st m r n = n ≡ (Task (notes_of m.0) true, m.1)

  -- the cell is noted as home, and the seat has its slot, which is empty
  abbrev pub opened : Step (Option W) → Me (Option W) (View J) → ℕ → Me (Option W) (View J) → Type 0
  opened st m r n = n ≡ (Task (slice_set (notes_of m.0) st.word Home) (told_of m.0), (st.word, None) ∷ m.1)

  -- the worker notes nothing, and has let the slot go
  abbrev pub given_back : Step (Option W) → Me (Option W) (View J) → ℕ → Me (Option W) (View J) → Type 0
  given_back st m r n = n ≡ (Worker None, rest m.1)

  module _ (job : W → J) where
    -- the task has let the slot go with its work, and notes the work's job
    abbrev pub posted : Step (Option W) → Me (Option W) (View J) → ℕ → Me (Option W) (View J) → Type 0
    posted st m r n = (work : W) → m.1 ≡ (st.word, Some work) ∷ rest m.1 → n ≡ (Task (slice_set (notes_of m.0) st.word (Out (job work))) (told_of m.0), rest m.1)

    module _ (was_run : W → Bool) where
      -- at 1 the worker has the slot with work that was not run, and notes its job. At another number nothing changed
      abbrev pub claimed : Step (Option W) → Me (Option W) (View J) → ℕ → Me (Option W) (View J) → Type 0
      claimed st m r n =
          (r ≡ 1 → (work : W) × (n ≡ (Worker (Some (st.word, job work)), (st.word, Some work) ∷ m.1)) × (was_run work ≡ false))
          × (r ≢ 1 → n ≡ m)

      module _ (has_result : W → Type 0) where
        -- at 3 the cell is noted as home, and the task has its slot with work of the job that it noted, run and with its result. At another number nothing changed
        abbrev pub collected : Step (Option W) → Me (Option W) (View J) → ℕ → Me (Option W) (View J) → Type 0
        collected st m r n =
            (r ≡ 3 → (work : W) × (n ≡ (Task (slice_set (notes_of m.0) st.word Home) (told_of m.0), (st.word, Some work) ∷ m.1)) × (was_run work ≡ true) × has_result work
            × (get_elem? (notes_of m.0) st.word ≡ some (Out (job work))))
            × (r ≢ 3 → n ≡ m)
