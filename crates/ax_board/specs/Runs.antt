-- What a board does: steps of its seats, one after the other, in any order.
use Rattle.std.specs.Prelude.{◌≡◌, ℕ, ◌+◌, ◌%◌, ◌^◌, ◌<◌, Bool, true, false, List, [], ◌∷◌, ◌++◌, slice_index, slice_set, replicate, Option, Some, None}
use mathlib.Core.Option.{some, none}
use lib.ListN.{get_elem?}
use Rattle.atomic_table.specs.Table.{State, opening}
use Rattle.ax_board.specs.declared.view.View.{View}
use Rattle.ax_board.specs.declared.view.View.TheVariants.{Task, Worker, Spent}
use Rattle.ax_board.specs.declared.view.Note.{Note}
use Rattle.ax_board.specs.declared.view.Note.TheVariants.{Closed, Home, Out}

-- The ten kinds of step, with the cell, the work that moves, and the seat where it is a worker's. A claim or a collect that finds another word is a look.
pub data Move (W : Type 0) : Type 0 where
  opens : ℕ → Move W
  posts : ℕ → W → Move W
  claims : ℕ → ℕ → W → Move W
  gives_back : ℕ → ℕ → W → Move W
  collects : ℕ → W → Move W
  looks : Move W
  stops : Move W
  rings : ℕ → Move W
  splits : Move W
  joins : ℕ → Move W

module _ {W J : Type 0} where
  -- all words are 0, the slots are at home and empty, and the one seat is the task's
  abbrev pub start : ℕ → State (Option W) (View J)
  start n = opening (replicate (n + 3) 0) (replicate n None) (Task (replicate n Closed) false)

  module _ (job : W → J) where
    -- what the task notes after a step
    abbrev pub noted_after : List (Note J) → Move W → List (Note J)
    noted_after notes (opens c) = slice_set notes c Home
    noted_after notes (posts c work) = slice_set notes c (Out (job work))
    noted_after notes (claims seat c work) = notes
    noted_after notes (gives_back seat c work) = notes
    noted_after notes (collects c work) = slice_set notes c Home
    noted_after notes looks = notes
    noted_after notes stops = notes
    noted_after notes (rings bell) = notes
    noted_after notes splits = notes
    noted_after notes (joins seat) = notes

    module _ (was_run : W → Bool) (has_result : W → Type 0) where
      -- where the steps begin is s, and t is where they end. A board has n cells
      abbrev pub Does : ℕ → State (Option W) (View J) → Move W → State (Option W) (View J) → Type 0
      Does n s (opens c) t =
          (seat : ℕ) × (notes : List (Note J)) × (told : Bool) × (c < n) × (get_elem? s.views seat ≡ some (Task notes told)) × (get_elem? notes c ≡ some Closed)
          × (t ≡ record { words = slice_set s.words c (slice_index s.words c); homes = slice_set s.homes c none; views = slice_set s.views seat (Task (slice_set notes c Home) told) })
      Does n s (posts c work) t =
          (seat : ℕ) × (notes : List (Note J)) × (told : Bool) × (c < n) × (get_elem? s.views seat ≡ some (Task notes told)) × (get_elem? notes c ≡ some Home) × (was_run work ≡ false)
          × (t ≡ record { words = slice_set s.words c 1; homes = slice_set s.homes c (some (Some work)); views = slice_set s.views seat (Task (slice_set notes c (Out (job work))) told) })
      Does n s (claims seat c work) t =
          (c < n) × (get_elem? s.views seat ≡ some (Worker None)) × (slice_index s.words c ≡ 1) × (get_elem? s.homes c ≡ some (some (Some work)))
          × (t ≡ record { words = slice_set s.words c 2; homes = slice_set s.homes c none; views = slice_set s.views seat (Worker (Some (c, job work))) })
      Does n s (gives_back seat c work) t =
          (c < n) × (get_elem? s.views seat ≡ some (Worker (Some (c, job work)))) × (was_run work ≡ true) × has_result work
          × (t ≡ record { words = slice_set s.words c 3; homes = slice_set s.homes c (some (Some work)); views = slice_set s.views seat (Worker None) })
      Does n s (collects c work) t =
          (seat : ℕ) × (notes : List (Note J)) × (told : Bool) × (c < n) × (get_elem? s.views seat ≡ some (Task notes told)) × (slice_index s.words c ≡ 3) × (get_elem? s.homes c ≡ some (some (Some work)))
          × (t ≡ record { words = slice_set s.words c 0; homes = slice_set s.homes c none; views = slice_set s.views seat (Task (slice_set notes c Home) told) })
      Does n s looks t = t ≡ s
      Does n s stops t =
          (seat : ℕ) × (notes : List (Note J)) × (told : Bool) × (get_elem? s.views seat ≡ some (Task notes told))
          × (t ≡ record { words = slice_set s.words n 1; homes = s.homes; views = slice_set s.views seat (Task notes true) })
      Does n s (rings bell) t = (n < bell) × (bell < n + 3) × (t ≡ record { words = slice_set s.words bell ((slice_index s.words bell + 1) % 2 ^ 64); homes = s.homes; views = s.views })
      Does n s splits t = t ≡ record { words = s.words; homes = s.homes; views = s.views ++ Worker None ∷ [] }
      Does n s (joins seat) t = (get_elem? s.views seat ≡ some (Worker None)) × (t ≡ record { words = s.words; homes = s.homes; views = slice_set s.views seat Spent })

      abbrev pub Runs : ℕ → State (Option W) (View J) → List (Move W) → State (Option W) (View J) → Type 0
      Runs n s [] t = t ≡ s
      Runs n s (move ∷ moves) t = (next : State (Option W) (View J)) × Does n s move next × Runs n next moves t

      -- work is posted to a cell that is home. What is collected has the job of the work that was posted there last and not collected since, was run, and has its result
      abbrev pub Served : List (Note J) → Move W → Type 0
      Served notes (opens c) = get_elem? notes c ≡ some Closed
      Served notes (posts c work) = get_elem? notes c ≡ some Home
      Served notes (claims seat c work) = get_elem? notes c ≡ some (Out (job work))
      Served notes (gives_back seat c work) = get_elem? notes c ≡ some (Out (job work))
      Served notes (collects c work) = (get_elem? notes c ≡ some (Out (job work))) × (was_run work ≡ true) × has_result work
      Served notes looks = Unit {0}
      Served notes stops = Unit {0}
      Served notes (rings bell) = Unit {0}
      Served notes splits = Unit {0}
      Served notes (joins seat) = Unit {0}

      abbrev pub AllServed : List (Note J) → List (Move W) → Type 0
      AllServed notes [] = Unit {0}
      AllServed notes (move ∷ moves) = Served notes move × AllServed (noted_after notes move) moves
