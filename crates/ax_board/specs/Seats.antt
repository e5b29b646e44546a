-- What the seats of a board know and hold.
use Rattle.std.specs.Prelude.{◌≡◌, ℕ, ◌+◌, ◌==◌, Bool, true, false, cond, List, [], ◌∷◌, map, length, get_or, Option, Some, None}
use Rattle.atomic_table.specs.Table.{Me}
use Rattle.ax_board.specs.declared.view.View.{View}
use Rattle.ax_board.specs.declared.view.View.TheVariants.{Task, Worker, Spent}
use Rattle.ax_board.specs.declared.view.Note.{Note}
use Rattle.ax_board.specs.declared.view.Note.TheVariants.{Closed, Home, Out}

-- what the task notes
abbrev pub notes_of : {J : Type 0} → View J → List (Note J)
notes_of (Task notes told) = notes
notes_of (Worker held) = []
notes_of Spent = []

-- stop was told, as far as the task's view says
abbrev pub told_of : {J : Type 0} → View J → Bool
told_of (Task notes told) = told
told_of (Worker held) = false
told_of Spent = false

abbrev pub one_if : Bool → ℕ
one_if b = cond b 1 0

-- how often c stands in the list
abbrev pub times : ℕ → List ℕ → ℕ
times c [] = 0
times c (x ∷ xs) = one_if (x == c) + times c xs

abbrev pub is_home : {J : Type 0} → Note J → Bool
is_home Closed = false
is_home Home = true
is_home (Out j) = false

-- the task notes that the cell is home
abbrev pub at_home : {J : Type 0} → List (Note J) → ℕ → Bool
at_home notes c = get_or (map is_home notes) c false

abbrev pub homes_in : {J : Type 0} → List (Note J) → ℕ
homes_in [] = 0
homes_in (x ∷ xs) = one_if (is_home x) + homes_in xs

-- The task's seat holds the slots of the cells that are home, in this order
pub record IsTask {W J : Type 0} (me : Me (Option W) (View J)) (order : List ℕ) (notes : List (Note J)) : Type 0 where
  pub view : me.0 ≡ Task notes (told_of me.0)
  pub slots : map (λ (x : ℕ × Option W). x.0) me.1 ≡ order
  pub once : (c : ℕ) → times c order ≡ one_if (at_home notes c)
  pub few : length order ≡ homes_in notes

abbrev pub held_of : {J : Type 0} → View J → Option (ℕ × J)
held_of (Task notes told) = None
held_of (Worker held) = held
held_of Spent = None

abbrev pub slots_of : {W J : Type 0} → Option (ℕ × J) → List (ℕ × Option W)
slots_of None = []
slots_of (Some p) = (p.0, None) ∷ []

-- the seat of a worker, which holds the slot of the cell that it notes
abbrev pub IsWorker : {W J : Type 0} → Me (Option W) (View J) → Type 0
IsWorker {W} {J} me = me ≡ (Worker (held_of me.0), slots_of (held_of me.0))
