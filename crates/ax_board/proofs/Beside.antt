-- The steps of the board, with the trails of its seats.
use Rattle.std.proofs.Common.{◌≡◌, ℕ, ◌+◌, ◌%◌, ◌^◌, ◌<◌, eqb, Bool, true, false, [], ◌∷◌, Option, Some, None}
use mathlib.Core.Option.{some, none}
use lib.ListN.{get_elem?}
use prog.Atomic.{either}
use Rattle.atomic_table.specs.Table.{Me, step, rest, Allows, Splits, Joins}
use Rattle.ax_board.specs.declared.view.View.{View}
use Rattle.ax_board.specs.declared.view.View.TheVariants.{Task, Worker, Spent}
use Rattle.ax_board.specs.declared.view.Note.TheVariants.{Closed, Home}
use Rattle.ax_board.specs.declared.view.Deed.TheVariants.{Found, Left, Added}
use Rattle.ax_board.specs.Seats.{held_of, slots_of}
use Rattle.ax_board.specs.Rule.{Ruled}
use Rattle.ax_board.specs.Trail.{Trail, bare, Bare, adds, finds, leaves}
use Rattle.ax_board.specs.Seats.{notes_of, told_of}
use Rattle.ax_board.specs.Plays.{looked, heard, stop_told, opened, posted, claimed, given_back, collected}
use Rattle.ax_board.proofs.Trail.{beside, splits_beside, joins_beside}
use Rattle.ax_board.proofs.Keeps as k

module _ {W J : Type 0} (job : W → J) (was_run : W → Bool) (has_result : W → Type 0) where
  abbrev Sits : Type 0
  Sits = Me (Option W) (View J × Trail)

  pub looks : (n slots id i : ℕ) (m : Me (Option W) (View J × Trail)) → Allows (Bare (Ruled job was_run has_result n)) slots id m i (λ x. x) (finds looked (step slots i 0 0 none) m)
  looks n slots id i m = beside (Ruled job was_run has_result n) slots id i m (λ r. Found i r ∷ m.0.1) (λ x. x) (looked (step slots i 0 0 none) (bare m)) (k.looks job was_run has_result n slots id i (bare m))

  pub hears : (n slots id : ℕ) (m : Me (Option W) (View J × Trail)) → Allows (Bare (Ruled job was_run has_result n)) slots id m n (λ x. x) (finds heard (step slots n 0 0 none) m)
  hears n slots id m = beside (Ruled job was_run has_result n) slots id n m (λ r. Found n r ∷ m.0.1) (λ x. x) (heard (step slots n 0 0 none) (bare m)) (k.hears job was_run has_result n slots id (bare m))

  pub rings : (n slots id i : ℕ) (m : Me (Option W) (View J × Trail)) → n < i
      → Allows (Bare (Ruled job was_run has_result n)) slots id m i (λ x. (x + 1) % 2 ^ 64) (adds looked (step slots i 1 0 none) m)
  rings n slots id i m past = beside (Ruled job was_run has_result n) slots id i m (λ r. Added i r 1 ∷ m.0.1) (λ x. (x + 1) % 2 ^ 64) (looked (step slots i 1 0 none) (bare m)) (k.rings job was_run has_result n slots id i (bare m) past)

  pub stops : (n slots id : ℕ) (m : Me (Option W) (View J × Trail)) → m.0.0 ≡ Task (notes_of m.0.0) (told_of m.0.0)
      → Allows (Bare (Ruled job was_run has_result n)) slots id m n (λ x. 1) (λ r. leaves stop_told (step slots n 1 0 none) m 1)
  stops n slots id m is = beside (Ruled job was_run has_result n) slots id n m (λ r. Left n 1 ∷ m.0.1) (λ x. 1) (λ r. stop_told (step slots n 1 0 none) (bare m) 1) (k.stops_at job was_run has_result n slots id (bare m) is)

  pub claims : (n slots id c : ℕ) (m : Me (Option W) (View J × Trail)) → c < n → bare m ≡ (Worker (held_of m.0.0), slots_of (held_of m.0.0)) → held_of m.0.0 ≡ None
      → Allows (Bare (Ruled job was_run has_result n)) slots id m c (λ x. either (eqb x 1) 2 x) (finds (claimed job was_run) (step slots c 1 2 none) m)
  claims n slots id c m below is empty = beside (Ruled job was_run has_result n) slots id c m (λ r. Found c r ∷ m.0.1) (λ x. either (eqb x 1) 2 x) (claimed job was_run (step slots c 1 2 none) (bare m)) (k.claims_at job was_run has_result n slots id c (bare m) below is empty)

  pub gives_back : (n slots id c : ℕ) (j : J) (work : W) (m : Me (Option W) (View J × Trail)) → c < n → bare m ≡ (Worker (Some (c, j)), (c, Some work) ∷ []) → was_run work ≡ true → job work ≡ j → has_result work
      → Allows (Bare (Ruled job was_run has_result n)) slots id m c (λ _. 3) (λ r. leaves given_back (step slots c 3 0 none) m 3)
  gives_back n slots id c j work m below is ran same result = beside (Ruled job was_run has_result n) slots id c m (λ r. Left c 3 ∷ m.0.1) (λ x. 3) (λ r. given_back (step slots c 3 0 none) (bare m) 3) (k.gives_back_at job was_run has_result n slots id c j work (bare m) below is ran same result)

  pub collects : (n slots id c : ℕ) (m : Me (Option W) (View J × Trail)) → c < n → m.0.0 ≡ Task (notes_of m.0.0) (told_of m.0.0)
      → Allows (Bare (Ruled job was_run has_result n)) slots id m c (λ x. either (eqb x 3) 0 x) (finds (collected job was_run has_result) (step slots c 3 0 none) m)
  collects n slots id c m below is = beside (Ruled job was_run has_result n) slots id c m (λ r. Found c r ∷ m.0.1) (λ x. either (eqb x 3) 0 x) (collected job was_run has_result (step slots c 3 0 none) (bare m)) (k.collects_at job was_run has_result n slots id c (bare m) below is)

  pub opens : (n slots id c : ℕ) (m : Me (Option W) (View J × Trail)) → c < n → m.0.0 ≡ Task (notes_of m.0.0) (told_of m.0.0) → get_elem? (notes_of m.0.0) c ≡ some Closed
      → Allows (Bare (Ruled job was_run has_result n)) slots id m c (λ x. x) (finds opened (step slots c 0 0 none) m)
  opens n slots id c m below is closed = beside (Ruled job was_run has_result n) slots id c m (λ r. Found c r ∷ m.0.1) (λ x. x) (opened (step slots c 0 0 none) (bare m)) (k.opens_at job was_run has_result n slots id c (bare m) below is closed)

  pub posts : (n slots id c : ℕ) (work : W) (m : Me (Option W) (View J × Trail)) → c < n → m.0.0 ≡ Task (notes_of m.0.0) (told_of m.0.0) → m.1 ≡ (c, Some work) ∷ rest m.1 → was_run work ≡ false → get_elem? (notes_of m.0.0) c ≡ some Home
      → Allows (Bare (Ruled job was_run has_result n)) slots id m c (λ _. 1) (λ r. leaves (posted job) (step slots c 1 0 none) m 1)
  posts n slots id c work m below is front fresh home = beside (Ruled job was_run has_result n) slots id c m (λ r. Left c 1 ∷ m.0.1) (λ x. 1) (λ r. posted job (step slots c 1 0 none) (bare m) 1) (k.posts_at job was_run has_result n slots id c work (bare m) below is front fresh home)

  pub splits : (n id : ℕ) (v : View J × Trail) → Splits (Bare (Ruled job was_run has_result n)) id v v (Worker None, [])
  splits n id v = splits_beside (Ruled job was_run has_result n) id v v (Worker None, []) (k.splits job was_run has_result n id v.0)

  pub joins : (n id other : ℕ) (v w : View J × Trail) → w.0 ≡ Worker None → Joins (Bare (Ruled job was_run has_result n)) id v other w v (Spent, [])
  joins n id other v w is = joins_beside (Ruled job was_run has_result n) id other v w v (Spent, []) (k.joins_at job was_run has_result n id other v.0 w.0 is)
