-- What holds of each control at an origin, and stays so behind each event that is allowed, whatever the answers.
use Rattle.std.specs.Prelude.{◌≡◌, ℕ, ◌≤◌, ◌<◌, ℤ, List, [], ◌∷◌, true, false, Option, Some, None, ◌⊎◌}
use Rattle.ax_text.specs.Prints.{has}
use Rattle.ax_text.specs.Controls.{is_done, slots}
use Rattle.ax_text.specs.Footprints.{ControlFits}
use Rattle.ax_text.specs.Sound.{everything, Split, IsWakeful}
use Rattle.ax_machine.specs.Entries.{Key}
use Rattle.ax_execution.specs.Contexts.{Running, Stage, Unbegun, Begun, Context, Waiting, Row, Mark, rows_in, may_fire}
use Rattle.ax_execution.specs.Rest.{silent}
use Rattle.ax_execution.specs.ControlTurns.{is_idle_on}
use Rattle.ax_execution.specs.Machine.{Rules}
use Rattle.ax_execution.specs.MachineControls.{MachineControl, in_flight_on}
use Rattle.ax_execution.specs.ControlsAllowed.{AreAllKeys}

-- a handler that has begun isn't done
abbrev pub StageGoesOn : Stage → Type 0
StageGoesOn Unbegun = Unit {0}
StageGoesOn (Begun r) = is_done r.control ≡ false

abbrev pub OwnerGoesOn : Option Context → Type 0
OwnerGoesOn None = Unit {0}
OwnerGoesOn (Some c) = StageGoesOn c.stage

-- nothing waits, or a mark is in front that may fire
abbrev pub FrontMayFire : List Waiting → List ℤ → Type 0
FrontMayFire [] times = Unit {0}
FrontMayFire (Row n e f ∷ is) times = ⊥
FrontMayFire (Mark e w more ∷ is) times = may_fire w more times ≡ true

pub record IsInOrder (r : Rules) (m : MachineControl) : Type 0 where
  pub keys : AreAllKeys m
  -- what an owner has said is forgotten
  pub silent : (k : Key) → silent (m.controls k).owner ≡ (m.controls k).owner
  pub owners : (k : Key) → OwnerGoesOn (m.controls k).owner
  pub limit : in_flight_on m ≤ r.limit
  pub front : (k : Key) → (m.controls k).owner ≡ None → FrontMayFire (m.controls k).waiting (m.controls k).times
  -- rows wait behind an owner, or where their key must fire
  pub rows : (k : Key) → (m.controls k).owner ≡ None → (rows_in (m.controls k).waiting ≡ 0) ⊎ (m.must ≡ Some k)
  pub room : (k : Key) → m.must ≡ Some k → (is_idle_on (m.controls k) ≡ true) × (in_flight_on m < r.limit)

-- a handler on its way: its arms are apart and wait at different slots, it waits unless it is done, and answers stand only where it waits
pub record IsSoundRunning (r : Running) : Type 0 where
  pub fits : ControlFits r.control everything
  pub split : Split r.control
  pub wakeful : IsWakeful r.control
  pub blank : (s : ℕ) → has s (slots r.control) ≡ false → r.answers s ≡ None

abbrev pub StageIsSound : Stage → Type 0
StageIsSound Unbegun = Unit {0}
StageIsSound (Begun r) = IsSoundRunning r

abbrev pub OwnerIsSound : Option Context → Type 0
OwnerIsSound None = Unit {0}
OwnerIsSound (Some c) = StageIsSound c.stage

abbrev pub AreSound : MachineControl → Type 0
AreSound m = (k : Key) → OwnerIsSound (m.controls k).owner
