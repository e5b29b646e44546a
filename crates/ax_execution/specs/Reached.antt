-- Controls that events lead to, whatever the cells answered, and what holds of each.
use Rattle.std.specs.Prelude.{◌≡◌, ℕ, suc, ◌+◌, ◌≤◌, ◌<◌, ℤ, List, [], ◌∷◌, length, true, false, Option, Some, None}
use Rattle.std.specs.Str.{bytes_eq}
use Rattle.std.specs.List.{list_any}
use Rattle.std.specs.List.Sorted.{IsStrictlySortedBy}
use Rattle.std.specs.Ordering.{int_cmp}
use Rattle.ax_keys.specs.Keys.{key_cmp}
use Rattle.ax_text.specs.declared.vocabulary.Handler.TheVariants as handler
use Rattle.ax_text.specs.Prints.{has}
use Rattle.ax_text.specs.Programs.{Program}
use Rattle.ax_text.specs.Controls.{is_done, slots}
use Rattle.ax_machine.specs.Entries.{Key}
use Rattle.ax_execution.specs.Contexts.{Running, Begun, Context, Waiting, Row, Mark, rows_in, may_fire}
use Rattle.ax_execution.specs.Counts.{references}
use Rattle.ax_execution.specs.Sums.{total}
use Rattle.ax_execution.specs.Origins.{Origin, IsOrigin}
use Rattle.ax_execution.specs.KeyControls.{KeyControl}
use Rattle.ax_execution.specs.ControlTurns.{is_idle_on}
use Rattle.ax_execution.specs.Machine.{Closed, Rules}
use Rattle.ax_execution.specs.MachineControls.{MachineControl, at_origin, in_flight_on, number_count_on}
use Rattle.ax_execution.specs.ControlsAllowed.{Answered, IsRunOn, after_all_on}

-- from an origin, by events that are allowed each at its place
pub record IsReached (r : Rules) (p : Program) (m : MachineControl) : Type 0 where
  pub from : Origin
  pub events : List Answered
  pub origin : IsOrigin p from
  pub run : IsRunOn r p events (at_origin from)
  pub there : m ≡ after_all_on p events (at_origin from)

-- nothing is left of the key: no owner, nothing that waits, no timer
pub record IsUntouched (c : KeyControl) : Type 0 where
  pub owner : c.owner ≡ None
  pub waiting : c.waiting ≡ []
  pub times : c.times ≡ []

-- an epoch is the current one, or a closed one whose marker isn't sent
pub record IsOpenEpoch (m : MachineControl) (e : ℕ) : Type 0 where
  pub begun : e ≤ m.epoch
  pub unsent : m.epoch ≤ e + length m.unsent

abbrev pub OwnerOpen : MachineControl → Option Context → Type 0
OwnerOpen m None = Unit {0}
OwnerOpen m (Some c) = IsOpenEpoch m c.epoch

abbrev pub WaitingOpen : MachineControl → List Waiting → Type 0
WaitingOpen m [] = Unit {0}
WaitingOpen m (Row n e f ∷ is) = IsOpenEpoch m e × WaitingOpen m is
WaitingOpen m (Mark e w more ∷ is) = IsOpenEpoch m e × WaitingOpen m is

-- closed epochs follow one another, and the last of them stands before the current one
abbrev pub Follow : ℕ → List Closed → ℕ → Type 0
Follow e [] current = e ≡ current
Follow e (c ∷ cs) current = (c.epoch ≡ e) × Follow (suc e) cs current

-- marks are of closed epochs
abbrev pub MarksBelow : ℕ → List Waiting → Type 0
MarksBelow e [] = Unit {0}
MarksBelow e (Row n f facts ∷ is) = MarksBelow e is
MarksBelow e (Mark f w more ∷ is) = (f < e) × MarksBelow e is

-- the mark of a firing stays in front of its key
abbrev pub MarkInFront : ℕ → List Waiting → Type 0
MarkInFront e [] = ⊥
MarkInFront e (Row n f facts ∷ is) = ⊥
MarkInFront e (Mark f w more ∷ is) = f ≡ e

-- the references of the owner of a key
abbrev pub owed_to : Option Context → ℕ
owed_to None = 0
owed_to (Some c) = references c.stage

-- the references of all owners: the requests that wait, and one for each owner that hasn't begun
abbrev pub owed_in : MachineControl → ℕ
owed_in m = total m.keys (λ k. owed_to (m.controls k).owner)

-- what holds of each control that is reached
pub record IsOrderly (r : Rules) (m : MachineControl) : Type 0 where
  pub limit : in_flight_on m ≤ r.limit
  pub rise : IsStrictlySortedBy key_cmp m.keys
  pub absent : (k : Key) → list_any (bytes_eq k) m.keys ≡ false → IsUntouched (m.controls k)
  pub times : (k : Key) → IsStrictlySortedBy int_cmp (m.controls k).times
  pub numbers : (n : ℕ) → number_count_on n m ≤ 1
  pub rows : (k : Key) → (m.must ≡ Some k → ⊥) → (m.controls k).owner ≡ None → rows_in (m.controls k).waiting ≡ 0
  pub due : (k : Key) (e : ℕ) (w : ℤ) (more : ℕ) (rest : List Waiting) → (m.controls k).owner ≡ None → (m.controls k).waiting ≡ Mark e w more ∷ rest → may_fire w more (m.controls k).times ≡ true
  pub room : (k : Key) → m.must ≡ Some k → (is_idle_on (m.controls k) ≡ true) × (in_flight_on m < r.limit)
  pub awake : (k : Key) (c : Context) (running : Running) → (m.controls k).owner ≡ Some c → c.stage ≡ Begun running → is_done running.control ≡ false
  pub answers : (k : Key) (c : Context) (running : Running) (slot : ℕ) → (m.controls k).owner ≡ Some c → c.stage ≡ Begun running → has slot (slots running.control) ≡ false → running.answers slot ≡ None
  pub owners : (k : Key) → OwnerOpen m (m.controls k).owner
  pub waiting : (k : Key) → WaitingOpen m (m.controls k).waiting
  pub marks : (k : Key) → MarksBelow m.epoch (m.controls k).waiting
  pub firings : (k : Key) (c : Context) → (m.controls k).owner ≡ Some c → c.job.handler ≡ handler.Timer → MarkInFront c.epoch (m.controls k).waiting
  pub unsent : length m.unsent ≤ m.epoch
  pub oldest : (e : ℕ) → e + length m.unsent ≡ m.epoch → Follow e m.unsent m.epoch
