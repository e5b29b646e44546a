-- The requests of a key that wait, and what an event adds to them.
use Rattle.std.specs.Prelude.{◌≡◌, ℕ, List, [], ◌∷◌, map, false, if◌then◌else◌, Option, Some, None}
use Rattle.std.specs.Str.{bytes_eq}
use Rattle.ax_text.specs.Prints.{has}
use Rattle.ax_text.specs.Controls.{Ask', waiting, replaced, without}
use Rattle.ax_machine.specs.Entries.{Key}
use Rattle.ax_execution.specs.Contexts.{Stage, Unbegun, Begun, Context}
use Rattle.ax_execution.specs.Machine.{Happening, Admit, Close, Fire, Start, Serve, Deliver, Send}

abbrev pub stage_waits : Stage → List Ask'
stage_waits Unbegun = []
stage_waits (Begun r) = waiting r.control

-- the requests of the owner that wait, served or not
abbrev pub owner_waits : Option Context → List Ask'
owner_waits None = []
owner_waits (Some c) = stage_waits c.stage

-- what waits at a key behind an event that asks this: at its start just that, at a delivery that in the place of what was answered
abbrev pub waits_behind : Key → Happening → List Ask' → List Ask' → List Ask'
waits_behind k (Admit n j time values) asks before = before
waits_behind k (Close c) asks before = before
waits_behind k (Fire n j) asks before = before
waits_behind k (Start j) asks before = if bytes_eq j k then asks else before
waits_behind k (Serve j slot) asks before = before
waits_behind k (Deliver j slot) asks before = if bytes_eq j k then replaced slot asks before else before
waits_behind k Send asks before = before

-- no slot is one of these
abbrev pub AreOutside : List ℕ → List Ask' → Type 0
AreOutside used [] = Unit {0}
AreOutside used (a ∷ as') = (has a.slot used ≡ false) × AreOutside used as'

-- the slots of what waits beside a slot
abbrev pub slots_beside : ℕ → List Ask' → List ℕ
slots_beside slot before = without slot (map (λ a. a.slot) before)
