-- What an event changes of the references of owners.
use Rattle.std.specs.Prelude.{ℕ, ◌+◌, List, [], length, Bool, true, false, Option, None}
use Rattle.ax_text.specs.Programs.{Program}
use Rattle.ax_execution.specs.Contexts.{Context, Waiting, owners}
use Rattle.ax_execution.specs.Counts.{counted}
use Rattle.ax_execution.specs.KeyControls.{KeyControl}
use Rattle.ax_execution.specs.Machine.{Happening, Admit, Close, Fire, Start, Serve, Deliver, Send}
use Rattle.ax_execution.specs.MachineControls.{MachineControl, outcome_on}

-- no owner, and nothing that waits
abbrev pub is_free_with : Option Context → List Waiting → Bool
is_free_with None [] = true
is_free_with o is = false

abbrev pub is_free_on : KeyControl → Bool
is_free_on c = is_free_with c.owner c.waiting

-- the references that owners gain by an event: one for a new owner, and what a callback asks
abbrev pub owed_more : Program → Happening → MachineControl → MachineControl → ℕ
owed_more p (Admit n k time values) before behind = counted (is_free_on (before.controls k)) 1
owed_more p (Close c) before behind = 0
owed_more p (Fire n k) before behind = 1
owed_more p (Start k) before behind = length (outcome_on p (Start k) before).asks + counted (outcome_on p (Start k) before).gone (owners (behind.controls k).owner)
owed_more p (Serve k slot) before behind = 0
owed_more p (Deliver k slot) before behind = length (outcome_on p (Deliver k slot) before).asks + counted (outcome_on p (Deliver k slot) before).gone (owners (behind.controls k).owner)
owed_more p Send before behind = 0

-- and that they lose: the one of a start, or of the answer that is handed over
abbrev pub owed_less : Happening → ℕ
owed_less (Admit n k time values) = 0
owed_less (Close c) = 0
owed_less (Fire n k) = 0
owed_less (Start k) = 1
owed_less (Serve k slot) = 0
owed_less (Deliver k slot) = 1
owed_less Send = 0
