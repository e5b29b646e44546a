-- The request that waits at the least slot.
use Rattle.std.specs.Prelude.{◌≡◌, ◌≤◌, ◌<◌, ◌⊎◌, ℕ, [], true, Option, Some, None}
use Rattle.std.specs.Borrow.{Bor}
use Rattle.ax_text.specs.declared.vocabulary.Request.{Request}
use Rattle.ax_text.specs.Prints.{has}
use Rattle.ax_text.specs.Controls.{Control, Done, slots, request_at}
use Rattle.ax_text.specs.Sound.{Split}

-- it waits at this slot, and none waits at a lower one
pub record IsLeast (c : Control) (slot : ℕ) (request : Request) : Type 0 where
  pub stands : request_at c slot ≡ Some request
  pub least : (s : ℕ) → has s (slots c) ≡ true → slot ≤ s

-- a slot with what is asked there
abbrev pub Waiting : Type 0
Waiting = ℕ × Bor Request

-- there is such a request, unless nothing waits
abbrev pub HasLeast : Control → Option Waiting → Type 0
HasLeast c None = slots c ≡ []
HasLeast c (Some r) = Split c → IsLeast c r.0 r.1.now

-- the one of two that waits at the lesser slot
abbrev pub IsLesser : Option Waiting → Option Waiting → Option Waiting → Type 0
IsLesser None b r = r ≡ b
IsLesser (Some a) None r = r ≡ Some a
IsLesser (Some a) (Some b) r = ((r ≡ Some a) × (a.0 ≤ b.0)) ⊎ ((r ≡ Some b) × (b.0 < a.0))

-- the same of a sound control, which is done where nothing waits
abbrev pub IsLeastWaiting : Control → Option Waiting → Type 0
IsLeastWaiting c None = c ≡ Done
IsLeastWaiting c (Some r) = IsLeast c r.0 r.1.now
