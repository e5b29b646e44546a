-- What holds of the contexts at every moment. No public clause cites `IsSound`.
use Rattle.std.specs.Prelude.{ℕ, ◌^◌, ◌<◌, ◌≤◌}
use Rattle.ax_context.specs.Slots.{Slots, ahead, live_count, IsTaken, AreCounted, NumbersDiffer}

-- the slots have this capacity, and so many numbers from the next one on are known to be free
pub record IsSound {T : Type 0} (s : Slots T) (capacity spare : ℕ) : Type 0 where
  pub fits : s.limit < 2 ^ 32
  pub numbered : s.next < 2 ^ 64
  pub room : s.limit ≤ capacity
  pub few : live_count s ≤ s.limit
  pub counted : AreCounted s
  pub differ : NumbersDiffer s
  pub spared : (k : ℕ) → k < spare → IsTaken s (ahead s.next k) → ⊥
