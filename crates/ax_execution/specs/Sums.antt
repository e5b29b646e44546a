-- Sums over keys.
use Rattle.std.specs.Prelude.{ℕ, ◌+◌, List, [], ◌∷◌}
use Rattle.ax_machine.specs.Entries.{Key}

abbrev pub total : List Key → (Key → ℕ) → ℕ
total [] n = 0
total (k ∷ ks) n = n k + total ks n
