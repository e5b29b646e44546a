-- The bytes of a key as they are kept.
use Rattle.std.specs.Prelude.{ℕ, ◌≤◌, List, take}
use Rattle.ax_keys.specs.declared.key_bytes.Kept.{Kept}
use Rattle.ax_keys.specs.declared.key_bytes.Kept.TheVariants.{Short, Long}

abbrev pub kept_bytes : Kept → List ℕ
kept_bytes (Short bytes len) = take len bytes
kept_bytes (Long bytes) = bytes.items

-- as many as are counted are there
abbrev pub IsKept : Kept → Type 0
IsKept (Short bytes len) = len ≤ 16
IsKept (Long bytes) = Unit {0}
