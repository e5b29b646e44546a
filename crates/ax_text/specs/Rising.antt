-- The entries of maps, by rising key.
use Rattle.std.specs.Prelude.{ℕ, ℤ, List}
use Rattle.std.specs.List.Sorted.{IsStrictlySortedBy}
use Rattle.std.specs.Map.{keys_of}
use Rattle.std.specs.Ordering.{int_cmp}
use Rattle.ax_text.specs.Cells.{Cells, entries_in}

-- the keys strictly rise
abbrev pub IsRising : List (ℤ × ℤ) → Type 0
IsRising entries = IsStrictlySortedBy int_cmp (keys_of entries)

-- so they do in each map of a key
abbrev pub MapsRise : Cells → Type 0
MapsRise cells = (s : ℕ) → IsRising (entries_in (cells s))
