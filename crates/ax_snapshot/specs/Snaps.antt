-- What the code holds of a key, as the definitions take it.
use Rattle.std.specs.Prelude.{ℕ, List, [], ◌∷◌}
use Rattle.ax_base.specs.declared.lists.Pair.{Pair}
use Rattle.ax_state.specs.KeyCells.{shown_cells}
use Rattle.ax_machine.specs.Entries.{Key}
use Rattle.ax_machine.specs.OutLines.{OutLine, Entry}
use Rattle.ax_machine.specs.Blocks.{Part}
use Rattle.ax_snapshot.specs.declared.snapshot.KeySnap.{KeySnap}

-- a key with what it has
abbrev pub shown_part : KeySnap → Part
shown_part s = record { key = s.key; state = record { cells = shown_cells s.cells; times = s.timers } }

-- the lines of entries that were read, in order
abbrev pub pair_lines : Key → List ℕ → List Pair → List OutLine
pair_lines k name [] = []
pair_lines k name (p ∷ ps) = Entry k name p.at p.number ∷ pair_lines k name ps
