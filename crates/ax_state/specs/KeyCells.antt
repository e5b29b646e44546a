-- The states of one key as a list, one cell for each declared state.
use Rattle.std.specs.Prelude.{◌≡◌, List, map, None}
use Rattle.ax_text.specs.declared.vocabulary.Kind.{Kind}
use Rattle.ax_text.specs.Functions.{at}
use Rattle.ax_text.specs.Cells.{Cell, Value, Cells, kind_of, empty_cell}

-- what each state holds, by its number; past the declared states there is nothing
abbrev pub shown_cells : List Cell → Cells
shown_cells cells = at cells (Value None)

-- the kinds of the states, in order
abbrev pub cell_kinds : List Cell → List Kind
cell_kinds cells = map kind_of cells

-- as it was before it was first touched
abbrev pub IsEmptyCell : Cell → Type 0
IsEmptyCell cell = cell ≡ empty_cell (kind_of cell)
