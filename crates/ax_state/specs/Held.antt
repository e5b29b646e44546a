-- What the code holds of a state.
use Rattle.ax_text.specs.Cells.{Cell, Value, Items, Entries}
use Rattle.ax_state.specs.declared.cells.Held.{Held}
use Rattle.ax_state.specs.declared.cells.Held.TheVariants as held

abbrev pub shown_cell : Held → Cell
shown_cell (held.Value number) = Value number
shown_cell (held.Items items) = Items items
shown_cell (held.Entries entries) = Entries entries.entries
