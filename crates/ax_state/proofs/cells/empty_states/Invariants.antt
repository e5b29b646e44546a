use Rattle.std.proofs.Common.{◌≡◌, map, take}
use Rattle.ax_text.specs.Cells.{empty_cell}
use Rattle.ax_state.specs.Decls.{kinds}
use Rattle.ax_state.specs.Held.{shown_cell}
use Rattle.ax_state.proofs.cells.empty_states.Given as goal

abbrev pub invariant-loop-decl : goal.invariant-loop-decl
invariant-loop-decl l = map shown_cell l.held.items ≡ map empty_cell (kinds (take l.decl-index l.decls))
