use Rattle.std.proofs.Common.{◌≡◌, map, take}
use Rattle.ax_state.specs.Held.{shown_cell}
use Rattle.ax_state.proofs.cells.copy_states.Given as goal

abbrev pub invariant-loop-h : goal.invariant-loop-h
invariant-loop-h l = map shown_cell l.other.items ≡ map shown_cell (take l.h-index l.held)
