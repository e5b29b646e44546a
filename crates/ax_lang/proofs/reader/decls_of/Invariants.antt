use Rattle.std.proofs.Common.{◌≡◌, map, take}
use Rattle.ax_state.specs.Decls.{shown_states}
use Rattle.ax_lang.specs.Programs.{state_in}
use Rattle.ax_lang.proofs.reader.decls_of.Given as goal

abbrev pub invariant-loop-state : goal.invariant-loop-state
invariant-loop-state l = shown_states l.decls ≡ map state_in (take l.state-index l.states)
