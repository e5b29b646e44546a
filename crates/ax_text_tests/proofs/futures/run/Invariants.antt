use Rattle.std.proofs.Common.{◌≡◌}
use Rattle.ax_state.specs.KeyCells.{cell_kinds}
use Rattle.ax_lang.specs.Shown.{shown_kinds}
use Rattle.ax_future.specs.Machines.{IsSound}
use Rattle.ax_text_tests.proofs.futures.run.Given as goal

abbrev pub invariant-next : goal.invariant-next
invariant-next g l = record {
  sound : IsSound l.program l.machine;
  kinds : cell_kinds l.cells ≡ shown_kinds l.program;
}
