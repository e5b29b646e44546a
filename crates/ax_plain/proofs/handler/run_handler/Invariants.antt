use Rattle.std.proofs.Common.{◌≡◌}
use Rattle.ax_state.specs.KeyCells.{shown_cells, cell_kinds}
use Rattle.ax_lang.specs.Shown as lang
use Rattle.ax_future.specs.Machines.{IsSound, said_by}
use Rattle.ax_future.specs.Talks.{known_in}
use Rattle.ax_plain.specs.Handler.{run_from, comes_to, LeavesOthers}
use Rattle.ax_plain.proofs.RunLemmas.{GoneOn}
use Rattle.ax_plain.proofs.handler.run_handler.Given as goal

abbrev pub invariant-turns : goal.invariant-turns
invariant-turns g l = record {
  gone : GoneOn l.key (run_from l.program l.fn.handler l.facts (shown_cells l.fn.cells)) (g.K.Sink.holds l.fn.out) (g.K.Sink.holds l.out) l.fn.timers l.timers (said_by l.room.machine).outs (said_by l.room.machine).timer_ops (comes_to (known_in l.known) l.program l.room.machine (shown_cells l.cells));
  sound : IsSound l.program l.room.machine;
  kinds : cell_kinds l.cells ≡ lang.shown_kinds l.program;
  others : LeavesOthers l.key l.fn.timers l.timers;
  counts : g.K.Sink.counts l.out ≡ g.K.Sink.counts l.fn.out;
  base : g.K.Sink.base l.out ≡ g.K.Sink.base l.fn.out;
}

abbrev pub decreases-turns : goal.decreases-turns
decreases-turns g l = (comes_to (known_in l.known) l.program l.room.machine (shown_cells l.cells)).served
