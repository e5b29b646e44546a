use Rattle.std.proofs.Common.{◌≡◌}
use Rattle.ax_machine.specs.Sync.{all_fired}
use Rattle.ax_lang.specs.Shown.{shown_program, shown_kinds}
use Rattle.ax_plain.specs.Agenda.{firings_left}
use Rattle.ax_plain.specs.Plain.{shown_plain, ThreadFits}
use Rattle.ax_plain.proofs.FireLemmas.{Firing}
use Rattle.ax_plain.proofs.plain.PlainThread.fire_due.Given as goal

abbrev pub invariant-due : goal.invariant-due
invariant-due g l = record {
  firing : Firing (shown_program l.program) (all_fired (shown_program l.program) (shown_plain (shown_kinds l.program) l.fn.self)) (g.K.Sink.holds l.fn.out) (g.K.Sink.holds l.out) (shown_plain (shown_kinds l.program) l.self) l.agenda;
  fits : ThreadFits (shown_kinds l.program) l.self;
  mark : l.self.wm ≡ l.time;
  counts : g.K.Sink.counts l.out ≡ g.K.Sink.counts l.fn.out;
  base : g.K.Sink.base l.out ≡ g.K.Sink.base l.fn.out;
}

abbrev pub decreases-due : goal.decreases-due
decreases-due g l = firings_left l.agenda
