use Rattle.std.specs.List.Sorted.{IsStrictlySortedBy}
use Rattle.ax_keys.specs.Keys.{key_cmp}
use Rattle.ax_time.specs.Timers.{times_of}
use Rattle.ax_plain.specs.Agenda.{Lists}
use Rattle.ax_plain.proofs.AgendaLemmas.{yet}
use Rattle.ax_plain.proofs.agenda.Agenda.begin.Given as goal

abbrev pub invariant-loop-key : goal.invariant-loop-key
invariant-loop-key l = record {
  rising : IsStrictlySortedBy key_cmp l.key-iterator.rest.items;
  lists : Lists l.w (yet l.key-iterator.rest.items) (times_of l.timers) l.agenda;
}
