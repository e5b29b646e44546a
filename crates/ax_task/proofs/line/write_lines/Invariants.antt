use Rattle.std.proofs.Common.{◌≡◌, ℕ, List, Option, drop}
use Rattle.std.specs.Io.KnownBytes.{Appends}
use Rattle.ax_base.specs.Outside.{AppendsSome}
use Rattle.ax_machine.specs.Entries.{says, text_of}
use Rattle.ax_task.proofs.line.write_lines.Given as goal

abbrev pub invariant-line : goal.invariant-line
invariant-line g l = record {
  rest : (h : Option (List ℕ)) → Appends (g.K.Sink.holds l.out) h (text_of (says l.key (drop l.line-index l.lines))) → Appends (g.K.Sink.holds l.fn.out) h (text_of (says l.key l.lines));
  some : (h : Option (List ℕ)) → AppendsSome (g.K.Sink.holds l.out) h (text_of (says l.key (drop l.line-index l.lines))) → AppendsSome (g.K.Sink.holds l.fn.out) h (text_of (says l.key l.lines));
  counts : g.K.Sink.counts l.out ≡ g.K.Sink.counts l.fn.out;
  base : g.K.Sink.base l.out ≡ g.K.Sink.base l.fn.out;
}
