use Rattle.std.proofs.Common.{rules, map, string_bytes, sym, ap, ◌∙◌}
use Rattle.ax_words.specs.Options.{options_of, texts}
use Rattle.ax_cli.specs.Program.{listed, asked_by}
use Rattle.ax_cli.proofs.Alone.{leaves_alone, moved}
use Rattle.ax_cli.proofs.program.run_program.Goals as goal

pub returns : goal.returns
returns g c = (
  c.in-Err.status,
  search rules,
  c.in-Err.ensures.none,
  leaves_alone (asked_by (listed (λ v. map string_bytes v.items) c.args.args)) (g.S.Source.left c.args.input.now) (g.K.Sink.holds c.args.out.now) (record { reads = g.S.Source.faults c.args.input.now; writes = g.K.Sink.counts c.args.out.now })
      (record { old = g.E.Sink.holds c.args.err.now; new = g.E.Sink.holds c.write_fault_line.new.err }) (g.E.Sink.counts c.args.err.now) (g.E.Sink.counts c.write_fault_line.new.err)
      c.in-Err.status c.in-Err.ensures.usage c.in-Err.ensures.refused c.write_fault_line.ensures,
)

pub returns-in-Ok : goal.returns-in-Ok
returns-in-Ok g c = (
  c.run_alone.result,
  search rules,
  c.in-Ok.ensures.list c.run_alone.result,
  moved (c.in-Ok.ensures.asked ∙ ap (λ ws. options_of (texts ws)) (sym c.deref.ensures.value)) (record {
    usage = c.run_alone.ensures.usage;
    refused = c.run_alone.ensures.refused;
    untouched = c.run_alone.ensures.untouched;
    told = c.run_alone.ensures.told;
    stopped = c.run_alone.ensures.stopped;
    counts = c.run_alone.ensures.counts;
    complete = c.run_alone.ensures.complete;
    no_program = c.run_alone.ensures.no_program;
    line = c.run_alone.ensures.line;
  }),
)
