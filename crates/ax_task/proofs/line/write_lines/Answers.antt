use Rattle.std.proofs.Common.{◌∙◌}
use Rattle.ax_task.proofs.Written.{at_err, lines_on, lines_on_some, lines_failed}
use Rattle.ax_task.proofs.line.write_lines.Goals as goal

pub returns-in_err-write_line-clause-part : goal.returns-in_err-write_line-clause-part
returns-in_err-write_line-clause-part g c =
    at_err c.from_residual.result (c.line.invariant.some (g.K.Sink.holds c.write_line.new.out)
    (lines_failed (g.K.Sink.holds c.line.out) (g.K.Sink.holds c.write_line.new.out) c.args.key.now c.args.lines.now c.line.line-index c.line-item.result c.as_slice.result.now c.line-test.true c.line-item.is c.as_slice.ensures c.in_err-write_line.ensures.part))

pub line-preserved : goal.line-preserved
line-preserved g c =
    let wrote = c.in_ok-write_line.ensures in
    record {
      rest = λ h a. c.line.invariant.rest h (lines_on (g.K.Sink.holds c.line.out) (g.K.Sink.holds c.write_line.new.out) c.args.key.now c.args.lines.now c.line.line-index c.line-item.result c.as_slice.result.now c.line-test.true c.line-item.is c.as_slice.ensures h wrote.lines a);
      some = λ h a. c.line.invariant.some h (lines_on_some (g.K.Sink.holds c.line.out) (g.K.Sink.holds c.write_line.new.out) c.args.key.now c.args.lines.now c.line.line-index c.line-item.result c.as_slice.result.now c.line-test.true c.line-item.is c.as_slice.ensures h wrote.lines a);
      counts = wrote.counts ∙ c.line.invariant.counts;
      base = wrote.base ∙ c.line.invariant.base;
    }
