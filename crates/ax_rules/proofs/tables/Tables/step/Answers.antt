use Rattle.std.proofs.Common.{sym}
use Rattle.ax_syntax.specs.Shapes.{shown_shape}
use Rattle.ax_rules.proofs.FaultLemmas.{room, not_wide}
use Rattle.ax_rules.proofs.tables.Tables.step.Goals as goal

pub take-requires : goal.take-requires
take-requires c = not_wide c.in_ok-print.print (shown_shape c.args.shape.now) c.args.self.now.frames (sym c.in_default-block_fault.ensures)

pub take_statement-self-requires : goal.take_statement-self-requires
take_statement-self-requires c = room c.args.self.now (shown_shape c.args.shape.now) c.in_default.ensures.1

pub widest-self-requires : goal.widest-self-requires
widest-self-requires c = not_wide c.in_ok-print.print (shown_shape c.args.shape.now) c.args.self.now.frames (sym c.in_default-block_fault.ensures)
