use Rattle.ax_syntax.specs.Shapes.{shown_shape}
use Rattle.ax_rules.proofs.FaultLemmas.{told, taken}
use Rattle.ax_rules.proofs.tables.Tables.take_line.Goals as goal

pub returns-clause-fault : goal.returns-clause-fault
returns-clause-fault c = λ before h. told before (shown_shape c.args.shape.now) c.args.self.now c.step.new.self c.step.result h c.step.ensures

pub returns-clause-tables : goal.returns-clause-tables
returns-clause-tables c = λ before h is. taken before (shown_shape c.args.shape.now) c.args.self.now c.step.new.self c.step.result h c.step.ensures is
