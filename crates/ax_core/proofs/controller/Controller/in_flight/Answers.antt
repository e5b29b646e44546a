use Rattle.std.proofs.Common.{◌∙◌}
use Rattle.ax_core.proofs.controller.Controller.in_flight.Goals as goal

pub returns : goal.returns
returns c = record { value = λ m stands. c.len.ensures.value ∙ stands.stands.flight }
