use Rattle.std.proofs.Common.{refl}
use Rattle.ax_execution.proofs.Projected.{first_fits}
use Rattle.ax_execution.proofs.laws.first_is_an_origin.Goals as goal

pub returns-clause-origin : goal.returns-clause-origin
returns-clause-origin c p = first_fits p

pub returns-clause-plain : goal.returns-clause-plain
returns-clause-plain c m p events = refl

pub returns-clause-key : goal.returns-clause-key
returns-clause-key c p k events = refl
