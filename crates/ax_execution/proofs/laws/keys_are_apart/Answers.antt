use Rattle.ax_execution.proofs.Projected.{projected_from}
use Rattle.ax_execution.proofs.laws.keys_are_apart.Goals as goal

pub returns : goal.returns
returns c m p from k events fits = projected_from m p from fits k events
