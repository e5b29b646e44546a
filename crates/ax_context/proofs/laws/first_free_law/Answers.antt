use Rattle.ax_context.proofs.NumberLemmas.{first_is_one}
use Rattle.ax_context.proofs.laws.first_free_law.Goals as goal

pub returns : goal.returns
returns g c = first_is_one c.args.contexts.now
