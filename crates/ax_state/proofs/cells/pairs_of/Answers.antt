use Rattle.ax_state.proofs.RisingLemmas.{pairs_rise}
use Rattle.ax_state.proofs.cells.pairs_of.Goals as goal

pub returns-clause-rising : goal.returns-clause-rising
returns-clause-rising c = pairs_rise c.loop-at.pairs c.loop-at.at-iterator c.args.entries.now.entries c.loop-at.invariant c.in-None.ensures.steps.0 c.iter-at-items.ensures.ordered
