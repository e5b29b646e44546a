use Rattle.ax_context.proofs.NumberLemmas.{IsGap}
use Rattle.ax_context.proofs.contexts.Contexts.gap.Given as goal

abbrev pub invariant-loop-slot : goal.invariant-loop-slot
invariant-loop-slot g l = IsGap l.self l.number l.slot l.free
