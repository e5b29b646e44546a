use Rattle.std.proofs.Common.{ℕ, ◌<◌, ◌≤◌, ◌+◌}
use Rattle.ax_context.specs.Slots.{ahead, live_count, IsTaken}
use Rattle.ax_context.proofs.NumberLemmas.{past}
use Rattle.ax_context.proofs.contexts.Contexts.look_from.Given as goal

abbrev pub invariant-loop-next : goal.invariant-loop-next
invariant-loop-next g l = record {
  before : (k : ℕ) → k < l.steps → IsTaken l.self (ahead l.next k);
  few : l.steps + past l.self l.next l.steps ≤ live_count l.self;
}

abbrev pub decreases-loop-next : goal.decreases-loop-next
decreases-loop-next g l = past l.self l.next l.steps
