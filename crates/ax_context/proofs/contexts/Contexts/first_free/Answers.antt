use Rattle.std.proofs.Common.{arith}
use Rattle.ax_context.proofs.NumberLemmas.{first_here}
use Rattle.ax_context.proofs.contexts.Contexts.first_free.Goals as goal

pub returns-then-self-gt0-clause-number : goal.returns-then-self-gt0-clause-number
returns-then-self-gt0-clause-number g c =
    let sound = c.self.invariant in
    rw (← c.self.view_is) (first_here _ sound.numbered (sound.spared 0 (omega arith)))

pub returns-then-self-gt0-clause-spared : goal.returns-then-self-gt0-clause-spared
returns-then-self-gt0-clause-spared g c = rw (← c.self.view_is) c.self.invariant.spared
