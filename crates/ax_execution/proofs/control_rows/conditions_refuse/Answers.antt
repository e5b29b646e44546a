use Rattle.std.proofs.Common.{◌≡◌, ℕ, ◌<◌, ◌≤◌, true, false, sym, arith}
use Rattle.ax_machine.specs.Firings.{most_firings}
use Rattle.ax_execution.proofs.control_rows.conditions_refuse.Goals as goal

true_false : true ≡ false → ⊥
true_false e = cc e

apart : (m n : ℕ) → m < n → m ≡ n → ⊥
apart m n a e = absurd (omega (arith, a, e))

not_below : (n : ℕ) → n < n → ⊥
not_below n h = absurd (omega (arith, h))

none : 1 ≤ 0 → ⊥
none h = absurd (omega (arith, h))

pub returns-clause-slots : goal.returns-clause-slots
returns-clause-slots c h = true_false h.0

pub returns-clause-used : goal.returns-clause-used
returns-clause-used c h = true_false h.0

pub returns-clause-first : goal.returns-clause-first
returns-clause-first c h = apart 1 2 (omega arith) (sym h.0)

pub returns-clause-last : goal.returns-clause-last
returns-clause-last c h = apart 2 3 (omega arith) h.1

pub returns-clause-mark : goal.returns-clause-mark
returns-clause-mark c h = not_below 2 h.0

pub returns-clause-other_mark : goal.returns-clause-other_mark
returns-clause-other_mark c h = apart 1 2 (omega arith) (sym h)

pub returns-clause-row : goal.returns-clause-row
returns-clause-row c h = h

pub returns-clause-future : goal.returns-clause-future
returns-clause-future c h = none h.begun

pub returns-clause-sent : goal.returns-clause-sent
unfolding most_firings
returns-clause-sent c h = none h.unsent

pub returns-clause-owner : goal.returns-clause-owner
returns-clause-owner c h = none h.begun

pub returns-clause-waits : goal.returns-clause-waits
returns-clause-waits c h = none h.0.begun
