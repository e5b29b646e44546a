-- Requests that take the least free slots take none that is used.
use Rattle.std.proofs.Common.{ℕ, List, [], ◌∷◌, ◌++◌, ap, ◌∙◌}
use Rattle.ax_text.specs.Prints.{has}
use Rattle.ax_text.specs.Controls.{Ask' as Asked}
use Rattle.ax_text.specs.Underway.{TakesLeast}
use Rattle.ax_text.proofs.Steps.{mem_left, fresh_ok}
use Rattle.ax_execution.specs.Asks.{AreOutside}

smaller : (used : List ℕ) (s : ℕ) (ys : List Asked) → AreOutside (used ++ s ∷ []) ys → AreOutside used ys
smaller used s [] o = tt
smaller used s (y ∷ ys) o = (mem_left y.slot used (s ∷ []) o.0, smaller used s ys o.1)

pub takes_outside : (used : List ℕ) (xs : List Asked) → TakesLeast used xs → AreOutside used xs
unfolding TakesLeast
takes_outside used [] h = tt
takes_outside used (x ∷ xs) h = (ap (λ (s : ℕ). has s used) h.0 ∙ fresh_ok used, smaller used x.slot xs (takes_outside (used ++ x.slot ∷ []) xs h.1))
