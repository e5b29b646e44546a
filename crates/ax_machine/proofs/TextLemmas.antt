-- The text of lines, and then of further ones.
use Rattle.std.proofs.Common.{◌≡◌, List, [], ◌∷◌, ◌++◌, refl, sym, ap, ◌∙◌, append_assoc}
use Rattle.ax_machine.specs.OutLines.{OutLine, spelled, lines_text}

pub lines_text-append : (xs ys : List OutLine) → lines_text (xs ++ ys) ≡ lines_text xs ++ lines_text ys
lines_text-append [] ys = refl
lines_text-append (l ∷ xs) ys = ap (λ t. spelled l ++ t) (lines_text-append xs ys) ∙ sym (append_assoc (spelled l) (lines_text xs) (lines_text ys))
