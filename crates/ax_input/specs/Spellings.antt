-- Which numbers words are.
use Rattle.std.specs.Prelude.{ℤ, List, [], ◌∷◌, Option, Some, None}
use Rattle.ax_base.specs.Numbers.{number_of}
use Rattle.ax_syntax.specs.Words.{Word}

abbrev pub onto_some : Option ℤ → Option (List ℤ) → Option (List ℤ)
onto_some (Some n) (Some ns) = Some (n ∷ ns)
onto_some _ _ = None

-- the numbers that all words are
abbrev pub numbers_of : List Word → Option (List ℤ)
numbers_of [] = Some []
numbers_of (w ∷ ws) = onto_some (number_of w) (numbers_of ws)

-- the number that the one word is
abbrev pub one_number : List Word → Option ℤ
one_number (w ∷ []) = number_of w
one_number _ = None

abbrev pub both : Option ℤ → Option ℤ → Option (ℤ × ℤ)
both (Some m) (Some n) = Some (m, n)
both _ _ = None

-- the numbers that the two words are
abbrev pub two_numbers : List Word → Option (ℤ × ℤ)
two_numbers [] = None
two_numbers (w ∷ ws) = both (number_of w) (one_number ws)
