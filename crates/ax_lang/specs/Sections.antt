-- Program sections, each written as one text, and what they say.
use Rattle.std.specs.Prelude.{ℕ, zero, suc, List, [], ◌∷◌, ◌++◌, length, Bool, true, false, ◌==◌, if◌then◌else◌}
use lib.Chars.{codes}
use Rattle.ax_base.specs.Words.{before_words}
use Rattle.ax_rules.specs.Examples.{lines_from}
use Rattle.ax_lang.specs.Programs.{Reading, Faulty, Accepted, program_of}

-- the lines of a text, where each ends with `;` and this stands before it
abbrev pub cut : List ℕ → List ℕ → List (List ℕ)
cut before [] = before_words before []
cut before (b ∷ bs) = if b == 59 then before ∷ cut [] bs else cut (before ++ b ∷ []) bs

-- what these lines say, numbered from 1 on, with a line of `%%` behind them or not
abbrev pub said_by_lines : List (List ℕ) → Bool → Reading
said_by_lines lines found = program_of (lines_from 1 lines) (record { line = suc (length lines); found = found })

-- what the lines of a text say, with a line of `%%` behind them
abbrev pub says : List ℕ → Reading
says text = said_by_lines (cut [] text) true

-- and where the input ends without it
abbrev pub says_alone : List ℕ → Reading
says_alone text = said_by_lines (cut [] text) false

-- the lines say a program
abbrev pub IsAccepted : Reading → Type 0
IsAccepted (Accepted p) = Unit {0}
IsAccepted (Faulty line kind) = ⊥
