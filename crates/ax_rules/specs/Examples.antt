-- Sections of a few lines, and the frames of two arms.
use Rattle.std.specs.Prelude.{ℕ, suc, List, [], ◌∷◌, ◌++◌, length, Bool, true}
use lib.Chars.{codes}
use Rattle.ax_base.specs.declared.lines.Line.{Line}
use Rattle.ax_rules.specs.declared.blocks.Part.TheVariants as part
use Rattle.ax_rules.specs.declared.blocks.Frame.{Frame}
use Rattle.ax_rules.specs.Frames.{no_print, opened}
use Rattle.ax_rules.specs.Sections.{Reading, Whole, reading_of}

-- lines of these texts, numbered from n on
abbrev pub lines_from : ℕ → List (List ℕ) → List Line
lines_from n [] = []
lines_from n (text ∷ texts) = record { number = n; text = text } ∷ lines_from (suc n) texts

-- a section of these lines, with a line of `%%` behind them or not
abbrev pub section : List (List ℕ) → Bool → Reading
section texts found = reading_of (lines_from 1 texts) (record { line = suc (length texts); found = found })

-- five lines: rows of one value, a state of each kind, and the head of what is done at a row
abbrev pub head : List (List ℕ)
head = codes "input 1" ∷ codes "state c value" ∷ codes "state l list" ∷ codes "state m map" ∷ codes "on row" ∷ []

-- these lines at a row, from line 6 on
abbrev pub at_row : List (List ℕ) → Reading
at_row texts = section (head ++ texts ++ codes "end" ∷ []) true

-- this line at a timer
abbrev pub at_timer : List ℕ → Reading
at_timer text = section (head ++ codes "end" ∷ codes "on timer" ∷ text ∷ codes "end" ∷ []) true

-- no line has a fault, and nothing is due at the end
abbrev pub HasNoFault : Reading → Type 0
HasNoFault (Whole tables) = Unit {0}
HasNoFault _ = ⊥

-- the second arm of a `both` in a handler, and how wide its arms are
abbrev pub two_arms : ℕ → ℕ → List Frame
two_arms first width = record { part = part.Two; arm = no_print; first = first; width = width } ∷ opened part.Body 0 ∷ []
