-- The program section: the lines up to `%%`, without blank lines and comments.
use Rattle.std.specs.Prelude.{◌≡◌, ℕ, ◌+◌, List, [], ◌∷◌, length, Bool, true, false, if◌then◌else◌, nat_lt}
use lib.Chars.{codes}
use Rattle.ax_base.specs.Words.{words_of}
use Rattle.ax_base.specs.Pieces.{Piece, Whole, TooLong, TooMuch}
use Rattle.ax_base.specs.declared.lines.Line.{Line}
use Rattle.ax_syntax.specs.Words.{Word, same_word}
use Rattle.ax_input.specs.Events.{is_skipped}

abbrev pub is_only_percents : List Word → Bool
is_only_percents (w ∷ []) = same_word w (codes "%%")
is_only_percents _ = false

-- the line that ends the section
abbrev pub is_section_end : List ℕ → Bool
is_section_end text = is_only_percents (words_of text)

-- the most bytes that kept lines have together
abbrev pub most_kept : ℕ
most_kept = 1048576

-- the section's kept lines, the line of its end, and what follows; or the line and kind of a fault
pub data Section : Type 0 where
  Faulty : (line kind : ℕ) → Section
  Gathered : (lines : List Line) → (end : ℕ) → (found : Bool) → (rest : List Piece) → Section

abbrev pub with_line : ℕ → List ℕ → Section → Section
with_line n text (Faulty line kind) = Faulty line kind
with_line n text (Gathered lines end found rest) = Gathered (record { number = n; text = text } ∷ lines) end found rest

-- the section of these pieces, where n is the number of the next line, and so many bytes were kept before it
abbrev pub section_of : ℕ → ℕ → List Piece → Section
section_of n kept [] = Gathered [] n false []
section_of n kept (TooLong ∷ ps) = Faulty n 11
section_of n kept (TooMuch ∷ ps) = Faulty n 12
section_of n kept (Whole text ∷ ps) =
    if is_section_end text then Gathered [] n true ps else
    if is_skipped text then section_of (n + 1) kept ps else
    if nat_lt most_kept (kept + length text) then Faulty n 8 else with_line n text (section_of (n + 1) (kept + length text) ps)

-- the lines ended before the section did
abbrev pub IsUnfinished : Section → Type 0
IsUnfinished (Faulty line kind) = ⊥
IsUnfinished (Gathered lines end found rest) = found ≡ false
