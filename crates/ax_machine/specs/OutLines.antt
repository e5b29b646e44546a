-- The lines of an output and of a snapshot block, and how they are spelled.
use Rattle.std.specs.Prelude.{ℕ, ℤ, List, [], ◌∷◌, ◌++◌, map}
use Rattle.std.specs.Fmt.{signed_decimal, decimal}
use lib.Chars.{codes}
use Rattle.ax_machine.specs.Entries.{Key}

pub data OutLine : Type 0 where
  -- what a handler emits
  Out : (key : Key) → (values : List ℤ) → OutLine
  -- a watermark
  Mark : (time : ℤ) → OutLine
  -- the head of a snapshot block
  Head : (id wm : ℤ) → OutLine
  -- a value, one item of a list, and one entry of a map
  Value : (key : Key) → (state : List ℕ) → (number : ℤ) → OutLine
  Item : (key : Key) → (state : List ℕ) → (number : ℤ) → OutLine
  Entry : (key : Key) → (state : List ℕ) → (at number : ℤ) → OutLine
  Timer : (key : Key) → (time : ℤ) → OutLine
  -- the end of the block
  End : (id : ℤ) → (count : ℕ) → OutLine

-- words, each behind a space
abbrev pub behind_spaces : List (List ℕ) → List ℕ
behind_spaces [] = []
behind_spaces (w ∷ ws) = 32 ∷ (w ++ behind_spaces ws)

-- words with one space between them
abbrev pub spaced : List (List ℕ) → List ℕ
spaced [] = []
spaced (w ∷ ws) = w ++ behind_spaces ws

-- the words of a line
abbrev pub line_words : OutLine → List (List ℕ)
line_words (Out key values) = codes "o" ∷ key ∷ map signed_decimal values
line_words (Mark time) = codes "w" ∷ signed_decimal time ∷ []
line_words (Head id wm) = codes "s" ∷ signed_decimal id ∷ signed_decimal wm ∷ []
line_words (Value key state n) = codes "c" ∷ key ∷ state ∷ signed_decimal n ∷ []
line_words (Item key state n) = codes "l" ∷ key ∷ state ∷ signed_decimal n ∷ []
line_words (Entry key state k n) = codes "m" ∷ key ∷ state ∷ signed_decimal k ∷ signed_decimal n ∷ []
line_words (Timer key time) = codes "t" ∷ key ∷ signed_decimal time ∷ []
line_words (End id count) = codes "e" ∷ signed_decimal id ∷ decimal count ∷ []

-- the one spelling, without and with its line feed
abbrev pub line_of : OutLine → List ℕ
line_of l = spaced (line_words l)

abbrev pub spelled : OutLine → List ℕ
spelled l = line_of l ++ 10 ∷ []

-- the text of lines
abbrev pub lines_text : List OutLine → List ℕ
lines_text [] = []
lines_text (l ∷ ls) = spelled l ++ lines_text ls
