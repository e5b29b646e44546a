-- What a run writes, entry by entry.
use Rattle.std.specs.Prelude.{ℕ, ℤ, List, [], ◌∷◌, ◌++◌, if◌then◌else◌}
use Rattle.std.specs.Str.{bytes_eq}
use Rattle.std.specs.Fmt.{signed_decimal}
use lib.Chars.{codes}

-- a key, as its bytes
abbrev pub Key : Type 0
Key = List ℕ

-- what stands between the lines of keys: a watermark's line, or a whole snapshot block
pub data Marker : Type 0 where
  Watermark : (time : ℤ) → Marker
  Block : (text : List ℕ) → Marker

pub data Entry : Type 0 where
  -- an output line of a key
  Out : (key : Key) → (values : List ℤ) → Entry
  Mark : (marker : Marker) → Entry

-- the lines of a key, in order
abbrev pub lines_of : Key → List Entry → List (List ℤ)
lines_of k [] = []
lines_of k (Out j line ∷ es) = if bytes_eq j k then line ∷ lines_of k es else lines_of k es
lines_of k (Mark m ∷ es) = lines_of k es

-- lines of one key
abbrev pub says : Key → List (List ℤ) → List Entry
says k [] = []
says k (line ∷ lines) = Out k line ∷ says k lines

-- numbers, each behind a space
abbrev pub numbers_text : List ℤ → List ℕ
numbers_text [] = []
numbers_text (n ∷ ns) = 32 ∷ (signed_decimal n ++ numbers_text ns)

abbrev pub marker_text : Marker → List ℕ
marker_text (Watermark time) = codes "w " ++ signed_decimal time ++ 10 ∷ []
marker_text (Block text) = text

-- the line of an entry, with its line feed
abbrev pub entry_text : Entry → List ℕ
entry_text (Out k line) = codes "o " ++ k ++ numbers_text line ++ 10 ∷ []
entry_text (Mark m) = marker_text m

abbrev pub text_of : List Entry → List ℕ
text_of [] = []
text_of (e ∷ es) = entry_text e ++ text_of es
