-- The lines of events.
use Rattle.std.specs.Prelude.{ℕ, ℤ, pos, List, [], ◌∷◌, ◌++◌, length, map, Bool, true, false, not, Option, Some, None, if◌then◌else◌, ◌==◌, ◌&&◌, nat_le, int_le}
use Rattle.std.specs.List.{list_all}
use Rattle.std.specs.Fmt.{signed_decimal}
use lib.Chars.{codes}
use Rattle.ax_base.specs.Numbers.{number_of, is_number}
use Rattle.ax_base.specs.Words.{words_of}
use Rattle.ax_keys.specs.Keys.{is_key}
use Rattle.ax_syntax.specs.Words.{Word, same_word}
use Rattle.ax_machine.specs.Events.{Event, Row, Mark, Barrier}
use Rattle.ax_machine.specs.OutLines.{spaced}
use Rattle.ax_input.specs.Spellings.{numbers_of}

-- blank, or the first word begins with `#`
abbrev pub is_blank_or_comment : List Word → Bool
is_blank_or_comment [] = true
is_blank_or_comment ([] ∷ ws) = false
is_blank_or_comment ((b ∷ bs) ∷ ws) = b == 35

abbrev pub is_skipped : List ℕ → Bool
is_skipped text = is_blank_or_comment (words_of text)

-- an event, or the first kind of fault of its line, tried in this order: 1 Word, 4 Count, 2 Key, 3 Number
pub data EventRead : Type 0 where
  Good : (event : Event) → EventRead
  Bad : (kind : ℕ) → EventRead

abbrev pub row_with : Word → Option ℤ → Option (List ℤ) → EventRead
row_with key (Some time) (Some values) = Good (Row key time values)
row_with key _ _ = Bad 3

-- KEY TIME V1 .. VN
abbrev pub row_by : ℕ → List Word → EventRead
row_by fields (key ∷ time ∷ values) =
    if not (length values == fields) then Bad 4 else
    if not (is_key key) then Bad 2 else row_with key (number_of time) (numbers_of values)
row_by fields _ = Bad 4

-- the one word of a list
abbrev pub only_word : List Word → Option Word
only_word (w ∷ []) = Some w
only_word _ = None

abbrev pub mark_with : Option ℤ → EventRead
mark_with None = Bad 3
mark_with (Some time) = Good (Mark time)

-- TIME
abbrev pub mark_by : Option Word → EventRead
mark_by None = Bad 4
mark_by (Some time) = mark_with (number_of time)

-- the ID of a barrier: 1 or more
abbrev pub is_id : ℤ → Bool
is_id id = int_le (pos 1) id

abbrev pub barrier_with : Option ℤ → EventRead
barrier_with None = Bad 3
barrier_with (Some id) = if is_id id then Good (Barrier id) else Bad 3

-- ID
abbrev pub barrier_by : Option Word → EventRead
barrier_by None = Bad 4
barrier_by (Some id) = barrier_with (number_of id)

abbrev pub event_by : ℕ → List Word → EventRead
event_by fields [] = Bad 1
event_by fields (w ∷ ws) =
    if same_word w (codes "r") then row_by fields ws else
    if same_word w (codes "w") then mark_by (only_word ws) else
    if same_word w (codes "b") then barrier_by (only_word ws) else Bad 1

-- what a line says, where a row has so many values
unfoldable pub event_of : ℕ → List ℕ → EventRead
event_of fields text = event_by fields (words_of text)

-- the words of an event
abbrev pub event_words : Event → List Word
event_words (Row key time values) = codes "r" ∷ key ∷ signed_decimal time ∷ map signed_decimal values
event_words (Mark time) = codes "w" ∷ signed_decimal time ∷ []
event_words (Barrier id) = codes "b" ∷ signed_decimal id ∷ []

-- the spelling of an event, without and with its line feed
abbrev pub event_line : Event → List ℕ
event_line e = spaced (event_words e)

abbrev pub event_text : Event → List ℕ
event_text e = event_line e ++ 10 ∷ []

-- an event that a line can spell: numbers have 64 bits, a row has a key and at most 16 values, and a barrier's ID is 1 or more
abbrev pub is_event : Event → Bool
is_event (Row key time values) = (is_key key && is_number time) && (nat_le (length values) 16 && list_all is_number values)
is_event (Mark time) = is_number time
is_event (Barrier id) = is_number id && is_id id

-- how many values a row has; any other event has none
abbrev pub fields_in : Event → ℕ
fields_in (Row key time values) = length values
fields_in (Mark time) = 0
fields_in (Barrier id) = 0
