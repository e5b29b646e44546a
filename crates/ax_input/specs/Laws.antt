-- What was written is read back.
use Rattle.std.specs.Prelude.{◌≡◌, ℕ, ◌+◌, ◌-◌, ◌<◌, ℤ, List, ◌∷◌, ◌++◌, length, Bool, true, false, Some}
use Rattle.std.specs.List.{list_all, AllByRecursion}
use Rattle.ax_base.specs.Pieces.{Whole, pieces_of}
use Rattle.ax_base.specs.Words.{words_of}
use Rattle.ax_machine.specs.Events.{Event}
use Rattle.ax_machine.specs.Entries.{Entry, Watermark, Block, text_of, entry_text}
use Rattle.ax_machine.specs.Entries as entry
use Rattle.ax_input.specs.Events.{Good, event_of, event_line, is_event, fields_in, is_skipped}
use Rattle.ax_machine.specs.OutLines.{OutLine, Out, Mark, Value, Item, Entry as EntryLine, Timer, line_of, lines_text}
use Rattle.ax_machine.specs.Blocks.{framed}
use Rattle.ax_input.specs.OutLines.{out_line_of, is_line}

-- read with as many fields as it has values, an event is the event that was written; it is no comment
abbrev pub IsEventBack : Event → Type 0
IsEventBack e = is_event e ≡ true → (event_of (fields_in e) (event_line e) ≡ Good e) × (is_skipped (event_line e) ≡ false)

abbrev pub IsLineBack : OutLine → Type 0
IsLineBack l = is_line l ≡ true → out_line_of (words_of (line_of l)) ≡ Some l

-- where a spelling lies within the limit, the reader of lines gives it whole, whatever follows it
abbrev pub IsOneLine : List ℕ → List ℕ → ℕ → Type 0
IsOneLine line rest limit = length line < limit → pieces_of limit (line ++ 10 ∷ rest) ≡ Whole line ∷ pieces_of (limit - (length line + 1)) rest

-- the line of a value, of an item of a list, of an entry of a map, or of a timer
abbrev pub is_of_key : OutLine → Bool
is_of_key (Value key state n) = true
is_of_key (Item key state n) = true
is_of_key (EntryLine key state k n) = true
is_of_key (Timer key time) = true
is_of_key _ = false

-- a text is a block: a head, lines of keys, and an end with their number, each of which has a spelling
pub record IsBlock (text : List ℕ) : Type 0 where
  pub id : ℤ
  pub wm : ℤ
  pub lines : List OutLine
  pub of_keys : list_all is_of_key lines ≡ true
  pub spelled : list_all is_line (framed id wm lines) ≡ true
  pub whole : text ≡ lines_text (framed id wm lines)

-- an entry that lines spell: an emit of a key with 1 to 16 numbers, a watermark, or a block
abbrev pub IsPlain : Entry → Type 0
IsPlain (entry.Out key values) = is_line (Out key values) ≡ true
IsPlain (entry.Mark (Watermark time)) = is_line (Mark time) ≡ true
IsPlain (entry.Mark (Block text)) = IsBlock text

-- the bytes of an output of such entries determine the entries
abbrev pub IsDetermined : List Entry → List Entry → Type 0
IsDetermined es fs = AllByRecursion IsPlain es → AllByRecursion IsPlain fs → text_of es ≡ text_of fs → es ≡ fs
