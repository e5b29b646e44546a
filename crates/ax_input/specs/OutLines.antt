-- Which words are a line of an output or of a snapshot block.
use Rattle.std.specs.Prelude.{ℕ, ◌^◌, ℤ, pos, negsuc, List, [], ◌∷◌, length, Bool, Option, Some, None, if◌then◌else◌, ◌&&◌, nat_le, nat_lt}
use Rattle.std.specs.List.{list_all}
use lib.Chars.{codes}
use Rattle.ax_base.specs.Numbers.{is_number}
use Rattle.ax_keys.specs.Keys.{is_key}
use Rattle.ax_syntax.specs.Words.{Word, same_word, is_name}
use Rattle.ax_machine.specs.OutLines.{OutLine, Out, Mark, Head, Value, Item, Entry, Timer, End}
use Rattle.ax_input.specs.Spellings.{numbers_of, one_number, two_numbers}

-- from 1 to 16
abbrev pub is_few : ℕ → Bool
is_few n = nat_le 1 n && nat_le n 16

abbrev pub when : Bool → OutLine → Option OutLine
when b line = if b then Some line else None

-- KEY N1 .. Nn
abbrev pub out_by : Word → Option (List ℤ) → Option OutLine
out_by key None = None
out_by key (Some values) = when (is_key key) (Out key values)

abbrev pub out_of : List Word → Option OutLine
out_of [] = None
out_of (key ∷ values) = if is_few (length values) then out_by key (numbers_of values) else None

-- TIME
abbrev pub mark_by : Option ℤ → Option OutLine
mark_by None = None
mark_by (Some time) = Some (Mark time)

-- ID WM
abbrev pub head_by : Option (ℤ × ℤ) → Option OutLine
head_by None = None
head_by (Some ns) = Some (Head ns.0 ns.1)

abbrev pub is_place : Word → Word → Bool
is_place key state = is_key key && is_name state

-- KEY STATE N
abbrev pub value_by : Word → Word → Option ℤ → Option OutLine
value_by key state None = None
value_by key state (Some n) = when (is_place key state) (Value key state n)

abbrev pub value_of : List Word → Option OutLine
value_of (key ∷ state ∷ ws) = value_by key state (one_number ws)
value_of _ = None

abbrev pub item_by : Word → Word → Option ℤ → Option OutLine
item_by key state None = None
item_by key state (Some n) = when (is_place key state) (Item key state n)

abbrev pub item_of : List Word → Option OutLine
item_of (key ∷ state ∷ ws) = item_by key state (one_number ws)
item_of _ = None

-- KEY STATE K N
abbrev pub entry_by : Word → Word → Option (ℤ × ℤ) → Option OutLine
entry_by key state None = None
entry_by key state (Some ns) = when (is_place key state) (Entry key state ns.0 ns.1)

abbrev pub entry_of : List Word → Option OutLine
entry_of (key ∷ state ∷ ws) = entry_by key state (two_numbers ws)
entry_of _ = None

-- KEY TIME
abbrev pub timer_by : Word → Option ℤ → Option OutLine
timer_by key None = None
timer_by key (Some time) = when (is_key key) (Timer key time)

abbrev pub timer_of : List Word → Option OutLine
timer_of [] = None
timer_of (key ∷ ws) = timer_by key (one_number ws)

-- ID COUNT, a count being a number from 0 on
abbrev pub end_with : ℤ → ℤ → Option OutLine
end_with id (pos count) = Some (End id count)
end_with id (negsuc n) = None

abbrev pub end_by : Option (ℤ × ℤ) → Option OutLine
end_by None = None
end_by (Some ns) = end_with ns.0 ns.1

-- the line of a block behind its first word
abbrev pub snap_line_by : Word → List Word → Option OutLine
snap_line_by w ws =
    if same_word w (codes "s") then head_by (two_numbers ws) else
    if same_word w (codes "c") then value_of ws else
    if same_word w (codes "l") then item_of ws else
    if same_word w (codes "m") then entry_of ws else
    if same_word w (codes "t") then timer_of ws else
    if same_word w (codes "e") then end_by (two_numbers ws) else None

-- the line that words spell; words that have none of the shapes are no line
abbrev pub out_line_of : List Word → Option OutLine
out_line_of [] = None
out_line_of (w ∷ ws) =
    if same_word w (codes "o") then out_of ws else
    if same_word w (codes "w") then mark_by (one_number ws) else snap_line_by w ws

-- a line that has a spelling: keys are keys, states are names, numbers have 64 bits, and an emit has 1 to 16 of them
abbrev pub is_line : OutLine → Bool
is_line (Out key values) = is_key key && (is_few (length values) && list_all is_number values)
is_line (Mark time) = is_number time
is_line (Head id wm) = is_number id && is_number wm
is_line (Value key state n) = is_place key state && is_number n
is_line (Item key state n) = is_place key state && is_number n
is_line (Entry key state k n) = is_place key state && (is_number k && is_number n)
is_line (Timer key time) = is_key key && is_number time
is_line (End id count) = is_number id && nat_lt count (2 ^ 63)
