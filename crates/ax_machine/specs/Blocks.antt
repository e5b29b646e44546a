-- Snapshot blocks: what each key has, by key group and then key.
use Rattle.std.specs.Prelude.{ℕ, ◌+◌, ℤ, List, [], ◌∷◌, ◌++◌, length, if◌then◌else◌, Option, Some, None}
use Rattle.std.specs.Str.{bytes_eq}
use Rattle.std.specs.Ordering.{nat_cmp, ordering_then}
use Rattle.std.specs.declared.cmp.Ordering.{Ordering}
use Rattle.std.specs.BTreeMap.{insert_entry}
use Rattle.ax_keys.specs.Keys.{key_cmp}
use Rattle.ax_keys.specs.Groups.{group}
use Rattle.ax_text.specs.Cells.{Cell, Value as ValueCell, Items as ItemsCell, Entries as EntriesCell, Cells}
use Rattle.ax_text.specs.KeyStates.{KeyState}
use Rattle.ax_text.specs.Programs.{State}
use Rattle.ax_machine.specs.Entries.{Key}
use Rattle.ax_machine.specs.OutLines.{OutLine, Head, Value, Item, Entry as EntryLine, Timer, End, lines_text}

-- a key with what it has
pub record Part : Type 0 where
  pub key : Key
  pub state : KeyState

-- the order of a block, where there are m key groups: by group, and then by the key's bytes
abbrev pub block_cmp : ℕ → Key → Key → Ordering
block_cmp m a b = ordering_then (nat_cmp (group a m) (group b m)) (key_cmp a b)

-- each part put at its place in that order
abbrev pub placed_from : ℕ → List (Key × Part) → List Part → List (Key × Part)
placed_from m es [] = es
placed_from m es (p ∷ ps) = placed_from m (insert_entry (block_cmp m) es p.key p) ps

abbrev pub placed : ℕ → List Part → List (Key × Part)
placed m parts = placed_from m [] parts

-- the line of a value; an empty state has none
abbrev pub value_lines : Key → List ℕ → Option ℤ → List OutLine
value_lines k name None = []
value_lines k name (Some n) = Value k name n ∷ []

-- the lines of a list's items, in order
abbrev pub item_lines : Key → List ℕ → List ℤ → List OutLine
item_lines k name [] = []
item_lines k name (n ∷ ns) = Item k name n ∷ item_lines k name ns

-- the lines of a map's entries, by rising key
abbrev pub entry_lines : Key → List ℕ → List (ℤ × ℤ) → List OutLine
entry_lines k name [] = []
entry_lines k name (e ∷ es) = EntryLine k name e.0 e.1 ∷ entry_lines k name es

abbrev pub cell_lines : Key → List ℕ → Cell → List OutLine
cell_lines k name (ValueCell number) = value_lines k name number
cell_lines k name (ItemsCell items) = item_lines k name items
cell_lines k name (EntriesCell entries) = entry_lines k name entries

-- the lines of a key's states, in order of their declaration, where the first of these has the number i
abbrev pub state_lines : Key → ℕ → List State → Cells → List OutLine
state_lines k i [] cells = []
state_lines k i (s ∷ ss) cells = cell_lines k s.name (cells i) ++ state_lines k (i + 1) ss cells

-- the lines of its timers
abbrev pub timer_lines : Key → List ℤ → List OutLine
timer_lines k [] = []
timer_lines k (t ∷ ts) = Timer k t ∷ timer_lines k ts

abbrev pub part_lines : List State → Part → List OutLine
part_lines states p = state_lines p.key 0 states p.state.cells ++ timer_lines p.key p.state.times

abbrev pub inner_lines : List State → List (Key × Part) → List OutLine
inner_lines states [] = []
inner_lines states (e ∷ es) = part_lines states e.1 ++ inner_lines states es

-- the lines of a key among parts: those of the last part of that key
abbrev pub lines_from : List State → Key → List OutLine → List Part → List OutLine
lines_from states k found [] = found
lines_from states k found (p ∷ ps) = lines_from states k (if bytes_eq p.key k then part_lines states p else found) ps

abbrev pub lines_among : List State → Key → List Part → List OutLine
lines_among states k parts = lines_from states k [] parts

-- a head, the lines between, and an end with their number
abbrev pub framed : ℤ → ℤ → List OutLine → List OutLine
framed id wm lines = Head id wm ∷ (lines ++ End id (length lines) ∷ [])

-- the lines of the block of a barrier, where there are m key groups: its ID, the greatest watermark so far, and what each key has
abbrev pub block_lines : ℕ → List State → ℤ → ℤ → List Part → List OutLine
block_lines m states id wm parts = framed id wm (inner_lines states (placed m parts))

abbrev pub block_text : ℕ → List State → ℤ → ℤ → List Part → List ℕ
block_text m states id wm parts = lines_text (block_lines m states id wm parts)
