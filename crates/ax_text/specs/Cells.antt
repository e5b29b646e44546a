-- The states of a key, and what a request does to them.
use Rattle.std.specs.Prelude.{ℕ, ℤ, List, [], ◌∷◌, ◌++◌, map, Bool, true, false, Option, Some, None, is_some}
use Rattle.std.specs.Map.{lookup, remove_entry}
use Rattle.std.specs.BTreeMap.{is_at, insert_entry}
use Rattle.std.specs.Ordering.{int_cmp}
use Rattle.ax_base.specs.declared.lists.Pair.{Pair}
use Rattle.ax_text.specs.declared.vocabulary.Kind.{Kind}
use Rattle.ax_text.specs.declared.vocabulary.Kind.TheVariants as kind
use Rattle.ax_text.specs.declared.vocabulary.Request.{Request}
use Rattle.ax_text.specs.declared.vocabulary.Request.TheVariants as request
use Rattle.ax_text.specs.declared.vocabulary.Answer.{Answer}
use Rattle.ax_text.specs.declared.vocabulary.Answer.TheVariants as answer
use Rattle.ax_text.specs.Functions.{upd}

-- what one state holds
pub data Cell : Type 0 where
  Value : (number : Option ℤ) → Cell
  Items : (items : List ℤ) → Cell
  -- the entries of a map, by rising key
  Entries : (entries : List (ℤ × ℤ)) → Cell

-- what each state of a key holds, by the state's number
abbrev pub Cells : Type 0
Cells = ℕ → Cell

abbrev pub number_in : Cell → Option ℤ
number_in (Value number) = number
number_in _ = None

abbrev pub items_in : Cell → List ℤ
items_in (Items items) = items
items_in _ = []

abbrev pub entries_in : Cell → List (ℤ × ℤ)
entries_in (Entries entries) = entries
entries_in _ = []

-- a state that was never touched, or was cleared
abbrev pub empty_cell : Kind → Cell
empty_cell kind.Value = Value None
empty_cell kind.List = Items []
empty_cell kind.Map = Entries []

abbrev pub kind_of : Cell → Kind
kind_of (Value number) = kind.Value
kind_of (Items items) = kind.List
kind_of (Entries entries) = kind.Map

abbrev pub state_of : Request → ℕ
state_of (request.ValueGet state) = state
state_of (request.ValuePut state number) = state
state_of (request.ListGet state) = state
state_of (request.ListAdd state number) = state
state_of (request.ListPut state items) = state
state_of (request.MapGet state at) = state
state_of (request.MapPut state at number) = state
state_of (request.MapRemove state at) = state
state_of (request.MapHas state at) = state
state_of (request.MapEmpty state) = state
state_of (request.MapEntries state) = state
state_of (request.Clear state) = state

abbrev pub is_value : Kind → Bool
is_value kind.Value = true
is_value _ = false

abbrev pub is_list : Kind → Bool
is_list kind.List = true
is_list _ = false

abbrev pub is_map : Kind → Bool
is_map kind.Map = true
is_map _ = false

-- whether a state of this kind serves such a request
abbrev pub serves : Kind → Request → Bool
serves k (request.ValueGet state) = is_value k
serves k (request.ValuePut state number) = is_value k
serves k (request.ListGet state) = is_list k
serves k (request.ListAdd state number) = is_list k
serves k (request.ListPut state items) = is_list k
serves k (request.MapGet state at) = is_map k
serves k (request.MapPut state at number) = is_map k
serves k (request.MapRemove state at) = is_map k
serves k (request.MapHas state at) = is_map k
serves k (request.MapEmpty state) = is_map k
serves k (request.MapEntries state) = is_map k
serves k (request.Clear state) = true

abbrev pub found : Option ℤ → Answer
found None = answer.Missing
found (Some n) = answer.Found n

abbrev pub entry_at : ℤ → List (ℤ × ℤ) → Option ℤ
entry_at k entries = lookup (is_at (int_cmp k)) entries

abbrev pub pair_of : (ℤ × ℤ) → Pair
pair_of e = record { at = e.0; number = e.1 }

abbrev pub has_none : List (ℤ × ℤ) → Bool
has_none [] = true
has_none (e ∷ es) = false

-- what a request answers, where the state that it names holds this
abbrev pub answer_in : Request → Cell → Answer
answer_in (request.ValueGet state) cell = found (number_in cell)
answer_in (request.ListGet state) cell = answer.Items (items_in cell)
answer_in (request.MapGet state at) cell = found (entry_at at (entries_in cell))
answer_in (request.MapHas state at) cell = answer.Flag (is_some (entry_at at (entries_in cell)))
answer_in (request.MapEmpty state) cell = answer.Flag (has_none (entries_in cell))
answer_in (request.MapEntries state) cell = answer.Pairs (map pair_of (entries_in cell))
answer_in _ cell = answer.Done

abbrev pub answer_of : Request → Cells → Answer
answer_of r cells = answer_in r (cells (state_of r))

-- what the one state that it names holds behind a request
abbrev pub cell_after : Request → Cell → Cell
cell_after (request.ValuePut state number) cell = Value (Some number)
cell_after (request.ListAdd state number) cell = Items (items_in cell ++ number ∷ [])
cell_after (request.ListPut state items) cell = Items items
cell_after (request.MapPut state at number) cell = Entries (insert_entry int_cmp (entries_in cell) at number)
cell_after (request.MapRemove state at) cell = Entries (remove_entry (is_at (int_cmp at)) (entries_in cell))
cell_after (request.Clear state) cell = empty_cell (kind_of cell)
cell_after _ cell = cell

-- whether a request may change the state that it names
abbrev pub changes : Request → Bool
changes (request.ValuePut state number) = true
changes (request.ListAdd state number) = true
changes (request.ListPut state items) = true
changes (request.MapPut state at number) = true
changes (request.MapRemove state at) = true
changes (request.Clear state) = true
changes _ = false

-- the states behind a request; it touches the one state that it names
abbrev pub cells_after : Request → Cells → Cells
cells_after r cells = upd cells (state_of r) (cell_after r (cells (state_of r)))
