-- What the lines before a line have said; the latest of them comes first.
use Rattle.std.specs.Prelude.{ℕ, ◌+◌, max, length, List, [], ◌∷◌, ◌++◌, map, Bool, true, false, Option, Some, None, if◌then◌else◌}
use Rattle.ax_syntax.specs.Words.{Word}
use Rattle.ax_syntax.specs.Shapes.{Shape, Input, State, OnRow, OnTimer}
use Rattle.ax_rules.specs.declared.blocks.Frame.{Frame}
use Rattle.ax_rules.specs.declared.blocks.Print.{Print}
use Rattle.ax_rules.specs.declared.tables.DeclaredState.{DeclaredState}
use Rattle.ax_rules.specs.declared.tables.Tables.{Tables}
use Rattle.ax_rules.specs.Parts.{set_of, also_of, is_statement, with_word}
use Rattle.ax_rules.specs.Frames.{print_of, frames_with, widest_with}

abbrev pub fields_with : Shape → Option ℕ → Option ℕ
fields_with (Input n) fields = Some n
fields_with _ fields = fields

-- how many values a row has, behind `input`
abbrev pub fields_of : List Shape → Option ℕ
fields_of [] = None
fields_of (s ∷ ls) = fields_with s (fields_of ls)

abbrev pub states_with : Shape → List DeclaredState → List DeclaredState
states_with (State name kind) states = states ++ record { name = name; kind = kind } ∷ []
states_with _ states = states

-- the declared states, in order
abbrev pub states_of : List Shape → List DeclaredState
states_of [] = []
states_of (s ∷ ls) = states_with s (states_of ls)

abbrev pub names_of : List DeclaredState → List Word
names_of states = map (λ d. d.name) states

abbrev pub row_with : Shape → Bool → Bool
row_with OnRow row = true
row_with _ row = row

-- whether there is an `on row`
abbrev pub has_row : List Shape → Bool
has_row [] = false
has_row (s ∷ ls) = row_with s (has_row ls)

abbrev pub timer_with : Shape → Bool → Bool
timer_with OnTimer timer = true
timer_with _ timer = timer

-- whether there is an `on timer`
abbrev pub has_timer : List Shape → Bool
has_timer [] = false
has_timer (s ∷ ls) = timer_with s (has_timer ls)

-- how many statements there are, in both handlers
abbrev pub statements_of : List Shape → ℕ
statements_of [] = 0
statements_of (s ∷ ls) = if is_statement s then statements_of ls + 1 else statements_of ls

abbrev pub locals_with : Shape → List Word → List Word
locals_with OnRow locals = []
locals_with OnTimer locals = []
locals_with s locals = with_word (also_of s) (with_word (set_of s) locals)

-- the local names of the last handler, in order of their first assignment
abbrev pub locals_of : List Shape → List Word
locals_of [] = []
locals_of (s ∷ ls) = locals_with s (locals_of ls)

-- what the last line touches
abbrev pub print_behind : Shape → List Shape → Print
print_behind s ls = print_of (locals_of (s ∷ ls)) (names_of (states_of ls)) s

-- the blocks that are open, the innermost first
abbrev pub frames_of : List Shape → List Frame
frames_of [] = []
frames_of (s ∷ ls) = frames_with s (print_behind s ls) (frames_of ls)

-- the greatest width of a handler that has ended
abbrev pub widest_of : List Shape → ℕ
widest_of [] = 0
widest_of (s ∷ ls) = widest_with s (frames_of ls) (widest_of ls)

-- the most local names that a handler has
abbrev pub most_of : List Shape → ℕ
most_of [] = 0
most_of (s ∷ ls) = max (most_of ls) (length (locals_of (s ∷ ls)))

-- all of this together
unfoldable pub tables_of : List Shape → Tables
tables_of ls = record { fields = fields_of ls; states = states_of ls; row = has_row ls; timer = has_timer ls; locals = locals_of ls; statements = statements_of ls; frames = frames_of ls; widest = widest_of ls; most = most_of ls }
