-- The faults of a line, against the lines before it.
use Rattle.std.specs.Prelude.{ℕ, ◌+◌, ◌-◌, List, [], ◌∷◌, length, Bool, true, false, not, Option, Some, None, if◌then◌else◌, ◌&&◌, ◌||◌, is_some, nat_le, nat_lt, nat_eq}
use Rattle.std.specs.List.{list_any}
use lib.Chars.{codes}
use Rattle.ax_syntax.specs.declared.shape.KindWord.{KindWord}
use Rattle.ax_syntax.specs.declared.shape.KindWord.TheVariants as word
use Rattle.ax_syntax.specs.Words.{Word, same_word, is_name, is_value_word, field_number}
use Rattle.ax_syntax.specs.Shapes.{Shape, Input, State, OnRow, OnTimer, End, Get, GetAt, Has, Empty, Put, Add, Remove, Clear, Else, Each, EachPair, With, parts_of}
use Rattle.ax_rules.specs.declared.kinds.FaultKind.{FaultKind}
use Rattle.ax_rules.specs.declared.kinds.FaultKind.TheVariants as fault
use Rattle.ax_rules.specs.declared.blocks.Frame.{Frame}
use Rattle.ax_rules.specs.declared.blocks.Print.{Print}
use Rattle.ax_rules.specs.declared.tables.DeclaredState.{DeclaredState}
use Rattle.ax_rules.specs.declared.tables.Tables.{Tables}
use Rattle.ax_rules.specs.Parts.{mem, set_of, also_of, reads_of, more_of, use_of, is_loud, is_statement, opens, some_is}
use Rattle.ax_rules.specs.Frames.{print_of, is_yes, is_one, is_arm, top_is, has_conflict, top_is_wide}
use Rattle.ax_rules.specs.Lines.{names_of, locals_with, tables_of}

abbrev pub is_state : Tables → Word → Bool
is_state t w = mem w (names_of t.states)

abbrev pub is_local : Tables → Word → Bool
is_local t w = mem w t.locals

abbrev pub is_inside : Tables → Bool
is_inside t = nat_lt 0 (length t.frames)

-- Word: where a line of this shape may stand
unfoldable pub may_stand : Tables → Shape → Bool
may_stand t (Input n) = not (is_inside t)
may_stand t (State name kind) = (not (is_inside t) && is_some t.fields) && not t.row
may_stand t OnRow = not (is_inside t) && is_some t.fields
may_stand t OnTimer = not (is_inside t) && t.row
may_stand t Else = top_is is_yes t.frames
may_stand t With = top_is is_one t.frames
may_stand t End = is_inside t && not (top_is is_one t.frames)
may_stand t _ = is_inside t

-- TooMany: a 65th state, a 10,001st statement, a 257th local name, an expression over 256 words

abbrev pub one_if : Bool → ℕ
one_if true = 1
one_if false = 0

-- a name that no earlier line of the handler assigned
abbrev pub is_new : Tables → Word → Bool
is_new t w = not (is_local t w || is_state t w)

-- how many new local names it has
abbrev pub count_new : Tables → Shape → ℕ
count_new t (EachPair key number state) = one_if (is_new t key) + one_if (is_new t number && not (same_word key number))
count_new t s = one_if (some_is (is_new t) (set_of s))

abbrev pub is_long : List Word → Bool
is_long part = nat_lt 256 (length part)

abbrev pub has_long : List Word → Bool
has_long ws = list_any is_long (parts_of ws)

abbrev pub is_last_state : Tables → Shape → Bool
is_last_state t (State name kind) = nat_le 64 (length t.states)
is_last_state t s = false

unfoldable pub is_too_many : Tables → Shape → Bool
is_too_many t s = (is_statement s && nat_le 10000 t.statements) || (is_last_state t s || (nat_lt 256 (length t.locals + count_new t s) || (has_long (reads_of s) || has_long (more_of s))))

-- TooDeep: a block is the 33rd inside the handler, or a parenthesis the 33rd

abbrev pub goes_deep : ℕ → List Word → Bool
goes_deep opened [] = false
goes_deep opened (w ∷ ws) =
    if same_word w (codes "(") then (nat_le 32 opened || goes_deep (opened + 1) ws) else
    if same_word w (codes ")") then goes_deep (opened - 1) ws else goes_deep opened ws

unfoldable pub is_too_deep : Tables → Shape → Bool
is_too_deep t s = (opens s && nat_lt 32 (length t.frames)) || (goes_deep 0 (reads_of s) || goes_deep 0 (more_of s))

-- Twice: a second of what stands once, and two names of an `each` that are equal
unfoldable pub is_twice : Tables → Shape → Bool
is_twice t (Input n) = is_some t.fields
is_twice t (State name kind) = is_state t name
is_twice t OnRow = t.row
is_twice t OnTimer = t.timer
is_twice t (EachPair key number state) = same_word key number
is_twice t _ = false

-- UnknownName: a name that no line before has said, or a value that a row doesn't have

abbrev pub is_up_to : Option ℕ → Option ℕ → Bool
is_up_to (Some number) (Some fields) = nat_le number fields
is_up_to _ _ = false

abbrev pub is_unknown_name : Tables → Word → Bool
is_unknown_name t w = is_name w && not (is_state t w || is_local t w)

-- `on timer` has no values
abbrev pub is_unknown_value : Tables → Word → Bool
is_unknown_value t w = is_value_word w && (t.timer || not (is_up_to (field_number w) t.fields))

abbrev pub is_unknown : Tables → Word → Bool
is_unknown t w = is_unknown_name t w || is_unknown_value t w

-- in the state's place an `each` knows its own names
abbrev pub is_unknown_use : Tables → Shape → Bool
is_unknown_use t (Each name state) = is_unknown_name t state && not (same_word name state)
is_unknown_use t (EachPair key number state) = is_unknown_name t state && not (same_word key state || same_word number state)
is_unknown_use t s = some_is (is_unknown_name t) (use_of s)

unfoldable pub has_unknown : Tables → Shape → Bool
has_unknown t s = (list_any (is_unknown t) (reads_of s) || list_any (is_unknown t) (more_of s)) || is_unknown_use t s

-- Kind: a statement that the state's kind doesn't have, a local name in a state's place, or a state in a local name's

abbrev pub is_value : KindWord → Bool
is_value word.Value = true
is_value _ = false

abbrev pub is_list : KindWord → Bool
is_list word.List = true
is_list _ = false

abbrev pub is_map : KindWord → Bool
is_map word.Map = true
is_map _ = false

-- how many values a state of this kind may be put to
abbrev pub takes : KindWord → ℕ → Bool
takes word.Value n = nat_eq n 1
takes word.List n = true
takes word.Map n = nat_eq n 2

-- the statements that a state of this kind has
abbrev pub serves : KindWord → Shape → Bool
serves k (Get name state missing) = is_value k
serves k (GetAt name state at missing) = is_map k
serves k (Has name state at) = is_map k
serves k (Empty name state) = is_map k
serves k (Put state values) = takes k (length (parts_of values))
serves k (Add state value) = is_list k
serves k (Remove state at) = is_map k
serves k (Clear state) = true
serves k (Each name state) = is_list k
serves k (EachPair key number state) = is_map k
serves k s = true

abbrev pub kind_of : List DeclaredState → Word → Option KindWord
kind_of [] w = None
kind_of (d ∷ ds) w = if same_word d.name w then Some d.kind else kind_of ds w

abbrev pub some_serves : Option KindWord → Shape → Bool
some_serves None s = false
some_serves (Some k) s = serves k s

-- the state in its place doesn't serve it, or is no state
abbrev pub is_unserved : Tables → Shape → Bool
is_unserved t s = some_is (λ w. not (some_serves (kind_of t.states w) s)) (use_of s)

unfoldable pub has_wrong_kind : Tables → Shape → Bool
has_wrong_kind t s = ((list_any (is_state t) (reads_of s) || list_any (is_state t) (more_of s)) || (some_is (is_state t) (set_of s) || some_is (is_state t) (also_of s))) || is_unserved t s

-- InArm: it writes, or sets a timer or takes one off, inside an arm
abbrev pub is_loud_in_arm : Shape → List Frame → Bool
is_loud_in_arm s fs = is_loud s && list_any is_arm fs

-- what the line touches, with its own names
unfoldable pub print_in : Tables → Shape → Print
print_in t s = print_of (locals_with s t.locals) (names_of t.states) s

-- TooWide: an `end` that closes a `both` of width over 16
abbrev pub is_too_wide : Shape → List Frame → Bool
is_too_wide End fs = top_is_wide fs
is_too_wide s fs = false

-- the kinds that look at the open blocks, for a line that touches this
unfoldable pub block_fault : Print → Shape → List Frame → Option FaultKind
block_fault p s fs =
    if is_loud_in_arm s fs then Some fault.InArm else
    if has_conflict p fs then Some fault.Conflict else
    if is_too_wide s fs then Some fault.TooWide else None

-- the first kind of fault, in their order
unfoldable pub fault_in : Tables → Shape → Option FaultKind
fault_in t s =
    if not (may_stand t s) then Some fault.Word else
    if is_too_many t s then Some fault.TooMany else
    if is_too_deep t s then Some fault.TooDeep else
    if is_twice t s then Some fault.Twice else
    if has_unknown t s then Some fault.UnknownName else
    if has_wrong_kind t s then Some fault.Kind else block_fault (print_in t s) s t.frames

-- the first kind of fault of a line, behind these lines
unfoldable pub fault_by : List Shape → Shape → Option FaultKind
fault_by before s = fault_in (tables_of before) s
