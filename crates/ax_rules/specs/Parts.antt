-- What a line says by itself.
use Rattle.std.specs.Prelude.{ℕ, ◌+◌, List, [], ◌∷◌, Bool, true, false, Option, Some, None, if◌then◌else◌, ◌++◌}
pub use Rattle.ax_text.specs.Names.{mem}
use Rattle.ax_syntax.specs.Words.{Word, same_word}
use Rattle.ax_syntax.specs.Shapes.{Shape, Input, State, OnRow, OnTimer, End, Let, Get, GetAt, Has, Empty, Put, Add, Remove, Clear, If, Else, Each, EachPair, Both, With, Emit, Timer, Untimer}

-- the local name that it assigns
abbrev pub set_of : Shape → Option Word
set_of (Let name value) = Some name
set_of (Get name state missing) = Some name
set_of (GetAt name state at missing) = Some name
set_of (Has name state at) = Some name
set_of (Empty name state) = Some name
set_of (Each name state) = Some name
set_of (EachPair key number state) = Some key
set_of _ = None

-- the second name of an `each` over a map
abbrev pub also_of : Shape → Option Word
also_of (EachPair key number state) = Some number
also_of _ = None

-- the words of its expressions, with the commas between them
abbrev pub reads_of : Shape → List Word
reads_of (Let name value) = value
reads_of (Get name state missing) = missing
reads_of (GetAt name state at missing) = at
reads_of (Has name state at) = at
reads_of (Put state values) = values
reads_of (Add state value) = value
reads_of (Remove state at) = at
reads_of (If test) = test
reads_of (Emit values) = values
reads_of (Timer time) = time
reads_of (Untimer time) = time
reads_of _ = []

-- the words behind the `or` of a map's `get`
abbrev pub more_of : Shape → List Word
more_of (GetAt name state at missing) = missing
more_of _ = []

-- the word in a state's place
abbrev pub use_of : Shape → Option Word
use_of (Get name state missing) = Some state
use_of (GetAt name state at missing) = Some state
use_of (Has name state at) = Some state
use_of (Empty name state) = Some state
use_of (Put state values) = Some state
use_of (Add state value) = Some state
use_of (Remove state at) = Some state
use_of (Clear state) = Some state
use_of (Each name state) = Some state
use_of (EachPair key number state) = Some state
use_of _ = None

-- whether it changes the state
abbrev pub changes : Shape → Bool
changes (Put state values) = true
changes (Add state value) = true
changes (Remove state at) = true
changes (Clear state) = true
changes _ = false

-- whether it writes a line, or sets a timer or takes one off
abbrev pub is_loud : Shape → Bool
is_loud (Emit values) = true
is_loud (Timer time) = true
is_loud (Untimer time) = true
is_loud _ = false

-- whether it is one of the statements that are counted
abbrev pub is_statement : Shape → Bool
is_statement (Input fields) = false
is_statement (State name kind) = false
is_statement OnRow = false
is_statement OnTimer = false
is_statement End = false
is_statement Else = false
is_statement With = false
is_statement _ = true

-- whether a block begins
abbrev pub opens : Shape → Bool
opens (If test) = true
opens (Each name state) = true
opens (EachPair key number state) = true
opens Both = true
opens _ = false

abbrev pub some_is : (Word → Bool) → Option Word → Bool
some_is p None = false
some_is p (Some w) = p w

-- a word goes last, if it isn't there
abbrev pub with_word : Option Word → List Word → List Word
with_word None ws = ws
with_word (Some w) ws = if mem w ws then ws else ws ++ w ∷ []

-- the place of a word, where n stand before the list
abbrev pub index_of : ℕ → List Word → Word → Option ℕ
index_of n [] w = None
index_of n (x ∷ xs) w = if same_word x w then Some n else index_of (n + 1) xs w

abbrev pub onto : Option ℕ → List ℕ → List ℕ
onto None is = is
onto (Some i) is = i ∷ is

-- the numbers of those words that are among the names
abbrev pub numbers_in : List Word → List Word → List ℕ
numbers_in names [] = []
numbers_in names (w ∷ ws) = onto (index_of 0 names w) (numbers_in names ws)

abbrev pub number_some : List Word → Option Word → List ℕ
number_some names None = []
number_some names (Some w) = onto (index_of 0 names w) []
