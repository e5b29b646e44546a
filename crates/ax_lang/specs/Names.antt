-- How many local names a text has: one more than the greatest number of those that it assigns, and none where it assigns none.
use Rattle.std.specs.Prelude.{ℕ, suc, max, List, [], ◌∷◌, Option, Some, None}
use Rattle.ax_text.specs.Texts.{Quiet, Let, Asking, Get, GetAt, Has, Empty, Loop, Items, Entries, Text, Stop, Act, Ask, If, Each, Both}
use Rattle.ax_text.specs.Programs.{Program}
use Rattle.ax_text.specs.Rows.{HandlerLine, ActLine, AskLine, EachLine}

abbrev pub quiet_names : Quiet → ℕ
quiet_names (Let name value) = suc name
quiet_names _ = 0

abbrev pub asking_names : Asking → ℕ
asking_names (Get name state missing) = suc name
asking_names (GetAt name state place missing) = suc name
asking_names (Has name state place) = suc name
asking_names (Empty name state) = suc name
asking_names _ = 0

abbrev pub loop_names : Loop → ℕ
loop_names (Items name state) = suc name
loop_names (Entries key number state) = max (suc key) (suc number)

abbrev pub text_names : Text → ℕ
text_names Stop = 0
text_names (Act q t) = max (quiet_names q) (text_names t)
text_names (Ask a t) = max (asking_names a) (text_names t)
text_names (If e a b t) = max (max (text_names a) (text_names b)) (text_names t)
text_names (Each l body t) = max (max (loop_names l) (text_names body)) (text_names t)
text_names (Both a b t) = max (max (text_names a) (text_names b)) (text_names t)

abbrev pub names_some : Option Text → ℕ
names_some None = 0
names_some (Some t) = text_names t

-- of its handlers the one with more
abbrev pub program_names : Program → ℕ
program_names p = max (text_names p.row) (names_some p.timer)

-- the same of the lines of a handler

abbrev pub row_names : HandlerLine → ℕ
row_names (ActLine q) = quiet_names q
row_names (AskLine a) = asking_names a
row_names (EachLine l) = loop_names l
row_names _ = 0

abbrev pub rows_names : List HandlerLine → ℕ
rows_names [] = 0
rows_names (r ∷ rs) = max (row_names r) (rows_names rs)
