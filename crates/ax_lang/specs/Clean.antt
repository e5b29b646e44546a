-- Lines without fault.
use Rattle.std.specs.Prelude.{◌≡◌, ◌≤◌, List, [], ◌∷◌, true, None}
use Rattle.ax_syntax.specs.Words.{is_name}
use Rattle.ax_syntax.specs.Shapes.{Shape, Input, State, Let, Get, GetAt, Has, Empty, Put, Add, Remove, If, Each, EachPair, Emit, Timer, Untimer, is_expr, is_exprs}
use Rattle.ax_rules.specs.declared.tables.Tables.{Tables}
use Rattle.ax_rules.specs.Lines.{tables_of}
use Rattle.ax_rules.specs.Faults.{fault_by}
use Rattle.ax_lang.specs.Rows.{HandlerLines, rows_of}

-- what the words of a shape have by their form
abbrev pub WellShaped : Shape → Type 0
WellShaped (Input n) = n ≤ 16
WellShaped (State name kind) = is_name name ≡ true
WellShaped (Let name value) = (is_name name ≡ true) × (is_expr value ≡ true)
WellShaped (Get name state missing) = (is_name name ≡ true) × (is_expr missing ≡ true)
WellShaped (GetAt name state at missing) = (is_name name ≡ true) × (is_expr at ≡ true) × (is_expr missing ≡ true)
WellShaped (Has name state at) = (is_name name ≡ true) × (is_expr at ≡ true)
WellShaped (Empty name state) = is_name name ≡ true
WellShaped (Put state values) = is_exprs values ≡ true
WellShaped (Add state value) = is_expr value ≡ true
WellShaped (Remove state at) = is_expr at ≡ true
WellShaped (If test) = is_expr test ≡ true
WellShaped (Each name state) = is_name name ≡ true
WellShaped (EachPair key number state) = (is_name key ≡ true) × (is_name number ≡ true)
WellShaped (Emit values) = is_exprs values ≡ true
WellShaped (Timer time) = is_expr time ≡ true
WellShaped (Untimer time) = is_expr time ≡ true
WellShaped _ = Unit {0}

-- each line has its form, and no fault against the lines before it; the latest comes first
abbrev pub Clean : List Shape → Type 0
Clean [] = Unit {0}
Clean (s ∷ ls) = WellShaped s × (fault_by ls s ≡ None) × Clean ls

-- tables and rows of such lines
abbrev pub AreClean : Tables → HandlerLines → Type 0
AreClean t rows = (ls : List Shape) × (t ≡ tables_of ls) × (rows ≡ rows_of ls) × Clean ls
