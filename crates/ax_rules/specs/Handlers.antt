-- The rows that a section's lines make, and what the rules of rows say of them.
use Rattle.std.specs.Prelude.{◌≡◌, ◌≤◌, ℕ, max, List, [], ◌∷◌, ◌++◌, Bool, true, false, Option, Some, None}
use Rattle.ax_text.specs.Prints.{Print as RowPrint, print, quiet_print, asking_print, loop_print, test_print}
use Rattle.ax_text.specs.Rows.{HandlerLine, ActLine, AskLine, IfLine, EachLine, BothLine, SecondLine, EndLine, Wide, wide, widened_by, follow, now_of, all_ok}
use Rattle.ax_text.specs.Rows as rows
use Rattle.ax_syntax.specs.Shapes.{Shape, Input, State, OnRow, OnTimer, End}
use Rattle.ax_rules.specs.declared.blocks.Print.{Print}
use Rattle.ax_rules.specs.declared.blocks.Frame.{Frame}
use Rattle.ax_rules.specs.Parts.{is_loud}
use Rattle.ax_rules.specs.Lines.{has_timer, frames_of, print_behind, widest_of, tables_of}
use Rattle.ax_rules.specs.Faults.{fault_by}
use Rattle.ax_rules.specs.Sections.{is_whole}
use Rattle.ax_rules.specs.Laws.{makes}
use Rattle.ax_rules.specs.Alike.{print_for}

-- what a row touches
abbrev pub row_print : HandlerLine → RowPrint
row_print (ActLine q) = quiet_print q
row_print (AskLine a) = asking_print a
row_print (IfLine e) = test_print e
row_print (EachLine l) = loop_print l
row_print BothLine = print [] [] [] [] false
row_print SecondLine = print [] [] [] [] false
row_print EndLine = print [] [] [] [] false

-- a row that a line makes, and that touches what the line touches
pub record IsRowOf (s : Shape) (p : Print) (r : HandlerLine) : Type 0 where
  pub made : makes s r ≡ true
  pub touches : p ≡ print_for r (row_print r)
  pub loud : (row_print r).loud ≡ is_loud s

-- the row that a line makes, with these open blocks behind it; a handler's own `end` makes none
abbrev pub MakesRow : Shape → Print → List Frame → Option HandlerLine → Type 0
MakesRow (Input fields) p fs o = o ≡ None
MakesRow (State name kind) p fs o = o ≡ None
MakesRow OnRow p fs o = o ≡ None
MakesRow OnTimer p fs o = o ≡ None
MakesRow End p [] o = o ≡ None
MakesRow End p (f ∷ fs) o = o ≡ Some EndLine
MakesRow s p fs o = (r : HandlerLine) × (o ≡ Some r) × IsRowOf s p r

-- the rows of `on row`, and those of `on timer`, where a line made this row, and whether that was in `on timer`
abbrev pub row_after : Bool → Option HandlerLine → List HandlerLine → List HandlerLine
row_after timer None rs = rs
row_after true (Some r) rs = rs
row_after false (Some r) rs = rs ++ r ∷ []

abbrev pub timer_after : Bool → Option HandlerLine → List HandlerLine → List HandlerLine
timer_after timer None ts = ts
timer_after true (Some r) ts = ts ++ r ∷ []
timer_after false (Some r) ts = ts

-- lines without fault, the latest first, make these rows of `on row` and of `on timer`
abbrev pub Make : List Shape → List HandlerLine → List HandlerLine → Type 0
Make [] rs ts = (rs ≡ []) × (ts ≡ [])
Make (s ∷ ls) rs ts =
    (o : Option HandlerLine) × (qs : List HandlerLine) × (us : List HandlerLine)
    × (fault_by ls s ≡ None) × MakesRow s (print_behind s ls) (frames_of (s ∷ ls)) o
    × (rs ≡ row_after (has_timer (s ∷ ls)) o qs) × (ts ≡ timer_after (has_timer (s ∷ ls)) o us) × Make ls qs us

-- a handler that has just begun
abbrev pub handler : List Wide
handler = wide rows.Body 0 0 ∷ []

-- the rows of both handlers close each block and keep the rule of arms, and are so wide together
abbrev pub AreRows : ℕ → List HandlerLine → List HandlerLine → Type 0
AreRows n rs ts = record {
  row_follows : follow rs handler ≡ true;
  timer_follows : follow ts handler ≡ true;
  row_ok : all_ok rs [] ≡ true;
  timer_ok : all_ok ts [] ≡ true;
  width : n ≡ max (now_of (widened_by rs handler)) (now_of (widened_by ts handler));
  narrow : n ≤ 16;
}

-- so are those of lines without fault, where nothing is due at the end
abbrev pub RowsHold : List Shape → List HandlerLine → List HandlerLine → Type 0
RowsHold ls rs ts = Make ls rs ts → is_whole (tables_of ls) ≡ true → AreRows (widest_of ls) rs ts
