-- What the blocks of a handler's rows keep.
use Rattle.std.specs.Prelude.{◌≡◌, ◌≤◌, ℕ, max, List, [], ◌∷◌, true}
use Rattle.ax_text.specs.Rows.{HandlerLine, Wide, wide, Body, follow, all_ok, widened_by, now_of}
use Rattle.ax_syntax.specs.Shapes.{Shape}
use Rattle.ax_rules.specs.Lines.{tables_of}
use Rattle.ax_rules.specs.Sections.{is_whole}
use Rattle.ax_lang.specs.Rows.{rows_of}
use Rattle.ax_lang.specs.Clean.{Clean}

-- a handler that has just begun
abbrev pub begun : List Wide
begun = wide Body 0 0 ∷ []

-- how wide rows are, counted line by line
abbrev pub counted : List HandlerLine → ℕ
counted rows = now_of (widened_by rows begun)

-- the rows of the two handlers close each block, keep the rule of arms, and are as wide as the tables say
abbrev pub BlocksHold : List Shape → Type 0
BlocksHold ls = record {
  row_follows : follow (rows_of ls).row begun ≡ true;
  timer_follows : follow (rows_of ls).timer begun ≡ true;
  row_ok : all_ok (rows_of ls).row [] ≡ true;
  timer_ok : all_ok (rows_of ls).timer [] ≡ true;
  width : (tables_of ls).widest ≡ max (counted (rows_of ls).row) (counted (rows_of ls).timer);
  narrow : (tables_of ls).widest ≤ 16;
}

-- they do where no line has a fault and nothing is due at the end
abbrev pub CleanLinesHold : List Shape → Type 0
CleanLinesHold ls = Clean ls → is_whole (tables_of ls) ≡ true → BlocksHold ls
