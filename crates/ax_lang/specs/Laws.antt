-- What is accepted has its meaning.
use Rattle.std.specs.Prelude.{◌≡◌, ◌≤◌, List, map, true, Some}
use Rattle.ax_text.specs.Exprs.{Expr}
use Rattle.ax_text.specs.Prints.{is_accepted}
use Rattle.ax_text.specs.Programs.{Program, program_width, text_or_stop}
use Rattle.ax_syntax.specs.Words.{Word}
use Rattle.ax_syntax.specs.Shapes.{is_expr}
use Rattle.ax_expr.specs.Reading.{tree_of}
use Rattle.ax_lang.specs.Rows.{token_of}

-- words that have the form of an expression have a tree
abbrev pub HasTree : List Word → List Word → Type 0
HasTree locals ws = is_expr ws ≡ true → (t : Expr) × (tree_of (map (token_of locals) ws) ≡ Some t)

-- the arms of each `both` are silent and apart, and at most 16 requests may be out at once
pub record AreApart (p : Program) : Type 0 where
  pub row : is_accepted p.row ≡ true
  pub timer : is_accepted (text_or_stop p.timer) ≡ true
  pub few : program_width p ≤ 16
