-- Lines of a handler whose names are numbers.
use Rattle.std.specs.Prelude.{ℕ, ℤ, ◌-◌, List, [], ◌∷◌, ◌++◌, map, Bool, true, false, Option, Some, None, if◌then◌else◌}
use lib.Chars.{codes}
use Rattle.ax_base.specs.Numbers.{number_of}
use Rattle.ax_text.specs.declared.vocabulary.Op.{Op}
use Rattle.ax_text.specs.declared.vocabulary.Atom.{Atom}
use Rattle.ax_text.specs.declared.vocabulary.Atom.TheVariants as atom
use Rattle.ax_text.specs.declared.vocabulary.Keyword.{Keyword}
use Rattle.ax_text.specs.declared.vocabulary.Keyword.TheVariants as k
use Rattle.ax_text.specs.Exprs.{Expr, Leaf}
use Rattle.ax_text.specs.Texts.{Asking, Items, Entries}
use Rattle.ax_text.specs.Texts as text
use Rattle.ax_text.specs.Rows.{HandlerLine, ActLine, AskLine, IfLine, EachLine, BothLine, SecondLine, EndLine}
use Rattle.ax_syntax.specs.declared.shape.KindWord.{KindWord}
use Rattle.ax_syntax.specs.declared.shape.KindWord.TheVariants as kind
use Rattle.ax_syntax.specs.Words.{Word, same_word, keyword_of, field_number, sign_of}
use Rattle.ax_syntax.specs.Shapes.{Shape, End, Let, Get, GetAt, Has, Empty, Put, Add, Remove, Clear, If, Else, Each, EachPair, Both, With, Emit, Timer, Untimer, parts_of}
use Rattle.ax_expr.specs.declared.tree.Token.{Token}
use Rattle.ax_expr.specs.declared.tree.Token.TheVariants as token
use Rattle.ax_expr.specs.Reading.{tree_of}
use Rattle.ax_rules.specs.declared.tables.Tables.{Tables}
use Rattle.ax_rules.specs.Parts.{index_of}
use Rattle.ax_rules.specs.Lines.{names_of, tables_of}
use Rattle.ax_rules.specs.Faults.{is_inside, kind_of}

abbrev pub place_or : Option ℕ → ℕ
place_or None = 0
place_or (Some i) = i

abbrev pub place_in : List Word → Word → ℕ
place_in ws w = place_or (index_of 0 ws w)

abbrev pub number_or : Option ℤ → Atom → Atom
number_or None a = a
number_or (Some n) a = atom.Number n

abbrev pub moment_or : Option Keyword → Atom → Atom
moment_or (Some k.Time) a = atom.Time
moment_or (Some k.Wm) a = atom.Watermark
moment_or _ a = a

abbrev pub field_or : Option ℕ → Atom → Atom
field_or None a = a
field_or (Some n) a = atom.Field (n - 1)

-- a word that is neither a parenthesis nor a sign
abbrev pub atom_of : List Word → Word → Atom
atom_of locals w = number_or (number_of w) (moment_or (keyword_of w) (field_or (field_number w) (atom.Name (place_in locals w))))

abbrev pub sign_or : Option Op → Token → Token
sign_or None m = m
sign_or (Some o) m = token.Sign o

-- what a word is in an expression
unfoldable pub token_of : List Word → Word → Token
token_of locals w =
    if same_word w (codes "(") then token.Open else
    if same_word w (codes ")") then token.Close else
    sign_or (sign_of w) (token.Operand (atom_of locals w))

abbrev pub tree_or : Option Expr → Expr
tree_or None = Leaf atom.Time
tree_or (Some t) = t

-- the expression of these words
unfoldable pub tree_in : List Word → List Word → Expr
tree_in locals ws = tree_or (tree_of (map (token_of locals) ws))

-- a value is put to one number, a map at a place to a number, and a list to all
abbrev pub put_by : Option KindWord → ℕ → List Expr → Asking
put_by (Some kind.Value) state (e ∷ es) = text.Put state e
put_by (Some kind.Map) state (e ∷ f ∷ es) = text.PutAt state e f
put_by _ state es = text.PutAll state es

-- the row of a line, where the tables are those behind it; the `end` of a handler has none
unfoldable pub row_of : Tables → Shape → Option HandlerLine
row_of t (Let name value) = Some (ActLine (text.Let (place_in t.locals name) (tree_in t.locals value)))
row_of t (Get name state missing) = Some (AskLine (text.Get (place_in t.locals name) (place_in (names_of t.states) state) (tree_in t.locals missing)))
row_of t (GetAt name state at missing) = Some (AskLine (text.GetAt (place_in t.locals name) (place_in (names_of t.states) state) (tree_in t.locals at) (tree_in t.locals missing)))
row_of t (Has name state at) = Some (AskLine (text.Has (place_in t.locals name) (place_in (names_of t.states) state) (tree_in t.locals at)))
row_of t (Empty name state) = Some (AskLine (text.Empty (place_in t.locals name) (place_in (names_of t.states) state)))
row_of t (Put state values) = Some (AskLine (put_by (kind_of t.states state) (place_in (names_of t.states) state) (map (tree_in t.locals) (parts_of values))))
row_of t (Add state value) = Some (AskLine (text.Add (place_in (names_of t.states) state) (tree_in t.locals value)))
row_of t (Remove state at) = Some (AskLine (text.Remove (place_in (names_of t.states) state) (tree_in t.locals at)))
row_of t (Clear state) = Some (AskLine (text.Clear (place_in (names_of t.states) state)))
row_of t (If test) = Some (IfLine (tree_in t.locals test))
row_of t (Each name state) = Some (EachLine (Items (place_in t.locals name) (place_in (names_of t.states) state)))
row_of t (EachPair key number state) = Some (EachLine (Entries (place_in t.locals key) (place_in t.locals number) (place_in (names_of t.states) state)))
row_of t Both = Some BothLine
row_of t Else = Some SecondLine
row_of t With = Some SecondLine
row_of t End = if is_inside t then Some EndLine else None
row_of t (Emit values) = Some (ActLine (text.Emit (map (tree_in t.locals) (parts_of values))))
row_of t (Timer time) = Some (ActLine (text.Timer (tree_in t.locals time)))
row_of t (Untimer time) = Some (ActLine (text.Untimer (tree_in t.locals time)))
row_of t _ = None

-- the rows of the two handlers, in order
pub record HandlerLines : Type 0 where
  pub row : List HandlerLine
  pub timer : List HandlerLine

abbrev pub no_rows : HandlerLines
no_rows = record { row = []; timer = [] }

-- a row, if there is one, goes last: into `on timer`, or into `on row`
abbrev pub with_row : Bool → Option HandlerLine → HandlerLines → HandlerLines
with_row timer None rows = rows
with_row true (Some r) rows = record { row = rows.row; timer = rows.timer ++ r ∷ [] }
with_row false (Some r) rows = record { row = rows.row ++ r ∷ []; timer = rows.timer }

-- the rows of lines, of which the latest comes first
abbrev pub rows_of : List Shape → HandlerLines
rows_of [] = no_rows
rows_of (s ∷ ls) = with_row (tables_of (s ∷ ls)).timer (row_of (tables_of (s ∷ ls)) s) (rows_of ls)
