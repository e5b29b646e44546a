-- What a statement of the code stands for.
use Rattle.std.specs.Prelude.{ℕ, max, map}
use Rattle.ax_text.specs.Exprs.{Expr}
use Rattle.ax_text.specs.Texts.{Quiet, Asking, Loop, Text, Act, Ask, If, Each, Both}
use Rattle.ax_text.specs.Texts as text
use Rattle.ax_text.specs.Rows.{HandlerLine, ActLine, AskLine, IfLine, EachLine, BothLine, SecondLine, EndLine}
use Rattle.ax_expr.specs.Shown.{shown_expr}
use Rattle.ax_lang.specs.declared.step.Loop.{Loop as CodeLoop}
use Rattle.ax_lang.specs.declared.step.Loop.TheVariants as loop
use Rattle.ax_lang.specs.declared.step.Stmt.{Stmt}
use Rattle.ax_lang.specs.declared.step.Stmt.TheVariants as code
use Rattle.ax_lang.specs.declared.step.Step.{Step}
use Rattle.ax_lang.specs.declared.step.HandlerLine.{HandlerLine as CodeLine}
use Rattle.ax_lang.specs.declared.step.HandlerLine.TheVariants as line

-- a statement, with the places that it names
pub data Form : Type 0 where
  Acts : (quiet : Quiet) → Form
  Asks : (asking : Asking) → Form
  Branches : (test : Expr) → (one other : ℕ) → Form
  Repeats : (loop : Loop) → (body : ℕ) → Form
  Splits : (one two : ℕ) → Form

abbrev pub shown_loop : CodeLoop → Loop
shown_loop (loop.Items name state) = text.Items name state
shown_loop (loop.Entries key number state) = text.Entries key number state

abbrev pub form_of : Stmt → Form
form_of (code.Let name e) = Acts (text.Let name (shown_expr e))
form_of (code.Emit values) = Acts (text.Emit (map shown_expr values))
form_of (code.SetTimer time) = Acts (text.Timer (shown_expr time))
form_of (code.UnsetTimer time) = Acts (text.Untimer (shown_expr time))
form_of (code.Get name state missing) = Asks (text.Get name state (shown_expr missing))
form_of (code.GetAt name state place missing) = Asks (text.GetAt name state (shown_expr place) (shown_expr missing))
form_of (code.Has name state place) = Asks (text.Has name state (shown_expr place))
form_of (code.Empty name state) = Asks (text.Empty name state)
form_of (code.Put state number) = Asks (text.Put state (shown_expr number))
form_of (code.PutAt state place number) = Asks (text.PutAt state (shown_expr place) (shown_expr number))
form_of (code.PutAll state numbers) = Asks (text.PutAll state (map shown_expr numbers))
form_of (code.Add state number) = Asks (text.Add state (shown_expr number))
form_of (code.Remove state place) = Asks (text.Remove state (shown_expr place))
form_of (code.Clear state) = Asks (text.Clear state)
form_of (code.If test one other) = Branches (shown_expr test) one other
form_of (code.Each turn body) = Repeats (shown_loop turn) body
form_of (code.Both one two) = Splits one two

-- the text of a statement and of what comes after it, where `at` are the texts of places
abbrev pub text_with : (ℕ → Text) → Form → ℕ → Text
text_with at (Acts q) next = Act q (at next)
text_with at (Asks a) next = Ask a (at next)
text_with at (Branches e one other) next = If e (at one) (at other) (at next)
text_with at (Repeats l body) next = Each l (at body) (at next)
text_with at (Splits one two) next = Both (at one) (at two) (at next)

-- the highest place that a statement names
abbrev pub form_top : Form → ℕ
form_top (Acts q) = 0
form_top (Asks a) = 0
form_top (Branches e one other) = max one other
form_top (Repeats l body) = body
form_top (Splits one two) = max one two

-- the highest place that a step names
abbrev pub top_of : Step → ℕ
top_of s = max s.next (form_top (form_of s.stmt))

-- the line of a statement
abbrev pub row_in : Form → HandlerLine
row_in (Acts q) = ActLine q
row_in (Asks a) = AskLine a
row_in (Branches e one other) = IfLine e
row_in (Repeats l body) = EachLine l
row_in (Splits one two) = BothLine

abbrev pub shown_row : CodeLine → HandlerLine
shown_row (line.Statement s) = row_in (form_of s)
shown_row line.Second = SecondLine
shown_row line.End = EndLine
