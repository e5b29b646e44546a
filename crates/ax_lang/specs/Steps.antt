-- What a table of steps stands for. A place counts from 1, and 0 is the end.
use Rattle.std.specs.Prelude.{◌≡◌, ◌≤◌, ℕ, zero, suc, List, [], ◌∷◌, ◌++◌, map, length, Bool, true, ◌&&◌, Option, Some, None, Vec, nat_le, slice_index_or}
use Rattle.ax_text.specs.declared.vocabulary.Kind.{Kind}
use Rattle.ax_text.specs.Texts.{Text, Stop}
use Rattle.ax_text.specs.Rows.{HandlerLine, ActLine, AskLine, IfLine, EachLine, BothLine, SecondLine, EndLine, Body, wide, widened_by, now_of, text_of}
use Rattle.ax_text.specs.Valid.{expr_fits, quiet_fits, asking_fits, loop_fits}
use Rattle.ax_lang.specs.declared.step.Stmt.{Stmt}
use Rattle.ax_lang.specs.declared.step.Step.{Step}
use Rattle.ax_lang.specs.declared.step.HandlerLine.{HandlerLine as CodeLine}
use Rattle.std.specs.declared.alloc.Global.{Global}
use Rattle.ax_lang.specs.Forms.{form_of, text_with, top_of, row_in, shown_row}

-- what a line speaks of exists, where a row has so many values and there are so many local names and states of these kinds
abbrev pub row_fits : ℕ → ℕ → List Kind → HandlerLine → Bool
row_fits fields locals kinds (ActLine q) = quiet_fits fields locals q
row_fits fields locals kinds (AskLine a) = asking_fits fields locals kinds a
row_fits fields locals kinds (IfLine e) = expr_fits fields locals e
row_fits fields locals kinds (EachLine l) = loop_fits locals kinds l
row_fits fields locals kinds BothLine = true
row_fits fields locals kinds SecondLine = true
row_fits fields locals kinds EndLine = true

-- so does what a statement speaks of
abbrev pub stmt_fits : ℕ → ℕ → List Kind → Stmt → Bool
stmt_fits fields locals kinds s = row_fits fields locals kinds (row_in (form_of s))

-- the lines of a handler that may be missing
abbrev pub rows_some : Option (Vec CodeLine Global) → List HandlerLine
rows_some None = []
rows_some (Some rows) = map shown_row rows.items

-- the text of a handler that may be missing
abbrev pub text_if : Option (Vec CodeLine Global) → Option Text
text_if None = None
text_if (Some rows) = Some (text_of (map shown_row rows.items))

-- how many requests the lines of a handler may have out at once, counted line by line
abbrev pub rows_width : List HandlerLine → ℕ
rows_width rows = now_of (widened_by rows (wide Body 0 0 ∷ []))

abbrev pub text_in : List Text → ℕ → Text
text_in texts zero = Stop
text_in texts (suc i) = slice_index_or texts i Stop

-- the texts of all places, from the lowest on
abbrev pub texts_from : List Text → List Step → List Text
texts_from texts [] = texts
texts_from texts (s ∷ ss) = texts_from (texts ++ text_with (text_in texts) (form_of s.stmt) s.next ∷ []) ss

-- the text from a place of a table on
unfoldable pub text_at : List Step → ℕ → Text
text_at steps place = text_in (texts_from [] steps) place

-- the same, where there is a place
abbrev pub text_some : List Step → Option ℕ → Option Text
text_some steps None = None
text_some steps (Some place) = Some (text_at steps place)

-- each statement fits, and its step names lower places alone; n steps stand before
abbrev pub steps_fit : ℕ → ℕ → List Kind → ℕ → List Step → Bool
steps_fit fields locals kinds n [] = true
steps_fit fields locals kinds n (s ∷ ss) = (nat_le (top_of s) n && stmt_fits fields locals kinds s.stmt) && steps_fit fields locals kinds (suc n) ss

-- a table goes on: what stands at its places stays
abbrev pub GoesOn : List Step → List Step → Type 0
GoesOn before after = (place : ℕ) → place ≤ length before → text_at after place ≡ text_at before place
