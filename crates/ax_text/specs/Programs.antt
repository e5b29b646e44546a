-- What a program says.
use Rattle.std.specs.Prelude.{ℕ, max, ◌+◌, List, map, Option, Some, None}
use Rattle.std.specs.List.{slice_index_or}
use Rattle.ax_text.specs.declared.vocabulary.Kind.{Kind}
use Rattle.ax_text.specs.declared.vocabulary.Kind.TheVariants as kind
use Rattle.ax_text.specs.Cells.{Cells, empty_cell}
use Rattle.ax_text.specs.Texts.{Text, Stop, Act, Ask, If, Each, Both}

-- a declared state
pub record State : Type 0 where
  pub name : List ℕ
  pub kind : Kind

pub record Program : Type 0 where
  -- how many values a row has
  pub fields : ℕ
  -- the declared states, in order
  pub states : List State
  -- what `on row` says
  pub row : Text
  -- what `on timer` says, where there is one
  pub timer : Option Text

-- what `on timer` says; where there is none, a firing does nothing
abbrev pub text_or_stop : Option Text → Text
text_or_stop None = Stop
text_or_stop (Some text) = text

abbrev pub kinds_of : List State → List Kind
kinds_of states = map (λ s. s.kind) states

-- the states of a key that was never touched
abbrev pub untouched : List Kind → Cells
untouched kinds i = empty_cell (slice_index_or kinds i kind.Value)

-- how many requests a text may have out at once
abbrev pub width : Text → ℕ
width Stop = 0
width (Act q t) = width t
width (Ask a t) = max 1 (width t)
width (If e a b t) = max (max (width a) (width b)) (width t)
width (Each l body t) = max (max 1 (width body)) (width t)
width (Both a b t) = max (width a + width b) (width t)

abbrev pub width_some : Option Text → ℕ
width_some None = 0
width_some (Some t) = width t

abbrev pub program_width : Program → ℕ
program_width p = max 1 (max (width p.row) (width_some p.timer))
