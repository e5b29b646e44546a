-- A section, or its first fault: each line is tested against all lines before it.
use Rattle.std.specs.Prelude.{List, [], ◌∷◌, ℕ, Bool, not, Option, Some, None, if◌then◌else◌, ◌&&◌, is_some}
use Rattle.ax_base.specs.declared.lines.Line.{Line}
use Rattle.ax_base.specs.Words.{words_of}
use Rattle.ax_syntax.specs.Shapes.{Shape, shape_of}
use Rattle.ax_rules.specs.declared.kinds.FaultKind.{FaultKind}
use Rattle.ax_rules.specs.declared.kinds.FaultKind.TheVariants as fault
use Rattle.ax_rules.specs.declared.tables.Tables.{Tables}
use Rattle.ax_rules.specs.declared.section.SectionEnd.{SectionEnd}
use Rattle.ax_rules.specs.Lines.{tables_of}
use Rattle.ax_rules.specs.Faults.{fault_by, is_inside}

-- no line has a fault and nothing is due at the end, or the first fault: the least line that has one, and its first kind there
pub data Reading : Type 0 where
  Whole : (tables : Tables) → Reading
  Faulty : (line : ℕ) → (kind : FaultKind) → Reading

abbrev pub shape_in : Line → Option Shape
shape_in l = shape_of (words_of l.text)

-- the first kind of fault of a line behind these; one that has no shape is faulty
abbrev pub fault_at : List Shape → Option Shape → Option FaultKind
fault_at before None = Some fault.Word
fault_at before (Some s) = fault_by before s

abbrev pub with_line : Option Shape → List Shape → List Shape
with_line None ls = ls
with_line (Some s) ls = s ∷ ls

abbrev pub shapes_from : List Shape → List Line → List Shape
shapes_from before [] = before
shapes_from before (l ∷ ls) = shapes_from (with_line (shape_in l) before) ls

-- the shapes of lines, the latest first
abbrev pub shapes_of : List Line → List Shape
shapes_of lines = shapes_from [] lines

abbrev pub or_fault : Option FaultKind → ℕ → Reading → Reading
or_fault None line go = go
or_fault (Some kind) line go = Faulty line kind

-- nothing is due at the end
unfoldable pub is_whole : Tables → Bool
is_whole t = (is_some t.fields && t.row) && not (is_inside t)

unfoldable pub ended : List Shape → SectionEnd → Reading
ended ls end = if is_whole (tables_of ls) && end.found then Whole (tables_of ls) else Faulty end.line fault.NoEnd

-- the lines before a line, that line and those behind it, and the end of the section
unfoldable pub read_from : List Shape → List Line → SectionEnd → Reading
read_from before [] end = ended before end
read_from before (l ∷ ls) end = or_fault (fault_at before (shape_in l)) l.number (read_from (with_line (shape_in l) before) ls end)

-- what the lines of a section say, or its first fault
unfoldable pub reading_of : List Line → SectionEnd → Reading
reading_of lines end = read_from [] lines end
