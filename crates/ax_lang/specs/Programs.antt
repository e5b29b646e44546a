-- A program, or its first fault.
use Rattle.std.specs.Prelude.{◌≡◌, ℕ, List, map, Bool, true, false, Option, Some, None, Result, Ok, Err}
use Rattle.ax_base.specs.declared.lines.Line.{Line}
use Rattle.ax_base.specs.declared.outside.NoMemory.{NoMemory}
use Rattle.ax_text.specs.declared.vocabulary.Kind.{Kind}
use Rattle.ax_text.specs.declared.vocabulary.Kind.TheVariants as kind
use Rattle.ax_text.specs.Texts.{Text}
use Rattle.ax_text.specs.Programs.{State, Program}
use Rattle.ax_text.specs.Rows.{HandlerLine, text_of}
use Rattle.ax_syntax.specs.declared.shape.KindWord.{KindWord}
use Rattle.ax_syntax.specs.declared.shape.KindWord.TheVariants as word
use Rattle.ax_syntax.specs.Shapes.{Shape}
use Rattle.ax_rules.specs.declared.kinds.FaultKind.{FaultKind}
use Rattle.ax_rules.specs.declared.section.SectionEnd.{SectionEnd}
use Rattle.ax_rules.specs.declared.tables.DeclaredState.{DeclaredState}
use Rattle.ax_rules.specs.declared.tables.Tables.{Tables}
use Rattle.ax_rules.specs.Kinds.{kind_number}
use Rattle.ax_rules.specs.Taking.{fault_some, behind_some}
use Rattle.ax_rules.specs.Sections.{shapes_of, reading_of}
use Rattle.ax_rules.specs.Sections as section
use Rattle.ax_lang.specs.declared.program.Program.{Program as CodeProgram}
use Rattle.ax_lang.specs.declared.step.HandlerLine.{HandlerLine as CodeLine}
use Rattle.ax_lang.specs.declared.reader.Handlers.{Handlers}
use Rattle.ax_lang.specs.declared.reader.ProgFault.{ProgFault}
use Rattle.ax_lang.specs.declared.reader.ProgFault.TheVariants as fault
use Rattle.ax_lang.specs.Forms.{shown_row}
use Rattle.ax_lang.specs.Rows.{HandlerLines, row_of, with_row, rows_of}
use Rattle.ax_lang.specs.Shown.{shown_program}

abbrev pub kind_in : KindWord → Kind
kind_in word.Value = kind.Value
kind_in word.List = kind.List
kind_in word.Map = kind.Map

abbrev pub state_in : DeclaredState → State
state_in d = record { name = d.name; kind = kind_in d.kind }

abbrev pub fields_or : Option ℕ → ℕ
fields_or None = 0
fields_or (Some n) = n

-- the text of a handler that may be missing
abbrev pub timer_text : Bool → List HandlerLine → Option Text
timer_text true rows = Some (text_of rows)
timer_text false rows = None

-- the program of these rows, where the tables are those at the end
unfoldable pub program_in : Tables → HandlerLines → Program
program_in t rows = record { fields = fields_or t.fields; states = map state_in t.states; row = text_of rows.row; timer = timer_text t.timer rows.timer }

pub data Reading : Type 0 where
  Faulty : (line kind : ℕ) → Reading
  Accepted : (program : Program) → Reading

abbrev pub said_by : List Shape → section.Reading → Reading
said_by ls (section.Faulty line kind) = Faulty line (kind_number kind)
said_by ls (section.Whole tables) = Accepted (program_in tables (rows_of ls))

-- what the lines of a section say: their program, or the first fault
unfoldable pub program_of : List Line → SectionEnd → Reading
program_of lines end = said_by (shapes_of lines) (reading_of lines end)

-- what the code holds of rows

abbrev pub row_some : Option CodeLine → Option HandlerLine
row_some None = None
row_some (Some r) = Some (shown_row r)

abbrev pub shown_handlers : Handlers → HandlerLines
shown_handlers h = record { row = map shown_row h.row.items; timer = map shown_row h.timer.items }

-- the rows behind a line, where the tables are those behind it
abbrev pub rows_behind : Option Shape → Tables → HandlerLines → HandlerLines
rows_behind None t rows = rows
rows_behind (Some s) t rows = with_row t.timer (row_of t s) rows

-- a line has a fault, or was taken
abbrev pub TakesLine : Option Shape → Tables → Tables → HandlerLines → HandlerLines → Result (Option FaultKind) NoMemory → Type 0
TakesLine s t t' rows rows' (Ok None) = (fault_some t s ≡ None) × (t' ≡ behind_some s t) × (rows' ≡ rows_behind s t' rows)
TakesLine s t t' rows rows' (Ok (Some kind)) = fault_some t s ≡ Some kind
TakesLine s t t' rows rows' (Err e) = Unit {0}

abbrev pub IsProgram : Reading → CodeProgram → Type 0
IsProgram (Faulty line kind) p = ⊥
IsProgram (Accepted program) p = shown_program p ≡ program

-- what a reader of programs answers
abbrev pub ReadsProgram : Reading → Result CodeProgram ProgFault → Type 0
ReadsProgram r (Ok p) = IsProgram r p
ReadsProgram r (Err (fault.At line kind)) = r ≡ Faulty line kind
ReadsProgram r (Err fault.NoMemory) = Unit {0}
