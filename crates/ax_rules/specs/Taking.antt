-- What the code does with its tables: they are those of the lines before, and become those of one line more.
use Rattle.std.specs.Prelude.{◌≡◌, ◌+◌, max, length, false, Option, None, Some, Result, Ok, Err, if◌then◌else◌}
use Rattle.ax_base.specs.declared.outside.NoMemory.{NoMemory}
use Rattle.ax_syntax.specs.Shapes.{Shape}
use Rattle.ax_rules.specs.declared.kinds.FaultKind.{FaultKind}
use Rattle.ax_rules.specs.declared.kinds.FaultKind.TheVariants as fault
use Rattle.ax_rules.specs.declared.tables.Tables.{Tables}
use Rattle.ax_rules.specs.Parts.{is_statement}
use Rattle.ax_rules.specs.Frames.{frames_with, widest_with}
use Rattle.ax_rules.specs.Lines.{fields_with, states_with, row_with, timer_with, locals_with}
use Rattle.ax_rules.specs.Faults.{is_too_many, print_in, block_fault, fault_in}

-- a fault that needs no look at the open blocks, or none of these
abbrev pub IsPlain : Tables → Shape → Option FaultKind → Type 0
IsPlain t s None = (fault_in t s ≡ block_fault (print_in t s) s t.frames) × (is_too_many t s ≡ false)
IsPlain t s (Some kind) = fault_in t s ≡ Some kind

-- the tables behind a line, from those before it
unfoldable pub behind : Shape → Tables → Tables
behind s t = record {
  fields = fields_with s t.fields;
  states = states_with s t.states;
  row = row_with s t.row;
  timer = timer_with s t.timer;
  locals = locals_with s t.locals;
  statements = if is_statement s then t.statements + 1 else t.statements;
  frames = frames_with s (print_in t s) t.frames;
  widest = widest_with s t.frames t.widest;
  most = max t.most (length (locals_with s t.locals));
}

-- a line that has no shape is faulty
abbrev pub fault_some : Tables → Option Shape → Option FaultKind
fault_some t None = Some fault.Word
fault_some t (Some s) = fault_in t s

abbrev pub behind_some : Option Shape → Tables → Tables
behind_some None t = t
behind_some (Some s) t = behind s t

-- a line of this shape has a fault, or was taken
abbrev pub Steps : Tables → Option Shape → Tables → Result (Option FaultKind) NoMemory → Type 0
Steps t s t' (Ok None) = (fault_some t s ≡ None) × (t' ≡ behind_some s t)
Steps t s t' (Ok (Some kind)) = fault_some t s ≡ Some kind
Steps t s t' (Err e) = Unit {0}
