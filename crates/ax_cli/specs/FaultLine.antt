-- The line that tells how a run ended.
use Rattle.std.specs.Prelude.{◌≡◌, ℕ, List, [], ◌++◌, ◌⊎◌, codes, decimal}
use Rattle.std.specs.Io.KnownBytes.{Appends}
use Rattle.ax_base.specs.Outside.{RoseByOne, Counts, AppendsPart}
use Rattle.ax_task.specs.Clause.{Holds}
use Rattle.ax_cli.specs.declared.status.Status.{Status}
use Rattle.ax_cli.specs.declared.status.Status.TheVariants as status

-- `ax: line LINE: WHAT fault KIND`
abbrev pub numbered_line : ℕ → List ℕ → ℕ → List ℕ
numbered_line line what kind = codes "ax: line " ++ decimal line ++ codes ": " ++ what ++ codes " fault " ++ decimal kind ++ codes "\n"

-- the line of each status; a run that ended well has none
abbrev pub line_of : Status → List ℕ
line_of status.Ok = []
line_of status.NoMemory = codes "ax: out of memory\n"
line_of status.Usage = codes "ax: usage\n"
line_of (status.Program line kind) = numbered_line line (codes "program") kind
line_of (status.Input line kind) = numbered_line line (codes "input") kind
line_of status.Read = codes "ax: read fault\n"
line_of status.Write = codes "ax: write fault\n"

-- one of a sink's counts rose by one, and the other stayed
abbrev pub OneRose : Counts → Counts → Type 0
OneRose old new = (RoseByOne old.faults new.faults × (new.short ≡ old.short)) ⊎ ((new.faults ≡ old.faults) × RoseByOne old.short new.short)

-- a sink took the line and counted nothing, or took a proper prefix of it and counted one fault
abbrev pub WritesLine : Holds → Counts → Counts → List ℕ → Type 0
WritesLine err old new line = (Appends err.old err.new line × (new ≡ old)) ⊎ (AppendsPart err.old err.new line × OneRose old new)
