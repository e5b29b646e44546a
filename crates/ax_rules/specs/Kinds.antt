-- The numbers that the kinds of faults are told by.
use Rattle.std.specs.Prelude.{ℕ}
use Rattle.ax_rules.specs.declared.kinds.FaultKind.{FaultKind}
use Rattle.ax_rules.specs.declared.kinds.FaultKind.TheVariants as fault

abbrev pub kind_number : FaultKind → ℕ
kind_number fault.Word = 1
kind_number fault.UnknownName = 2
kind_number fault.Twice = 3
kind_number fault.Kind = 4
kind_number fault.Conflict = 5
kind_number fault.InArm = 6
kind_number fault.TooDeep = 7
kind_number fault.TooMany = 8
kind_number fault.TooWide = 9
kind_number fault.NoEnd = 10
