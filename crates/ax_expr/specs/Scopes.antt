-- What a scope of the code says.
use Rattle.std.specs.Prelude.{pos}
use Rattle.std.specs.List.{slice_index_or}
use Rattle.ax_text.specs.Exprs.{Facts, Names}
use Rattle.ax_expr.specs.declared.value.Scope.{Scope}

abbrev pub shown_facts : Scope → Facts
shown_facts scope = record { time = scope.time; wm = scope.wm; values = scope.values.now }

-- a name that has no number yet counts as 0
abbrev pub shown_names : Scope → Names
shown_names scope = λ i. slice_index_or scope.names.now i (pos 0)
