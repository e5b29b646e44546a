use Rattle.std.proofs.Common.{◌≡◌, take, drop}
use Rattle.ax_syntax.specs.Shapes.{parts_of}
use Rattle.ax_syntax.proofs.PartLemmas.{onto_part}
use Rattle.ax_syntax.proofs.shape.first_part.Given as goal

abbrev pub invariant-loop-i : goal.invariant-loop-i
invariant-loop-i l = onto_part (take l.i l.words) (parts_of (drop l.i l.words)) ≡ parts_of l.words
