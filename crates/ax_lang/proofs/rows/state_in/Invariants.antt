use Rattle.std.proofs.Common.{◌≡◌, drop}
use Rattle.ax_rules.specs.Lines.{names_of}
use Rattle.ax_rules.specs.Parts.{index_of}
use Rattle.ax_lang.proofs.rows.state_in.Given as goal

abbrev pub invariant-loop-i : goal.invariant-loop-i
invariant-loop-i l = index_of l.i (names_of (drop l.i l.states)) l.word ≡ index_of 0 (names_of l.states) l.word
