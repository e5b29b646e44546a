use Rattle.std.proofs.Common.{◌≡◌, drop}
use Rattle.ax_rules.specs.Parts.{index_of}
use Rattle.ax_lang.proofs.rows.place_in.Given as goal

abbrev pub invariant-loop-i : goal.invariant-loop-i
invariant-loop-i l = index_of l.i (drop l.i l.words) l.word ≡ index_of 0 l.words l.word
