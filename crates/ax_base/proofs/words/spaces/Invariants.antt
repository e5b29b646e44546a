use Rattle.std.proofs.Common.{◌≡◌, drop}
use Rattle.ax_base.specs.Words.{words_of}
use Rattle.ax_base.proofs.words.spaces.Given as goal

abbrev pub invariant-loop-i : goal.invariant-loop-i
invariant-loop-i l = words_of (drop l.i l.text) ≡ words_of l.text
