use Rattle.std.proofs.Common.{◌≡◌, ◌++◌}
use Rattle.ax_base.specs.Words.{words_of}
use Rattle.ax_syntax.proofs.words.words.Given as goal

abbrev pub invariant-loop-word : goal.invariant-loop-word
invariant-loop-word l = l.words ++ l.word-iterator ≡ words_of l.fn.text
