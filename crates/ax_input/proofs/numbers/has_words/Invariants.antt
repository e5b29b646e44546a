use Rattle.std.proofs.Common.{◌≡◌, ◌+◌, length}
use Rattle.ax_base.specs.Words.{words_of}
use Rattle.ax_input.proofs.numbers.has_words.Given as goal

abbrev pub invariant-loop-word : goal.invariant-loop-word
invariant-loop-word l = length (words_of l.fn.text) + l.missing ≡ l.fn.count + length l._word-iterator
