use Rattle.std.proofs.Common.{◌≡◌}
use Rattle.ax_base.specs.Words.{words_of}
use Rattle.ax_input.specs.Spellings.{numbers_of}
use Rattle.ax_input.proofs.NumberLemmas.{onto}
use Rattle.ax_input.proofs.numbers.numbers.Given as goal

abbrev pub invariant-loop-word : goal.invariant-loop-word
invariant-loop-word l = onto l.numbers.items (numbers_of l.word-iterator) ≡ numbers_of (words_of l.fn.text)
