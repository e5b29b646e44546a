use Rattle.std.proofs.Common.{◌≡◌, ◌+◌, length}
use Rattle.ax_base.specs.Words.{words_of}
use Rattle.ax_input.specs.Spellings.{numbers_of}
use Rattle.ax_input.proofs.NumberLemmas.{onto}
use Rattle.ax_input.proofs.numbers.row_values.Given as goal

abbrev pub invariant-word : goal.invariant-word
invariant-word l = record {
  count : length (words_of l.fn.text) + l.missing ≡ l.fn.fields + length (words_of l.text);
  onto : onto l.numbers.items (numbers_of (words_of l.text)) ≡ numbers_of (words_of l.fn.text);
}

abbrev pub decreases-word : goal.decreases-word
decreases-word l = length l.text
