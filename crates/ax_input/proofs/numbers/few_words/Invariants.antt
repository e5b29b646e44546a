use Rattle.std.proofs.Common.{◌≡◌, ◌≤◌, ◌+◌, length}
use Rattle.ax_base.specs.Words.{words_of}
use Rattle.ax_input.proofs.numbers.few_words.Given as goal

abbrev pub invariant-loop-word : goal.invariant-loop-word
invariant-loop-word l = record {
  seen : length (words_of l.fn.text) ≡ l.count + length l._word-iterator;
  few : l.count ≤ 16;
}
