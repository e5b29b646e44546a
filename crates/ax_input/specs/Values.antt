-- What the words behind the time of a row are.
use Rattle.std.specs.Prelude.{◌≡◌, ℕ, List, length, false, ◌==◌, Some, None, Result, Ok, Err}
use Rattle.ax_base.specs.declared.outside.NoMemory.{NoMemory}
use Rattle.ax_syntax.specs.Words.{Word}
use Rattle.ax_input.specs.Spellings.{numbers_of}
use Rattle.ax_input.specs.declared.numbers.RowValues.{RowValues}
use Rattle.ax_input.specs.declared.numbers.RowValues.TheVariants as values

-- a row has so many values: these words are as many numbers, or as many words that are not all numbers, or another number of words
abbrev pub ReadsValues : ℕ → List Word → Result RowValues NoMemory → Type 0
ReadsValues fields words (Ok (values.Are ns)) = (length words ≡ fields) × (numbers_of words ≡ Some ns)
ReadsValues fields words (Ok values.NoNumber) = (length words ≡ fields) × (numbers_of words ≡ None)
ReadsValues fields words (Ok values.OtherCount) = (length words == fields) ≡ false
ReadsValues fields words (Err e) = Unit {0}

-- a word before these was no number, and so many words are to come
abbrev pub IsWithout : ℕ → List Word → RowValues → Type 0
IsWithout missing words (values.Are ns) = ⊥
IsWithout missing words values.NoNumber = length words ≡ missing
IsWithout missing words values.OtherCount = (length words == missing) ≡ false
