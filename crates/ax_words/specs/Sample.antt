-- A small table with an option of each kind, and what words ask for by it.
use Rattle.std.specs.Prelude.{ℕ, Bool, List, [], ◌∷◌, Option, Some, None, codes, if◌then◌else◌}
use Rattle.ax_words.specs.Words.{Text, Rule, Nothing, Number, Word, Values, are_allowed, read_by, is_on, number_if_on, word_of}

abbrev pub quiet : Rule
quiet = record { name = codes "quiet"; takes = Nothing; default = None }

abbrev pub pace : Rule
pace = record { name = codes "pace"; takes = Word (codes "slow" ∷ codes "fast" ∷ []); default = Some (codes "slow") }

abbrev pub rows : Rule
rows = record { name = codes "rows"; takes = Number 1 100; default = None }

abbrev pub sample : List Rule
sample = quiet ∷ pace ∷ rows ∷ []

-- whether the flag is on, the word, and the number
abbrev pub Asked : Type 0
Asked = Bool × (Option Text × Option ℕ)

abbrev pub sample_with : Values → Option Asked
sample_with values = if are_allowed sample values then Some (is_on values quiet, (word_of values pace, number_if_on values rows)) else None

abbrev pub sample_of : List Text → Option Asked
sample_of words = read_by sample sample_with words
