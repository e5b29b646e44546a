-- The options of the program, and what the words of a command line ask for.
use Rattle.std.specs.Prelude.{◌≡◌, ◌≤◌, ℕ, List, [], ◌∷◌, Option, Some, None, codes, map, min, nat_le, option_map, unwrap_or, if◌then◌else◌}
use Rattle.std.specs.Borrow.{Bor}
use Rattle.ax_words.specs.Words.{Text, Rule, Number, Values, are_allowed, read_by, number, number_if_on}
use Rattle.ax_words.specs.declared.options.Options.{Options}

abbrev pub max_parallelism : Rule
max_parallelism = record { name = codes "max-parallelism"; takes = Number 1 32768; default = Some (codes "128") }

abbrev pub in_flight : Rule
in_flight = record { name = codes "in-flight"; takes = Number 1 65536; default = Some (codes "6000") }

abbrev pub batch : Rule
batch = record { name = codes "batch"; takes = Number 1 65536; default = Some (codes "1000") }

-- its default follows from the number of key groups
abbrev pub shards : Rule
shards = record { name = codes "shards"; takes = Number 1 64; default = None }

-- threads are not built yet
abbrev pub io_threads : Rule
io_threads = record { name = codes "io-threads"; takes = Number 0 0; default = Some (codes "0") }

-- all options
abbrev pub options : List Rule
options = max_parallelism ∷ in_flight ∷ batch ∷ shards ∷ io_threads ∷ []

-- how many shards there are with so many key groups: where it isn't given, the lesser of 8 and that
abbrev pub shard_count : Values → ℕ → ℕ
shard_count values groups = unwrap_or (number_if_on values shards) (min 8 groups)

-- the same, where each shard can have a group
abbrev pub shards_of : Values → ℕ → Option ℕ
shards_of values groups = if nat_le (shard_count values groups) groups then Some (shard_count values groups) else None

-- what these values ask for, with so many shards
abbrev pub options_cut : Values → ℕ → Options
options_cut values count = record {
  max_parallelism = number values max_parallelism;
  in_flight = number values in_flight;
  batch = number values batch;
  shards = count;
  io_threads = number values io_threads;
}

-- what these values ask for, where each option may have the one that it is given
abbrev pub options_with : Values → Option Options
options_with values =
    if are_allowed options values then option_map (options_cut values) (shards_of values (number values max_parallelism)) else None

-- what the words ask for, where they are accepted
abbrev pub options_of : List Text → Option Options
options_of words = read_by options options_with words

-- the texts of some words
abbrev pub texts : List (Bor Text) → List Text
texts words = map (λ w. w.now) words

-- each option is in its range
pub record AreInRange (o : Options) : Type 0 where
  pub groups : (1 ≤ o.max_parallelism) × (o.max_parallelism ≤ 32768)
  pub in_flight : (1 ≤ o.in_flight) × (o.in_flight ≤ 65536)
  pub batch : (1 ≤ o.batch) × (o.batch ≤ 65536)
  pub shards : (1 ≤ o.shards) × (o.shards ≤ 64) × (o.shards ≤ o.max_parallelism)
  pub io_threads : o.io_threads ≡ 0
