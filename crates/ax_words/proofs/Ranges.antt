-- What values ask for is in the ranges of the options.
use Rattle.std.proofs.Common.{◌≡◌, ◌≤◌, ◌&&◌, ℕ, ℤ, pos, negsuc, Bool, true, false, List, [], Option, Some, None, IfSome, codes, refl, sym, is_some, min, nat_le, arith, option_and_then, option_map, if◌then◌else◌, true≢false, unwrap_or}
use Rattle.std.proofs.lemmas.Bool.{leb-true}
use Rattle.ax_base.specs.Numbers.{number_of}
use Rattle.ax_words.specs.Words.{Given, Number, Rule, Text, Values, are_allowed, begins_with_hyphen, given_by, is_fine, number, number_if_on, number_in, spellings_of, value_of, within}
use Rattle.ax_words.specs.Options.{AreInRange, io_threads, max_parallelism, options, options_cut, options_of, options_with, shard_count, shards_of}

-- a number that is taken is in the range
within_range : (least greatest : ℕ) (z : Option ℤ) → IfSome (within least greatest z) (λ n. (least ≤ n) × (n ≤ greatest))
within_range least greatest None = tt
within_range least greatest (Some (negsuc n)) = tt
within_range least greatest (Some (pos n)) = go (nat_le least n) (nat_le n greatest) refl refl
  where
    go : (a b : Bool) → nat_le least n ≡ a → nat_le n greatest ≡ b → IfSome (if a && b then Some n else None) (λ n. (least ≤ n) × (n ≤ greatest))
    go false b e f = tt
    go true false e f = tt
    go true true e f = (leb-true least n e, leb-true n greatest f)

taken_in_range : (least greatest : ℕ) (value : Text) → IfSome (number_in least greatest value) (λ n. (least ≤ n) × (n ≤ greatest))
taken_in_range least greatest value = go (begins_with_hyphen value)
  where
    go : (b : Bool) → IfSome (if b then None else within least greatest (number_of value)) (λ n. (least ≤ n) × (n ≤ greatest))
    go true = tt
    go false = within_range least greatest (number_of value)

-- an option that takes a number and has this default
abbrev pub numbered : Text → ℕ → ℕ → Text → Rule
numbered name least greatest default = record { name = name; takes = Number least greatest; default = Some default }

-- it has a number exactly where it takes the value that it is given
pub is_fine_where_some : (values : Values) (name : Text) (least greatest : ℕ) (default : Text) → is_some (number_in least greatest default) ≡ true
    → is_fine (Number least greatest) (values name) ≡ is_some (number_if_on values (numbered name least greatest default))
is_fine_where_some values name least greatest default h = go (values name)
  where
    go : (v : Option Text) → is_fine (Number least greatest) v ≡ is_some (number_if_on (λ n. v) (numbered name least greatest default))
    go None = sym h
    go (Some value) = refl

number_in_range : (values : Values) (name : Text) (least greatest : ℕ) (default : Text) → is_some (number_in least greatest default) ≡ true
    → is_fine (Number least greatest) (values name) ≡ true
    → (least ≤ number values (numbered name least greatest default)) × (number values (numbered name least greatest default) ≤ greatest)
number_in_range values name least greatest default h fine = go (values name) fine
  where
    some : (n : Option ℕ) → is_some n ≡ true → IfSome n (λ n. (least ≤ n) × (n ≤ greatest)) → (least ≤ unwrap_or n 0) × (unwrap_or n 0 ≤ greatest)
    some None e r = absurd (true≢false (sym e))
    some (Some n) e r = r

    go : (v : Option Text) → is_fine (Number least greatest) v ≡ true
        → (least ≤ number (λ n. v) (numbered name least greatest default)) × (number (λ n. v) (numbered name least greatest default) ≤ greatest)
    go None e = some (number_in least greatest default) h (taken_in_range least greatest default)
    go (Some value) e = some (number_in least greatest value) e (taken_in_range least greatest value)

shards_in_range : (values : Values) (groups : ℕ) → 1 ≤ groups → (1 ≤ shard_count values groups) × (shard_count values groups ≤ 64)
shards_in_range values groups least = go (values (codes "shards"))
  where
    some : (n : Option ℕ) → IfSome n (λ n. (1 ≤ n) × (n ≤ 64)) → (1 ≤ unwrap_or n (min 8 groups)) × (unwrap_or n (min 8 groups) ≤ 64)
    some None r = (omega arith, omega arith)
    some (Some n) r = r

    go : (v : Option Text) → (1 ≤ shard_count (λ n. v) groups) × (shard_count (λ n. v) groups ≤ 64)
    go None = (omega arith, omega arith)
    go (Some value) = some (number_in 1 64 value) (taken_in_range 1 64 value)

both : (a b : Bool) → (a && b) ≡ true → (a ≡ true) × (b ≡ true)
both true b h = (refl, h)
both false b h = absurd (true≢false (sym h))

none_left : (n : ℕ) → n ≤ 0 → n ≡ 0
none_left n e = omega arith

module _ (values : Values) where
  abbrev group_count : ℕ
  group_count = number values max_parallelism

  abbrev count : ℕ
  count = shard_count values group_count

  cut_in_range : are_allowed options values ≡ true → nat_le count group_count ≡ true → AreInRange (options_cut values count)
  cut_in_range allowed fits =
      let at_groups = both (is_fine (Number 1 32768) (values (codes "max-parallelism"))) _ allowed in
      let at_flight = both (is_fine (Number 1 65536) (values (codes "in-flight"))) _ at_groups.1 in
      let at_batch = both (is_fine (Number 1 65536) (values (codes "batch"))) _ at_flight.1 in
      let at_shards = both (is_fine (Number 1 64) (values (codes "shards"))) _ at_batch.1 in
      let at_threads = both (is_fine (Number 0 0) (values (codes "io-threads"))) _ at_shards.1 in
      let group_range = number_in_range values (codes "max-parallelism") 1 32768 (codes "128") refl at_groups.0 in
      let shard_range = shards_in_range values group_count group_range.0 in
      record {
        groups = group_range;
        in_flight = number_in_range values (codes "in-flight") 1 65536 (codes "6000") refl at_flight.0;
        batch = number_in_range values (codes "batch") 1 65536 (codes "1000") refl at_batch.0;
        shards = (shard_range.0, shard_range.1, leb-true count group_count fits);
        io_threads = none_left (number values io_threads) (number_in_range values (codes "io-threads") 0 0 (codes "0") refl at_threads.0).1;
      }

  fitting_in_range : (fits : Bool) → are_allowed options values ≡ true → nat_le count group_count ≡ fits
      → IfSome (option_map (options_cut values) (if fits then Some count else None)) AreInRange
  fitting_in_range false allowed f = tt
  fitting_in_range true allowed f = cut_in_range allowed f

  allowed_in_range : (allowed : Bool) → are_allowed options values ≡ allowed
      → IfSome (if allowed then option_map (options_cut values) (shards_of values group_count) else None) AreInRange
  allowed_in_range false e = tt
  allowed_in_range true e = fitting_in_range (nat_le count group_count) e refl

  pub with_in_range : IfSome (options_with values) AreInRange
  with_in_range = allowed_in_range (are_allowed options values) refl

-- so is what words ask for
pub asked_in_range : (words : List Text) → IfSome (options_of words) AreInRange
asked_in_range words = go (given_by (spellings_of options) None [] words)
  where
    go : (r : Option Given) → IfSome (option_and_then (λ given. options_with (value_of given)) r) AreInRange
    go None = tt
    go (Some given) = with_in_range (value_of given)
