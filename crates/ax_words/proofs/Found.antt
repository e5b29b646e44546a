-- What values ask for, by the numbers that are found one after another.
use Rattle.std.proofs.Common.{◌≡◌, ◌∙◌, ◌&&◌, ℕ, Bool, true, false, Option, Some, None, codes, ap, subst, sym, refl, is_some, option_map, if◌then◌else◌, unwrap_or}
use Rattle.ax_words.specs.declared.options.Options.{Options}
use Rattle.ax_words.specs.Words.{Number, Text, Values, is_fine, number, number_if_on, number_in}
use Rattle.ax_words.specs.Options.{batch, in_flight, io_threads, max_parallelism, options_cut, options_with, shards_of}
use Rattle.ax_words.proofs.Ranges.{is_fine_where_some, numbered}

abbrev asked : Bool → Bool → Bool → Bool → Bool → Option ℕ → (ℕ → Options) → Option Options
asked a b c d e count cut = if a && (b && (c && (d && (e && true)))) then option_map cut count else None

none_by_shards : (d e : Bool) (count : Option ℕ) (cut : ℕ → Options) → (if d then count else None) ≡ None → asked true true true d e count cut ≡ None
none_by_shards false e count cut h = refl
none_by_shards true false count cut h = refl
none_by_shards true true count cut h = ap (option_map cut) h

none_by_threads : (d : Bool) (count : Option ℕ) (cut : ℕ → Options) → asked true true true d false count cut ≡ None
none_by_threads false count cut = refl
none_by_threads true count cut = refl

all_found : (d : Bool) (count : Option ℕ) (cut : ℕ → Options) (n : ℕ) → (if d then count else None) ≡ Some n → asked true true true d true count cut ≡ Some (cut n)
all_found false count cut n h = cc
all_found true count cut n h = ap (option_map cut) h

module _ (values : Values) where
  -- an option whose number is found takes the value that it is given
  takes_it : (name : Text) (least greatest : ℕ) (default : Text) (n : ℕ) → is_some (number_in least greatest default) ≡ true
      → number_if_on values (numbered name least greatest default) ≡ Some n → is_fine (Number least greatest) (values name) ≡ true
  takes_it name least greatest default n h e = is_fine_where_some values name least greatest default h ∙ ap is_some e

  module _ (groups flight most : ℕ) (g : number_if_on values max_parallelism ≡ Some groups) (f : number_if_on values in_flight ≡ Some flight)
      (b : number_if_on values batch ≡ Some most) where
    takes_groups : is_fine (Number 1 32768) (values (codes "max-parallelism")) ≡ true
    takes_groups = takes_it (codes "max-parallelism") 1 32768 (codes "128") groups refl g

    takes_flight : is_fine (Number 1 65536) (values (codes "in-flight")) ≡ true
    takes_flight = takes_it (codes "in-flight") 1 65536 (codes "6000") flight refl f

    takes_batch : is_fine (Number 1 65536) (values (codes "batch")) ≡ true
    takes_batch = takes_it (codes "batch") 1 65536 (codes "1000") most refl b

    groups_are : number values max_parallelism ≡ groups
    groups_are = ap (λ n. unwrap_or n 0) g

    abbrev cut_by : ℕ → Option ℕ
    cut_by m = if is_fine (Number 1 64) (values (codes "shards")) then shards_of values m else None

    pub no_shards : cut_by groups ≡ None → options_with values ≡ None
    no_shards h = rw (takes_groups, takes_flight, takes_batch)
        (none_by_shards (is_fine (Number 1 64) (values (codes "shards"))) (is_fine (Number 0 0) (values (codes "io-threads")))
        (shards_of values (number values max_parallelism)) (options_cut values) (subst (λ m. cut_by m ≡ None) (sym groups_are) h))

    pub no_threads : number_if_on values io_threads ≡ None → options_with values ≡ None
    no_threads t =
        let refused : is_fine (Number 0 0) (values (codes "io-threads")) ≡ false
        = is_fine_where_some values (codes "io-threads") 0 0 (codes "0") refl ∙ ap is_some t in
        rw (takes_groups, takes_flight, takes_batch, refused)
        (none_by_threads (is_fine (Number 1 64) (values (codes "shards"))) (shards_of values (number values max_parallelism)) (options_cut values))

    pub found : (count threads : ℕ) → cut_by groups ≡ Some count → number_if_on values io_threads ≡ Some threads
        → options_with values ≡ Some (record { max_parallelism = groups; in_flight = flight; batch = most; shards = count; io_threads = threads })
    found count threads s t =
        let takes_threads : is_fine (Number 0 0) (values (codes "io-threads")) ≡ true = takes_it (codes "io-threads") 0 0 (codes "0") threads refl t in
        let whole : options_with values ≡ Some (options_cut values count) = rw (takes_groups, takes_flight, takes_batch, takes_threads)
        (all_found (is_fine (Number 1 64) (values (codes "shards"))) (shards_of values (number values max_parallelism)) (options_cut values) count
        (subst (λ m. cut_by m ≡ Some count) (sym groups_are) s)) in
        whole ∙ (λ i. Some (record { max_parallelism = unwrap_or (g i) 0; in_flight = unwrap_or (f i) 0; batch = unwrap_or (b i) 0; shards = count; io_threads = unwrap_or (t i) 0 }))
