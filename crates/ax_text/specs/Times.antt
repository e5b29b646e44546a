-- The times at which the timers of one key are due, rising.
use Rattle.std.specs.Prelude.{ℤ, ◌≤ℤ◌, List, [], ◌∷◌, Option, None, Some, not}
use Rattle.std.specs.List.{filter, Contains}
use Rattle.std.specs.Ordering.{int_cmp, int_eq, match_ordering}

-- a time put among rising times, where it stands once
abbrev pub insert_time : ℤ → List ℤ → List ℤ
insert_time t [] = t ∷ []
insert_time t (x ∷ xs) = match_ordering (int_cmp t x) (t ∷ x ∷ xs) (x ∷ xs) (x ∷ insert_time t xs)

-- the times other than this one
abbrev pub remove_time : ℤ → List ℤ → List ℤ
remove_time t times = filter (λ x. not (int_eq t x)) times

abbrev pub least_time : List ℤ → Option ℤ
least_time [] = None
least_time (t ∷ ts) = Some t

abbrev pub later_times : List ℤ → List ℤ
later_times [] = []
later_times (t ∷ ts) = ts

-- one of the times has come
abbrev pub HasDue : ℤ → List ℤ → Type 0
HasDue w times = (t : ℤ) × Contains times t × (t ≤ℤ w)
