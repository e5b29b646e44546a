-- How the timers are kept: the number and the times of each key, the key of each number, and all timers by time.
use Rattle.std.specs.Prelude.{◌≡◌, ℕ, ℤ, Bool, false, cond, List, [], ◌∷◌, ◌++◌, map, Option, None, Some}
use Rattle.std.specs.List.{list_any, slice_get}
use Rattle.std.specs.Ordering.{int_cmp, nat_cmp, ordering_then}
use Rattle.std.specs.declared.cmp.Ordering.{Ordering}
use Rattle.std.specs.BTreeMap.{BTreeMap, get, is_at}
use Rattle.std.specs.BTreeMap as tree
use Rattle.std.specs.BTreeSet.{BTreeSet, contains}
use Rattle.std.specs.BTreeSet as sorted
use Rattle.ax_keys.specs.Keys.{key_cmp}
use Rattle.ax_time.specs.declared.held.Held.{Held}
use Rattle.ax_time.specs.declared.timer.Timer.{Timer}
use Rattle.ax_time.specs.declared.kept.Kept.{Kept}
use Rattle.ax_time.specs.Timers.{timer}

-- what is held of the keys that ever had a timer
abbrev pub ByKey : Type 0
ByKey = BTreeMap (List ℕ) Held

-- a time, and the number of a key
abbrev pub Due : Type 0
Due = ℤ × ℕ

abbrev pub due_order : Due → Due → Ordering
due_order a b = ordering_then (int_cmp a.0 b.0) (nat_cmp a.1 b.1)

-- the timer of a number at a time is there or not, and each other timer is there where it was
abbrev pub Makes : Bool → ℤ → ℕ → BTreeSet Due → BTreeSet Due → Type 0
Makes there time number old new = (q : Due) → contains due_order new q ≡ cond (is_at (due_order (time, number)) q) there (contains due_order old q)

-- a time is there or not, and each other time is there where it was
abbrev pub MakesTime : Bool → ℤ → BTreeSet ℤ → BTreeSet ℤ → Type 0
MakesTime there time old new = (x : ℤ) → contains int_cmp new x ≡ cond (is_at (int_cmp time) x) there (contains int_cmp old x)

-- the times of a key; one that never had a timer has none
abbrev pub times_or : Option Held → List ℤ
times_or None = []
times_or (Some held) = held.times.keys

abbrev pub kept_times : ByKey → List ℕ → List ℤ
kept_times by_key key = times_or (get key_cmp by_key key)

abbrev pub number_or : Option Held → Option ℕ
number_or None = None
number_or (Some held) = Some held.number

abbrev pub Rises : Option Held → Type 0
Rises None = Unit {0}
Rises (Some held) = sorted.IsOrdered int_cmp held.times

-- whether a key has a timer at a time; no key has none
abbrev pub has_at : ByKey → Option (List ℕ) → ℤ → Bool
has_at by_key None time = false
has_at by_key (Some key) time = list_any (is_at (int_cmp time)) (kept_times by_key key)

-- whether a number is that of a key
abbrev pub is_named : List ℕ → Option (List ℕ) → Bool
is_named key None = false
is_named key (Some other) = is_at (key_cmp key) other

abbrev pub names : List (List ℕ) → List ℕ → ℕ → Bool
names named key number = is_named key (slice_get named number)

-- the timers of one key, and of all
abbrev pub timers_at : List ℕ → List ℤ → List Timer
timers_at key times = map (timer key) times

abbrev pub listed : List (List ℕ × Held) → List Timer
listed [] = []
listed (e ∷ es) = timers_at e.0 e.1.times.keys ++ listed es

abbrev pub shown_timers : Kept → List Timer
shown_timers kept = listed kept.by_key.entries

-- keys and numbers belong together, and both orders have the same timers
pub record Agree (kept : Kept) : Type 0 where
  pub ordered : tree.IsOrdered key_cmp kept.by_key
  pub rising : (key : List ℕ) → Rises (get key_cmp kept.by_key key)
  pub named : (key : List ℕ) (number : ℕ) → number_or (get key_cmp kept.by_key key) ≡ Some number → slice_get kept.named.items number ≡ Some key
  pub numbered : (key : List ℕ) (number : ℕ) → slice_get kept.named.items number ≡ Some key → number_or (get key_cmp kept.by_key key) ≡ Some number
  pub same : (time : ℤ) (number : ℕ) → contains due_order kept.by_time (time, number) ≡ has_at kept.by_key (slice_get kept.named.items number) time
