-- The timers of all keys, as a list by key and then time.
use Rattle.std.specs.Prelude.{◌≡◌, ℕ, ℤ, ◌≤ℤ◌, false, List, [], ◌∷◌, if◌then◌else◌}
use Rattle.std.specs.List.{Contains}
use Rattle.std.specs.Str.{bytes_eq}
use Rattle.std.specs.Ordering.{int_cmp, ordering_then, is_lt}
use Rattle.std.specs.declared.cmp.Ordering.{Ordering}
use Rattle.std.specs.declared.cmp.Ordering.TheVariants.{Less}
use Rattle.ax_keys.specs.Keys.{key_cmp}
use Rattle.ax_time.specs.declared.timer.Timer.{Timer}

abbrev pub timer : List ℕ → ℤ → Timer
timer key time = record { key = key; time = time }

-- the times of one key
abbrev pub times_of : List Timer → List ℕ → List ℤ
times_of [] key = []
times_of (t ∷ ts) key = if bytes_eq t.key key then t.time ∷ times_of ts key else times_of ts key

-- the key has these times now, and each other key those that it had
abbrev pub PutsTimes : List Timer → List Timer → List ℕ → List ℤ → Type 0
PutsTimes old new key times = (q : List ℕ) → times_of new q ≡ (if bytes_eq key q then times else times_of old q)

-- timers compared by key, and then by time
abbrev pub listed_cmp : Timer → Timer → Ordering
listed_cmp a b = ordering_then (key_cmp a.key b.key) (int_cmp a.time b.time)
