-- The order of firings at a watermark: each key's own firings, merged by time and then key.
use Rattle.std.specs.Prelude.{ℕ, zero, suc, ℤ, List, [], ◌∷◌, ◌++◌, length, if◌then◌else◌, Option, Some, None}
use Rattle.std.specs.Str.{bytes_eq}
use Rattle.ax_text.specs.KeyStates.{KeyState}
use Rattle.ax_text.specs.Programs.{Program}
use Rattle.ax_text.specs.Jobs.{Group}
use Rattle.ax_machine.specs.Entries.{Key, Entry, says}
use Rattle.ax_machine.specs.Firings.{Due, earlier, most_firings}
use Rattle.ax_machine.specs.KeySync.{key_fires}
use Rattle.ax_execution.specs.Sums.{total}

-- the firings of each key, in order; a key's own times need not rise
abbrev pub Firings : Type 0
Firings = Key → List Group

-- the first firing of a key: its time and its key
abbrev pub first_firing : Key → List Group → Option Due
first_firing k [] = None
first_firing k (g ∷ gs) = Some (record { time = g.job.facts.time; key = k })

-- the one with the least time and then key, among the first of each of these keys
abbrev pub least_firing : List Key → Firings → Option Due
least_firing [] fs = None
least_firing (k ∷ ks) fs = earlier (first_firing k (fs k)) (least_firing ks fs)

abbrev pub first_lines : List Group → List (List ℤ)
first_lines [] = []
first_lines (g ∷ gs) = g.lines

abbrev pub behind_first : List Group → List Group
behind_first [] = []
behind_first (g ∷ gs) = gs

-- one key's firings without the first
abbrev pub without_first : Firings → Key → Firings
without_first fs k q = if bytes_eq k q then behind_first (fs q) else fs q

abbrev pub merge_on : (Firings → List Entry) → Option Due → Firings → List Entry
merge_on go None fs = []
merge_on go (Some d) fs = says d.key (first_lines (fs d.key)) ++ go (without_first fs d.key)

-- as long as a key has firings, the least first one is taken off; at most so many in all
abbrev pub merged : ℕ → List Key → Firings → List Entry
merged zero ks fs = []
merged (suc most) ks fs = merge_on (merged most ks) (least_firing ks fs) fs

-- the lines of all firings of these keys
abbrev pub merge : List Key → Firings → List Entry
merge ks fs = merged (total ks (λ k. length (fs k))) ks fs

-- what a key in a state fires at a watermark, by itself
abbrev pub firings_at : Program → ℤ → KeyState → List Group
firings_at p w state = (key_fires p w most_firings (record { state = state; groups = [] })).groups
