-- A sink that gathers.
use Rattle.std.specs.Prelude.{◌≡◌, ℕ, List, ◌++◌, length, take, Option, Some, None}
use Rattle.std.specs.Io.KnownBytes.{Appends}

-- as many of the bytes known now as were known then
abbrev pub front_as : Option (List ℕ) → Option (List ℕ) → Option (List ℕ)
front_as None now = None
front_as (Some then) None = None
front_as (Some then) (Some now) = Some (take (length then) now)

-- known bytes begin with those that were known then
abbrev pub Begins : Option (List ℕ) → Option (List ℕ) → Type 0
Begins then now = front_as then now ≡ then

-- bytes went from the front of what was gathered to the end of the known bytes
abbrev pub Moves : Option (List ℕ) → Option (List ℕ) → List ℕ → List ℕ → Type 0
Moves old new held held' = (sent : List ℕ) × (held ≡ sent ++ held') × Appends old new sent

-- known bytes grew at their end, if at all
abbrev pub Extends : Option (List ℕ) → Option (List ℕ) → Type 0
Extends old new = (sent : List ℕ) × Appends old new sent
