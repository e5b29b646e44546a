-- Functions from numbers, changed at one place.
use Rattle.std.specs.Prelude.{ℕ, List, nat_eq, if◌then◌else◌}
use Rattle.std.specs.List.{slice_index_or}

abbrev pub upd : {A : Type 0} → (ℕ → A) → ℕ → A → ℕ → A
upd f i x j = if nat_eq i j then x else f j

-- a list as a function, with one value past its end
abbrev pub at : {A : Type 0} → List A → A → ℕ → A
at xs x i = slice_index_or xs i x
