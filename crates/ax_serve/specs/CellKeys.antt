-- The keys under which a store has the cells of states, and what they stand for.
use Rattle.std.specs.Prelude.{◌≡◌, ℕ, ◌<◌, ◌^◌, ℤ, List, [], ◌∷◌, ◌++◌, true, bit_xor, Option, Some, None, IfSome}
use Rattle.std.specs.Int.{w16, w64, to_be_bytes, cast_unsigned}
use Rattle.std.specs.Int.RustNames.{FitsSigned}
use Rattle.std.specs.Ordering.{nat_cmp, int_cmp, ordering_then}
use Rattle.std.specs.Option.{option_cmp}
use Rattle.std.specs.declared.cmp.Ordering.{Ordering}
use Rattle.ax_keys.specs.Keys.{is_key, key_cmp}
use Rattle.ax_keys.specs.Groups.{group}

-- the 64 bits of a number with the highest one turned
abbrev pub turned : ℤ → ℕ
turned n = bit_xor (cast_unsigned w64 n) (2 ^ 63)

-- the key of an entry of a map, and nothing where the state is none
abbrev pub entry_bytes : Option ℤ → List ℕ
entry_bytes None = []
entry_bytes (Some n) = to_be_bytes w64 (turned n)

-- the group of the key among m, the bytes of the key, a byte 0, the number of the state, the entry
abbrev pub cell_key : ℕ → List ℕ → ℕ → Option ℤ → List ℕ
cell_key m key state at = to_be_bytes w16 (group key m) ++ (key ++ 0 ∷ (to_be_bytes w16 state ++ entry_bytes at))

-- what a cell is of: a key, the number of a state, and for a map the key of an entry
pub record Place : Type 0 where
  pub key : List ℕ
  pub state : ℕ
  pub at : Option ℤ

pub record IsPlace (p : Place) : Type 0 where
  pub key : is_key p.key ≡ true
  pub state : p.state < 2 ^ 16
  pub at : IfSome p.at (FitsSigned w64)

abbrev pub key_of : ℕ → Place → List ℕ
key_of m p = cell_key m p.key p.state p.at

-- by the group of the key among m, by key, by state, and by entry
abbrev pub place_cmp : ℕ → Place → Place → Ordering
place_cmp m p q =
    ordering_then (nat_cmp (group p.key m) (group q.key m)) (ordering_then (key_cmp p.key q.key) (ordering_then (nat_cmp p.state q.state) (option_cmp int_cmp p.at q.at)))
