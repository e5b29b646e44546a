-- A list of distinct keys, and how it is kept: each key has a number, and the numbers rise along the list.
use Rattle.std.specs.Prelude.{◌≡◌, ℕ, ◌<◌, Bool, not, List, [], ◌∷◌, All, Option, Some, None}
use Rattle.std.specs.List.{filter, list_any, IsDistinct}
use Rattle.std.specs.Ordering.{nat_cmp}
use Rattle.std.specs.Map.{lookup, values_of}
use Rattle.std.specs.BTreeMap.{is_at}
use Rattle.ax_keys.specs.Keys.{key_cmp}

abbrev pub same_key : List ℕ → List ℕ → Bool
same_key key other = is_at (key_cmp key) other

-- whether a key is in a list
abbrev pub has_key : List (List ℕ) → List ℕ → Bool
has_key keys key = list_any (same_key key) keys

-- a list without a key
abbrev pub without : List ℕ → List (List ℕ) → List (List ℕ)
without key keys = filter (λ other. not (same_key key other)) keys

-- the first key of a list, where it has one
abbrev pub first_of : List (List ℕ) → Option (List ℕ)
first_of [] = None
first_of (key ∷ keys) = Some key

-- no key stands twice in a list
abbrev pub AreDistinct : List (List ℕ) → Type 0
AreDistinct keys = IsDistinct same_key keys

-- the keys, and the number of the next
pub record Queue : Type 0 where
  pub keys : List (List ℕ)
  pub next : ℕ

-- each key by its number, and each number by its key
pub record AreLinked (keys : List (ℕ × List ℕ)) (numbers : List (List ℕ × ℕ)) (next : ℕ) : Type 0 where
  pub below : All (λ e. e.0 < next) keys
  pub forth : All (λ e. lookup (same_key e.1) numbers ≡ Some e.0) keys
  pub back : (key : List ℕ) (number : ℕ) → lookup (same_key key) numbers ≡ Some number → lookup (is_at (nat_cmp number)) keys ≡ Some key
  pub distinct : AreDistinct (values_of keys)
