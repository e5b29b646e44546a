-- The accounts of all keys.
use Rattle.std.specs.Prelude.{◌≡◌, ◌≢◌, ℕ, ◌+◌, true, not, List, [], ◌∷◌, All, Option, unwrap_or, sum_by, if◌then◌else◌, ◌++◌, ℤ}
use Rattle.std.specs.Option.{option_map}
use Rattle.std.specs.List.Sorted.{IsStrictlySortedBy}
use Rattle.std.specs.Map.{lookup, keys_of, values_of}
use Rattle.ax_context.specs.declared.id.Id.{Id}
use Rattle.ax_account.specs.declared.part.Waiting.{Waiting}
use Rattle.ax_account.specs.declared.part.Waiting.TheVariants.{Row, Mark}
use Rattle.ax_account.specs.declared.part.Occupied.{Occupied}
use Rattle.ax_account.specs.declared.part.Occupied.TheVariants.{Owner, Waits}
use Rattle.ax_account.specs.Parts.{Part, free, is_free, may_idle, owned, waits}
use Rattle.ax_keys.specs.Keys.{key_cmp}
use Rattle.ax_account.specs.Queues.{same_key, has_key, AreDistinct}

-- the keys that are not free, rising, and what is kept of each
abbrev pub Parts : Type 0
Parts = List (List ℕ × Part)

-- beside them the idle keys, in the order in which they became idle
pub record Accounts : Type 0 where
  pub parts : Parts
  pub idle : List (List ℕ)

-- what is kept of a key
abbrev pub part_of : Accounts → List ℕ → Part
part_of accounts key = unwrap_or (lookup (same_key key) accounts.parts) free

abbrev pub owner_of : Accounts → List ℕ → Option Id
owner_of accounts key = (part_of accounts key).owner

abbrev pub waiting_of : Accounts → List ℕ → List Waiting
waiting_of accounts key = (part_of accounts key).waiting

-- the keys that are not free
abbrev pub busy_keys : Accounts → List (List ℕ)
busy_keys accounts = keys_of accounts.parts

-- a sum over all keys, of f of what is kept of each
abbrev pub total : (Part → ℕ) → Accounts → ℕ
total f accounts = sum_by f (values_of accounts.parts)

-- one key is as told, and each other as before; so a sum over all keys changes by that key's share alone
pub record Changes (old new : Accounts) (key : List ℕ) (part : Part) : Type 0 where
  pub own : part_of new key ≡ part
  pub others : (other : List ℕ) → other ≢ key → part_of new other ≡ part_of old other
  pub totals : (f : Part → ℕ) → f free ≡ 0 → total f new + f (part_of old key) ≡ total f old + f part

-- the entries after one key's was set, or taken out
pub record Sets (old new : Parts) (key : List ℕ) (part : Option Part) : Type 0 where
  pub at : (other : List ℕ) → lookup (same_key other) new ≡ (if same_key key other then part else lookup (same_key other) old)
  pub rising : IsStrictlySortedBy key_cmp (keys_of new)
  pub totals : (f : Part → ℕ) → sum_by f (values_of new) + unwrap_or (option_map f (lookup (same_key key) old)) 0 ≡ sum_by f (values_of old) + unwrap_or (option_map f part) 0

-- each idle key has no owner and a mark in front, and stands once among the idle keys; a key is listed exactly where it is not free, and the keys rise
pub record AreSound (accounts : Accounts) : Type 0 where
  pub idle : All (λ key. may_idle (part_of accounts key) ≡ true) accounts.idle
  pub distinct : AreDistinct accounts.idle
  pub busy : (key : List ℕ) → has_key (busy_keys accounts) key ≡ not (is_free (part_of accounts key))
  pub rising : IsStrictlySortedBy key_cmp (busy_keys accounts)

-- a row that comes for a key owns it where it is free, and else waits, the last of all
abbrev pub answer_to : Part → Occupied
answer_to part = if is_free part then Owner else Waits

abbrev pub occupied : Id → Part → Part
occupied id part = if is_free part then owned id else waits (Row id) part

-- a mark of this epoch and time that has not fired
abbrev pub mark : ℕ → ℤ → Waiting
mark epoch time = Mark epoch time 0

-- the idle keys after a mark came for a key with this part
abbrev pub idle_with : List ℕ → Part → List (List ℕ) → List (List ℕ)
idle_with key part idle = if is_free part then idle ++ key ∷ [] else idle
