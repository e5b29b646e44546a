-- The entries of a layer.
use Rattle.std.specs.Prelude.{ℕ, Bool, List, [], ◌∷◌, true, false, Option, Some, None, Vec, map}
use Rattle.std.specs.Global.{Global}
use Rattle.std.specs.Ordering.{is_lt, match_ordering}
use Rattle.std.specs.List.{filter}
use Rattle.std.specs.List.Sorted.{IsStrictlySortedBy}
use Rattle.std.specs.Map.{lookup}
use Rattle.std.specs.BTreeMap.{is_at}
use Rattle.ax_store.specs.declared.change.Change.{Change}
use Rattle.ax_store.specs.declared.change.Change.TheVariants.{Put, Delete}
use Rattle.ax_store.specs.Held.{Text, bytes_cmp, begins}

-- keys, and what is said of each
abbrev pub Layer : Type 0
Layer = List (Text × Change)

-- the keys strictly rise
abbrev pub IsRising : Layer → Type 0
IsRising layer = IsStrictlySortedBy bytes_cmp (map (λ e. e.0) layer)

-- what a layer says of a key
abbrev pub entry_at : Layer → Text → Option Change
entry_at layer key = lookup (is_at (bytes_cmp key)) layer

-- what the newer of two layers says, and where it says nothing what the older one does
abbrev pub or_below : Option Change → Option Change → Option Change
or_below (Some c) below = Some c
or_below None below = below

-- the entries of which the keys begin with a prefix
abbrev pub part : Text → Layer → Layer
part prefix layer = filter (λ e. begins prefix e.0) layer

-- what a copy has of what is said of a key: all of it, or no more than whether it is a value
abbrev pub seen : Bool → Change → Change
seen true c = c
seen false (Put value) = Put []
seen false Delete = Delete

-- a layer as copies have it
abbrev pub seen_all : Bool → Layer → Layer
seen_all values layer = map (λ e. (e.0, seen values e.1)) layer

-- whether a key comes before a prefix
abbrev pub is_before : Text → Text × Change → Bool
is_before prefix e = is_lt (bytes_cmp e.0 prefix)

-- an entry over what `rest` makes of the older ones
abbrev pub into : Text × Change → (Layer → Layer) → Layer → Layer
into x rest [] = x ∷ rest []
into x rest (y ∷ ys) = match_ordering (bytes_cmp x.0 y.0) (x ∷ rest (y ∷ ys)) (x ∷ rest ys) (y ∷ into x rest ys)

-- the entries of two layers by their keys; at a key of both, the newer one
abbrev pub merged : Layer → Layer → Layer
merged [] older = older
merged (x ∷ newer) older = into x (merged newer) older

-- whether an entry is a value
abbrev pub is_put : Text × Change → Bool
is_put (key, Put value) = true
is_put (key, Delete) = false

-- the values that entries over nothing give
abbrev pub live : Layer → List (Text × Text)
live [] = []
live ((key, Put value) ∷ es) = (key, value) ∷ live es
live ((key, Delete) ∷ es) = live es

-- a delete of the key of each value
abbrev pub deletes : List (Text × Text) → Layer
deletes cells = map (λ c. (c.0, Delete)) cells

-- the entries of a map whose keys lie in vectors
abbrev pub texts : List (Vec ℕ Global × Change) → Layer
texts es = map (λ e. (e.0.items, e.1)) es
