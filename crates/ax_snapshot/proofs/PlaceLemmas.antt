-- Keys are placed as the definitions place them.
use Rattle.std.proofs.Common.{◌≡◌, refl, sym, ap, subst, ◌∙◌, ℕ, ◌+◌, ◌<◌, List, [], ◌∷◌, length, map, drop, slice_index_or}
use Rattle.std.proofs.lemmas.List.{drop_more}
use Rattle.std.specs.List.{AllByRecursion, Contains}
use Rattle.std.specs.Ordering.{nat_cmp, ordering_then, match_ordering}
use Rattle.std.specs.declared.cmp.Ordering.{Ordering}
use Rattle.std.specs.declared.cmp.Ordering.TheVariants.{Less, Equal, Greater}
use Rattle.std.specs.BTreeMap.{insert_entry}
use Rattle.std.specs.Map.{values_of}
use Rattle.ax_keys.specs.Keys.{key_cmp}
use Rattle.ax_keys.specs.Groups.{group}
use Rattle.ax_machine.specs.Entries.{Key}
use Rattle.ax_machine.specs.Blocks.{Part, block_cmp, placed, placed_from}
use Rattle.ax_snapshot.specs.Snaps.{shown_part}
use Rattle.ax_snapshot.specs.Places.{placing}
use Rattle.ax_snapshot.specs.declared.place.Place.{Place}
use Rattle.ax_snapshot.specs.declared.snapshot.KeySnap.{KeySnap}
use denote.Ref.{Bor}

-- what holds of each entry holds of each when one more is put in
module _ {K X : Type 0} (R : K → K → Ordering) (P : K × X → Type 0) (kept : (e : K × X) (k : K) (v : X) → P e → P (k, v) → P (e.0, v)) where
  all_by : (o : Ordering) (e : K × X) (es more : List (K × X)) (k : K) (v : X) → P (k, v) → P e → AllByRecursion P es → AllByRecursion P more → AllByRecursion P (match_ordering o ((k, v) ∷ e ∷ es) ((e.0, v) ∷ es) (e ∷ more))
  all_by Less e es more k v new here rest inner = (new, (here, rest))
  all_by Equal e es more k v new here rest inner = (kept e k v here new, rest)
  all_by Greater e es more k v new here rest inner = (here, inner)

  pub all_insert : (es : List (K × X)) (k : K) (v : X) → P (k, v) → AllByRecursion P es → AllByRecursion P (insert_entry R es k v)
  all_insert [] k v new all = (new, tt)
  all_insert (e ∷ es) k v new all = all_by (R k e.0) e es (insert_entry R es k v) k v new all.0 all.1 (all_insert es k v new all.1)

-- what holds of each value of the entries holds of each of the values
pub all_values : {K X : Type 0} (P : X → Type 0) (es : List (K × X)) → AllByRecursion (λ e. P e.1) es → AllByRecursion P (values_of es)
all_values P [] all = tt
all_values P (e ∷ es) all = (all.0, all_values P es all.1)

-- a place, with what its key has
abbrev pub Placing : Type 0
Placing = Place × Bor KeySnap

-- each place has the group of its key
abbrev pub HasGroup : ℕ → Placing → Type 0
HasGroup m e = e.0.group ≡ group e.0.key.now m

abbrev pub HasGroups : ℕ → List Placing → Type 0
HasGroups m es = AllByRecursion (HasGroup m) es

-- the order of places
abbrev pub place_cmp : Place → Place → Ordering
place_cmp a b = ordering_then (nat_cmp a.group b.group) (key_cmp a.key.now b.key.now)

same_order : (m : ℕ) (a b : Place) → a.group ≡ group a.key.now m → b.group ≡ group b.key.now m → place_cmp a b ≡ block_cmp m a.key.now b.key.now
same_order m a b p q =
    ap (λ n. ordering_then (nat_cmp n b.group) (key_cmp a.key.now b.key.now)) p
    ∙ ap (λ n. ordering_then (nat_cmp (group a.key.now m) n) (key_cmp a.key.now b.key.now)) q

placed_by : (o : Ordering) (new old here : Placing) (es more : List Placing) (inner : List (Key × Part)) → map placing more ≡ inner
    → map placing (match_ordering o (new ∷ old ∷ es) (here ∷ es) (old ∷ more)) ≡ match_ordering o (placing new ∷ placing old ∷ map placing es) (placing here ∷ map placing es) (placing old ∷ inner)
placed_by Less new old here es more inner h = refl
placed_by Equal new old here es more inner h = refl
placed_by Greater new old here es more inner h = ap (λ t. placing old ∷ t) h

-- where each place has the group of its key, one more goes where the definitions put it
pub placed_insert : (m : ℕ) (es : List Placing) (k : Place) (v : Bor KeySnap) → k.group ≡ group k.key.now m → HasGroups m es
    → map placing (insert_entry place_cmp es k v) ≡ insert_entry (block_cmp m) (map placing es) k.key.now (shown_part v.now)
placed_insert m [] k v own all = refl
placed_insert m (e ∷ es) k v own all =
    placed_by (place_cmp k e.0) (k, v) e (e.0, v) es (insert_entry place_cmp es k v) (insert_entry (block_cmp m) (map placing es) k.key.now (shown_part v.now)) (placed_insert m es k v own all.1)
    ∙ ap (λ o. match_ordering o ((k.key.now, shown_part v.now) ∷ map placing (e ∷ es)) ((e.0.key.now, shown_part v.now) ∷ map placing es) (placing e ∷ insert_entry (block_cmp m) (map placing es) k.key.now (shown_part v.now))) (same_order m k e.0 own all.0)

-- the first i keys are placed
pub record IsPlaced (m : ℕ) (keys : List KeySnap) (i : ℕ) (es : List Placing) : Type 0 where
  pub groups : HasGroups m es
  pub among : AllByRecursion (λ e. Contains keys e.1.now) es
  pub places : placed_from m (map placing es) (map shown_part (drop i keys)) ≡ placed m (map shown_part keys)

-- one key on
pub placed_step : (m : ℕ) (keys : List KeySnap) (i : ℕ) (old new : List Placing) (k : Place) (v : Bor KeySnap)
    → k.group ≡ group k.key.now m → k.key.now ≡ v.now.key → i < length keys → v.now ≡ slice_index_or keys i v.now → new ≡ insert_entry place_cmp old k v
    → IsPlaced m keys i old → IsPlaced m keys (i + 1) new
placed_step m keys i old new k v own same within item made p =
    let All : List Placing → Type 0 = λ es. HasGroups m es in
    let Among : List Placing → Type 0 = λ es. AllByRecursion (λ e. Contains keys e.1.now) es in
    let new_entries = insert_entry place_cmp old k v in
    let rest = map shown_part (drop (i + 1) keys) in
    let shown : map placing new ≡ insert_entry (block_cmp m) (map placing old) v.now.key (shown_part v.now) =
    ap (map placing) made ∙ placed_insert m old k v own p.groups ∙ ap (λ t. insert_entry (block_cmp m) (map placing old) t (shown_part v.now)) same in
    record {
      groups = subst All (sym made) (all_insert place_cmp (HasGroup m) (λ e k v here new. here) old k v own p.groups);
      among = subst Among (sym made) (all_insert place_cmp (λ e. Contains keys e.1.now) (λ e k v here new. new) old k v (i, within, sym item) p.among);
      places =
          ap (λ es. placed_from m es rest) shown
          ∙ ap (λ s. placed_from m (map placing old) (shown_part s ∷ rest)) item
          ∙ ap (λ ks. placed_from m (map placing old) (map shown_part ks)) (sym (drop_more keys i v.now within))
          ∙ p.places;
    }
