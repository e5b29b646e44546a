-- Entries whose keys lie in vectors, as a layer.
use Rattle.std.proofs.Common.{◌≡◌, ◌∙◌, ℕ, ◌+◌, ◌≤◌, Bool, true, false, ◌&&◌, cond, List, [], ◌∷◌, Some, refl, sym, ap, arith, map, length, Vec, Global}
use Rattle.std.specs.Ordering.{is_lt, is_le, is_eq, match_ordering, ordering_reverse}
use Rattle.std.specs.declared.cmp.Ordering.{Ordering}
use Rattle.std.specs.declared.cmp.Ordering.TheVariants.{Less, Equal, Greater}
use Rattle.std.specs.Cmp.Lexicographic.{nat_list_cmp_total}
use Rattle.std.specs.FinMap.Entries.{put, find-put, by_order}
use Rattle.std.specs.List.{All, AllByRecursion, filter}
use Rattle.std.proofs.lemmas.List.Elements.{All-cons, All-nil}
use Rattle.std.specs.List.Sorted.{IsStrictlySortedBy}
use Rattle.std.specs.Map.{lookup}
use Rattle.std.specs.BTreeMap.{is_at, insert_entry}
use Rattle.ax_store.specs.declared.change.Change.{Change}
use Rattle.ax_store.specs.Held.{Text, bytes_cmp, begins}
use Rattle.ax_store.specs.Entries.{Layer, IsRising, entry_at, texts, part, is_before}
use Rattle.ax_store.proofs.ContentLemmas.{find-entry}
use Rattle.ax_store.proofs.PrefixLemmas.{before_not}

abbrev pub Key : Type 0
Key = Vec ℕ Global

abbrev pub key_cmp : Key → Key → Ordering
key_cmp x y = bytes_cmp x.items y.items

-- what is found by a text
pub entry-texts : (es : List (Key × Change)) (q : Text) → lookup (λ k. is_eq (bytes_cmp q k.items)) es ≡ entry_at (texts es) q
entry-texts [] q = refl
entry-texts (e ∷ es) q = ap (cond (is_eq (bytes_cmp q e.0.items)) (Some e.1)) (entry-texts es q)

pub texts-insert : (es : List (Key × Change)) (k : Key) (c : Change) → texts (insert_entry key_cmp es k c) ≡ insert_entry bytes_cmp (texts es) k.items c
texts-insert [] k c = refl
texts-insert (e ∷ es) k c = go (bytes_cmp k.items e.0.items) (texts-insert es k c)
  where
    go : (r : Ordering) → texts (insert_entry key_cmp es k c) ≡ insert_entry bytes_cmp (texts es) k.items c
        → texts (match_ordering r ((k, c) ∷ (e ∷ es)) ((e.0, c) ∷ es) (e ∷ insert_entry key_cmp es k c))
        ≡ match_ordering r ((k.items, c) ∷ ((e.0.items, e.1) ∷ texts es)) ((e.0.items, c) ∷ texts es) ((e.0.items, e.1) ∷ insert_entry bytes_cmp (texts es) k.items c)
    go Less ih = refl
    go Equal ih = refl
    go Greater ih = ap (λ l. (e.0.items, e.1) ∷ l) ih

above-texts : (k : Key) (es : List (Key × Change)) → AllByRecursion (λ y. key_cmp k y ≡ Less) (map (λ e. e.0) es) → AllByRecursion (λ y. bytes_cmp k.items y ≡ Less) (map (λ e. e.0) (texts es))
above-texts k [] h = tt
above-texts k (e ∷ es) h = (h.0, above-texts k es h.1)

pub rising-texts : (es : List (Key × Change)) → IsStrictlySortedBy key_cmp (map (λ e. e.0) es) → IsRising (texts es)
unfolding IsStrictlySortedBy
rising-texts [] h = tt
rising-texts (e ∷ es) h = (above-texts e.0 es h.0, rising-texts es h.1)

-- ---- an entry put in

insert-put : (es : Layer) (k : Text) (c : Change) → insert_entry bytes_cmp es k c ≡ put bytes_cmp k c es
insert-put [] k c = refl
insert-put (e ∷ es) k c = go (bytes_cmp k e.0) (insert-put es k c)
  where
    go : (r : Ordering) → insert_entry bytes_cmp es k c ≡ put bytes_cmp k c es
        → match_ordering r ((k, c) ∷ (e ∷ es)) ((e.0, c) ∷ es) (e ∷ insert_entry bytes_cmp es k c) ≡ by_order r ((k, c) ∷ (e ∷ es)) ((e.0, c) ∷ es) (e ∷ put bytes_cmp k c es)
    go Less ih = refl
    go Equal ih = refl
    go Greater ih = ap (λ l. e ∷ l) ih

pub entry-insert : (es : Layer) (k : Text) (c : Change) (q : Text) → entry_at (insert_entry bytes_cmp es k c) q ≡ cond (is_at (bytes_cmp q) k) (Some c) (entry_at es q)
entry-insert es k c q = ap (λ l. entry_at l q) (insert-put es k c) ∙ sym (find-entry (put bytes_cmp k c es) q) ∙ find-put bytes_cmp nat_list_cmp_total q k c es
    ∙ ap (cond (is_at (bytes_cmp q) k) (Some c)) (find-entry es q)

abbrev pub Grows : ℕ → ℕ → Type 0
Grows old new = (1 ≤ new) × (old ≤ new) × (new ≤ old + 1)

pub length-insert : (es : Layer) (k : Text) (c : Change) → Grows (length es) (length (insert_entry bytes_cmp es k c))
length-insert [] k c = (omega arith, omega arith, omega arith)
length-insert (e ∷ es) k c = go (bytes_cmp k e.0) (length-insert es k c)
  where
    go : (r : Ordering) → Grows (length es) (length (insert_entry bytes_cmp es k c))
        → Grows (length (e ∷ es)) (length (match_ordering r ((k, c) ∷ (e ∷ es)) ((e.0, c) ∷ es) (e ∷ insert_entry bytes_cmp es k c)))
    go Less ih = (omega arith, omega arith, omega arith)
    go Equal ih = (omega arith, omega arith, omega arith)
    go Greater ih = (omega arith, omega arith, omega arith)

-- ---- the entries from a prefix on

abbrev pub kept : Text → Key × Change → Bool
kept prefix e = is_le (bytes_cmp prefix e.0.items) && true

turned : (x y : Text) (r : Ordering) → bytes_cmp x y ≡ r → bytes_cmp y x ≡ ordering_reverse r
turned x y r e = nat_list_cmp_total.antisymm y x ∙ ap ordering_reverse e

above_kept : (k prefix : Text) (es : List (Key × Change)) → AllByRecursion (λ y. bytes_cmp k y ≡ Less) (map (λ e. e.0) (texts es)) → AllByRecursion (λ y. bytes_cmp k y ≡ Less) (map (λ e. e.0) (texts (filter (kept prefix) es)))
above_kept k prefix [] h = tt
above_kept k prefix (e ∷ es) h = go (kept prefix e) (above_kept k prefix es h.1)
  where
    go : (b : Bool) → AllByRecursion (λ y. bytes_cmp k y ≡ Less) (map (λ e. e.0) (texts (filter (kept prefix) es)))
        → AllByRecursion (λ y. bytes_cmp k y ≡ Less) (map (λ e. e.0) (texts (cond b (e ∷ filter (kept prefix) es) (filter (kept prefix) es))))
    go true ih = (h.0, ih)
    go false ih = ih

pub rising_kept : (prefix : Text) (es : List (Key × Change)) → IsRising (texts es) → IsRising (texts (filter (kept prefix) es))
unfolding IsStrictlySortedBy
rising_kept prefix [] h = tt
rising_kept prefix (e ∷ es) h = go (kept prefix e) (rising_kept prefix es h.1)
  where
    go : (b : Bool) → IsRising (texts (filter (kept prefix) es)) → IsRising (texts (cond b (e ∷ filter (kept prefix) es) (filter (kept prefix) es)))
    go true ih = (above_kept e.0.items prefix es h.0, ih)
    go false ih = ih

pub from_kept : (prefix : Text) (es : List (Key × Change)) → All (λ e. is_before prefix e ≡ false) (texts (filter (kept prefix) es))
from_kept prefix [] = All-nil (λ e. is_before prefix e ≡ false)
from_kept prefix (e ∷ es) = go (bytes_cmp prefix e.0.items) refl (from_kept prefix es)
  where
    go : (r : Ordering) → bytes_cmp prefix e.0.items ≡ r → All (λ e. is_before prefix e ≡ false) (texts (filter (kept prefix) es))
        → All (λ e. is_before prefix e ≡ false) (texts (cond (is_le r && true) (e ∷ filter (kept prefix) es) (filter (kept prefix) es)))
    go Less h ih = All-cons (λ e. is_before prefix e ≡ false) (e.0.items, e.1) (texts (filter (kept prefix) es)) (ap is_lt (turned prefix e.0.items Less h)) ih
    go Equal h ih = All-cons (λ e. is_before prefix e ≡ false) (e.0.items, e.1) (texts (filter (kept prefix) es)) (ap is_lt (turned prefix e.0.items Equal h)) ih
    go Greater h ih = ih

pub part_kept : (prefix : Text) (es : List (Key × Change)) → part prefix (texts (filter (kept prefix) es)) ≡ part prefix (texts es)
part_kept prefix [] = refl
part_kept prefix (e ∷ es) = go (bytes_cmp prefix e.0.items) refl (part_kept prefix es)
  where
    go : (r : Ordering) → bytes_cmp prefix e.0.items ≡ r → part prefix (texts (filter (kept prefix) es)) ≡ part prefix (texts es)
        → part prefix (texts (cond (is_le r && true) (e ∷ filter (kept prefix) es) (filter (kept prefix) es))) ≡ part prefix ((e.0.items, e.1) ∷ texts es)
    go Less h ih = ap (λ l. cond (begins prefix e.0.items) ((e.0.items, e.1) ∷ l) l) ih
    go Equal h ih = ap (λ l. cond (begins prefix e.0.items) ((e.0.items, e.1) ∷ l) l) ih
    go Greater h ih = ih ∙ sym (ap (λ b. cond b ((e.0.items, e.1) ∷ part prefix (texts es)) (part prefix (texts es))) (before_not prefix e.0.items (ap is_lt (turned prefix e.0.items Greater h))))
