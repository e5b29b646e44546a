-- A run of deletes over a map.
use Rattle.std.proofs.Common.{◌≡◌, ◌∙◌, Bool, true, false, not, cond, List, [], ◌∷◌, Option, Some, None, option_map, refl, sym, ap, map}
use Rattle.std.specs.Prelude.{◌&&◌}
use Rattle.std.specs.Ordering.{is_lt, is_eq}
use Rattle.std.specs.declared.cmp.Ordering.{Ordering}
use Rattle.std.specs.declared.cmp.Ordering.TheVariants.{Less, Equal, Greater}
use Rattle.std.specs.List.{AllByRecursion}
use Rattle.std.specs.List.Sorted.{IsStrictlySortedBy}
use Rattle.std.specs.FinMap.{entries, entries_sorted, get, get-entries, get-retain_keys, retain_keys}
use Rattle.std.specs.FinMap.Entries.{find, is_sorted, below_all, same_entries}
use lib.Dec.{T}
use Rattle.std.proofs.lemmas.Map.Lookups.{exact_bytes}
use Rattle.ax_store.specs.declared.change.Change.{Change}
use Rattle.ax_store.specs.declared.change.Change.TheVariants.{Put, Delete}
use Rattle.std.specs.Cmp.Lexicographic.{nat_list_cmp_total}
use Rattle.ax_store.specs.Held.{Text, Content, begins, bytes_cmp}
use Rattle.ax_store.specs.Entries.{Layer, IsRising, deletes, entry_at, live, seen}
use Rattle.ax_store.specs.Layers.{content_of, newest_of, over, shown}
use Rattle.ax_store.proofs.ContentLemmas.{by_entry, find-entry, get_content, get_over, same_content}
use Rattle.ax_store.proofs.LiveLemmas.{find-live, sorted-live}

first : (a b : Bool) → T (a && b) → T a
first true b p = tt
first false b p = p

second : (a b : Bool) → T (a && b) → T b
second true b p = p
second false b p = absurd p

less : (o : Ordering) → T (is_lt o) → o ≡ Less
less Less p = refl
less Equal p = absurd p
less Greater p = absurd p

above-deletes : (k : Text) (cells : List (Text × Text)) → T (below_all bytes_cmp k cells) → AllByRecursion (λ y. bytes_cmp k y ≡ Less) (map (λ e. e.0) (deletes cells))
above-deletes k [] h = tt
above-deletes k (e ∷ es) h = (less (bytes_cmp k e.0) (first _ _ h), above-deletes k es (second _ _ h))

rising_deletes : (cells : List (Text × Text)) → T (is_sorted bytes_cmp cells) → IsRising (deletes cells)
unfolding IsStrictlySortedBy
rising_deletes [] h = tt
rising_deletes (e ∷ es) h = (above-deletes e.0 es (first _ _ h), rising_deletes es (second _ _ h))

-- the keys of a map rise
pub rising-deletes : (m : Content) → IsRising (deletes (entries m))
rising-deletes m = rising_deletes (entries m) (entries_sorted m)

-- what a delete of each key of a map says
erased : Option Text → Option Change
erased (Some value) = Some Delete
erased None = None

entry-deletes : (cells : List (Text × Text)) (q : Text) → entry_at (deletes cells) q ≡ erased (find bytes_cmp q cells)
unfolding erased
entry-deletes [] q = refl
entry-deletes (e ∷ es) q = go (is_eq (bytes_cmp q e.0)) (entry-deletes es q)
  where
    go : (b : Bool) → entry_at (deletes es) q ≡ erased (find bytes_cmp q es) → cond b (Some Delete) (entry_at (deletes es) q) ≡ erased (cond b (Some e.1) (find bytes_cmp q es))
    go true ih = refl
    go false ih = ih

-- deletes of the keys that pass a test leave the others
pub over-deletes : (m : Content) (p : Text → Bool) → over (deletes (entries (retain_keys m p))) m ≡ retain_keys m (λ k. not (p k))
unfolding erased
over-deletes m p = same_content _ _ (λ q.
    get_over (deletes (entries (retain_keys m p))) m q
    ∙ ap (λ o. by_entry o (get m q)) (entry-deletes (entries (retain_keys m p)) q
    ∙ ap erased (sym (get-entries (retain_keys m p) q) ∙ get-retain_keys m p q (λ x t. ap p (sym (exact_bytes q x t)))))
    ∙ go (p q) (get m q)
    ∙ sym (get-retain_keys m (λ k. not (p k)) q (λ x t. ap (λ k. not (p k)) (sym (exact_bytes q x t)))))
  where
    go : (b : Bool) (g : Option Text) → by_entry (erased (cond b g None)) g ≡ cond (not b) g None
    go true (Some v) = refl
    go true None = refl
    go false g = refl

-- ---- deletes of what copies without values have

pub rising-live : (es : Layer) → IsRising es → IsRising (deletes (live es))
rising-live es h = rising_deletes (live es) (sorted-live es h)

pair : (a b : Bool) → T a → T b → T (a && b)
pair true b h k = k
pair false b h k = h

below-deletes : (k : Text) (cells : List (Text × Text)) → T (below_all bytes_cmp k cells) → T (below_all bytes_cmp k (deletes cells))
below-deletes k [] h = tt
below-deletes k (e ∷ es) h = pair _ _ (first _ _ h) (below-deletes k es (second _ _ h))

sorted-deletes : (cells : List (Text × Text)) → T (is_sorted bytes_cmp cells) → T (is_sorted bytes_cmp (deletes cells))
sorted-deletes [] h = tt
sorted-deletes (e ∷ es) h = pair _ _ (below-deletes e.0 es (first _ _ h)) (sorted-deletes es (second _ _ h))

find-deletes : (cells : List (Text × Text)) (q : Text) → find bytes_cmp q (deletes cells) ≡ erased (find bytes_cmp q cells)
find-deletes cells q = find-entry (deletes cells) q ∙ entry-deletes cells q

-- a layer that says of each key with a prefix whether the layers have a value
pub deletes_are : (prefix : Text) (layers : List Layer) (one : Layer) → IsRising one → ((q : Text) → entry_at one q ≡ cond (begins prefix q) (option_map (seen false) (newest_of layers q)) None)
    → deletes (live one) ≡ deletes (entries (retain_keys (content_of layers) (begins prefix)))
unfolding erased
deletes_are prefix layers one rising h = same_entries bytes_cmp nat_list_cmp_total exact_bytes _ _
    (sorted-deletes (live one) (sorted-live one rising))
    (sorted-deletes (entries (retain_keys (content_of layers) (begins prefix))) (entries_sorted (retain_keys (content_of layers) (begins prefix))))
    (λ q. find-deletes (live one) q ∙ ap erased (find-live q one rising ∙ ap shown (h q)) ∙ go (begins prefix q) (newest_of layers q)
    ∙ ap (λ o. erased (cond (begins prefix q) o None)) (sym (get_content layers q))
    ∙ ap erased (sym (get-retain_keys (content_of layers) (begins prefix) q (λ x t. ap (begins prefix) (sym (exact_bytes q x t)))) ∙ get-entries (retain_keys (content_of layers) (begins prefix)) q)
    ∙ sym (find-deletes (entries (retain_keys (content_of layers) (begins prefix))) q))
  where
    go : (b : Bool) (o : Option Change) → erased (shown (cond b (option_map (seen false) o) None)) ≡ erased (cond b (shown o) None)
    go true (Some (Put v)) = refl
    go true (Some Delete) = refl
    go true None = refl
    go false o = refl
