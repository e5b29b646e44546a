-- The cells of a layer over nothing, as a map's entries.
use Rattle.std.proofs.Common.{◌≡◌, ◌∙◌, Bool, true, false, cond, List, [], ◌∷◌, ◌++◌, ◌≤◌, ◌+◌, Option, Some, None, refl, sym, ap, subst, length, length-append, arith}
use Rattle.std.specs.Prelude.{◌&&◌}
use Rattle.std.specs.Ordering.{is_lt, is_eq}
use Rattle.std.specs.declared.cmp.Ordering.{Ordering}
use Rattle.std.specs.declared.cmp.Ordering.TheVariants.{Less, Equal, Greater}
use Rattle.std.specs.Cmp.Lexicographic.{nat_list_cmp_total}
use Rattle.std.specs.List.{filter}
use Rattle.std.specs.List.Sorted.{IsStrictlySortedBy}
use Rattle.std.specs.FinMap.{entries, entries_sorted, get, get-entries, get-retain_keys, retain_keys}
use Rattle.std.specs.FinMap.Entries.{find, is_sorted, below_all, same_entries}
use lib.Dec.{T}
use Rattle.std.proofs.lemmas.Map.Lookups.{exact_bytes}
use Rattle.ax_store.specs.declared.change.Change.{Change}
use Rattle.ax_store.specs.declared.change.Change.TheVariants.{Put, Delete}
use Rattle.ax_store.specs.Held.{Text, bytes_cmp, begins}
use Rattle.ax_store.specs.Entries.{Layer, IsRising, entry_at, is_put, live, or_below}
use Rattle.ax_store.specs.Layers.{content_of, newest_of, shown}
use Rattle.ax_store.proofs.ContentLemmas.{get_content, same_content}
use Rattle.ax_store.proofs.MergeLemmas.{Above}

both : (a b : Bool) → T a → T b → T (a && b)
both true b h k = k
both false b h k = h

below-live : (k : Text) (es : Layer) → Above k es → T (below_all bytes_cmp k (live es))
below-live k [] h = tt
below-live k ((j, Put v) ∷ es) h = both _ _ (subst (λ (r : Ordering). T (is_lt r)) (sym h.0) tt) (below-live k es h.1)
below-live k ((j, Delete) ∷ es) h = below-live k es h.1

pub sorted-live : (es : Layer) → IsRising es → T (is_sorted bytes_cmp (live es))
unfolding IsStrictlySortedBy
sorted-live [] h = tt
sorted-live ((j, Put v) ∷ es) h = both _ _ (below-live j es h.0) (sorted-live es h.1)
sorted-live ((j, Delete) ∷ es) h = sorted-live es h.1

none_live : (q : Text) (es : Layer) → Above q es → find bytes_cmp q (live es) ≡ None
none_live q [] h = refl
none_live q ((j, Put v) ∷ es) h = rw h.0 (none_live q es h.1)
none_live q ((j, Delete) ∷ es) h = none_live q es h.1

is_eq-Equal : (r : Ordering) → is_eq r ≡ true → r ≡ Equal
is_eq-Equal Less e = cc
is_eq-Equal Equal e = refl
is_eq-Equal Greater e = cc

pub find-live : (q : Text) (es : Layer) → IsRising es → find bytes_cmp q (live es) ≡ shown (entry_at es q)
unfolding IsStrictlySortedBy
find-live q [] h = refl
find-live q ((j, Put v) ∷ es) h = go (is_eq (bytes_cmp q j)) (find-live q es h.1)
  where
    go : (b : Bool) → find bytes_cmp q (live es) ≡ shown (entry_at es q) → cond b (Some v) (find bytes_cmp q (live es)) ≡ shown (cond b (Some (Put v)) (entry_at es q))
    go true ih = refl
    go false ih = ih
find-live q ((j, Delete) ∷ es) h = go (is_eq (bytes_cmp q j)) refl (find-live q es h.1)
  where
    go : (b : Bool) → is_eq (bytes_cmp q j) ≡ b → find bytes_cmp q (live es) ≡ shown (entry_at es q) → find bytes_cmp q (live es) ≡ shown (cond b (Some Delete) (entry_at es q))
    go true e ih = none_live q es (subst (λ (k : Text). Above k es) (sym (exact_bytes q j (is_eq-Equal (bytes_cmp q j) e))) h.0)
    go false e ih = ih

-- a layer that has the newest_of entries of the keys with a prefix
pub cells_are : (prefix : Text) (layers : List Layer) (one : Layer) → IsRising one → ((q : Text) → entry_at one q ≡ cond (begins prefix q) (newest_of layers q) None)
    → live one ≡ entries (retain_keys (content_of layers) (begins prefix))
cells_are prefix layers one rising h = same_entries bytes_cmp nat_list_cmp_total exact_bytes _ _ (sorted-live one rising) (entries_sorted (retain_keys (content_of layers) (begins prefix)))
    (λ q. find-live q one rising ∙ ap shown (h q) ∙ go (begins prefix q) (newest_of layers q)
    ∙ ap (λ o. cond (begins prefix q) o None) (sym (get_content layers q))
    ∙ sym (get-retain_keys (content_of layers) (begins prefix) q (λ x t. ap (begins prefix) (sym (exact_bytes q x t))))
    ∙ get-entries (retain_keys (content_of layers) (begins prefix)) q)
  where
    go : (b : Bool) (o : Option Change) → shown (cond b o None) ≡ cond b (shown o) None
    go true o = refl
    go false o = refl

-- ---- a run with no run below needs no deletes

live-puts : (es : Layer) → live (filter is_put es) ≡ live es
live-puts [] = refl
live-puts ((j, Put v) ∷ es) = ap (λ l. (j, v) ∷ l) (live-puts es)
live-puts ((j, Delete) ∷ es) = live-puts es

shown_alone : (o : Option Change) → shown (or_below o None) ≡ shown o
shown_alone (Some c) = refl
shown_alone None = refl

get_alone : (es : Layer) → IsRising es → (q : Text) → get (content_of (es ∷ [])) q ≡ find bytes_cmp q (live es)
get_alone es rising q = get_content (es ∷ []) q ∙ shown_alone (entry_at es q) ∙ sym (find-live q es rising)

pub content_alone : (es : Layer) → IsRising es → IsRising (filter is_put es) → content_of (filter is_put es ∷ []) ≡ content_of (es ∷ [])
content_alone es rising puts = same_content _ _ (λ q. get_alone (filter is_put es) puts q ∙ ap (find bytes_cmp q) (live-puts es) ∙ sym (get_alone es rising q))

-- the only one of some runs
pub content_only : (rest runs : List Layer) (run : Layer) → runs ≡ rest ++ run ∷ [] → length runs ≤ 1 → IsRising run → IsRising (filter is_put run) → content_of (rest ++ filter is_put run ∷ []) ≡ content_of runs
content_only [] runs run is le rising puts = content_alone run rising puts ∙ ap content_of (sym is)
content_only (x ∷ rest) runs run is le rising puts =
    let n : length runs ≡ length (x ∷ rest) + 1 = ap (λ (l : List Layer). length l) is ∙ length-append (x ∷ rest) (run ∷ []) in
    absurd (omega arith)
