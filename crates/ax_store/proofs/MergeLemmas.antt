-- What a merge has: the newer entry of each key, in order.
use Rattle.std.proofs.Common.{◌≡◌, ◌∙◌, ℕ, ◌+◌, ◌≤◌, Bool, true, false, cond, List, [], ◌∷◌, Option, Some, None, refl, sym, ap, subst, arith, map, length, get_or}
use Rattle.std.specs.Ordering.{is_eq, match_ordering, ordering_reverse}
use Rattle.std.specs.declared.cmp.Ordering.{Ordering}
use Rattle.std.specs.declared.cmp.Ordering.TheVariants.{Less, Equal, Greater}
use Rattle.std.specs.Cmp.{IsTotalOrder}
use Rattle.std.specs.Cmp.Lexicographic.{nat_list_cmp_total}
use Rattle.std.specs.List.{AllByRecursion}
use Rattle.std.specs.List.Sorted.{IsStrictlySortedBy}
use Rattle.std.specs.BTreeMap.{is_at}
use Rattle.std.proofs.lemmas.Map.Lookups.{exact_bytes}
use Rattle.ax_store.specs.declared.change.Change.{Change}
use Rattle.ax_store.specs.Held.{Text, Content, bytes_cmp}
use Rattle.ax_store.specs.Entries.{Layer, IsRising, entry_at, into, merged, or_below}
use Rattle.ax_store.specs.Layers.{content_of, merged_first, over}
use Rattle.ax_store.proofs.ContentLemmas.{two_in_one}

laws : IsTotalOrder bytes_cmp
laws = nat_list_cmp_total

flipped : (x y : Text) (r : Ordering) → bytes_cmp x y ≡ r → bytes_cmp y x ≡ ordering_reverse r
flipped x y r e = laws.antisymm y x ∙ ap ordering_reverse e

-- ---- its length

length-into : (x : Text × Change) (rest : Layer → Layer) (n : ℕ) → ((ys : Layer) → length (rest ys) ≤ n + length ys) → (ys : Layer) → length (into x rest ys) ≤ n + 1 + length ys
length-into x rest n h [] = omega (arith, h [])
length-into x rest n h (y ∷ ys) = go (bytes_cmp x.0 y.0) (length-into x rest n h ys)
  where
    go : (r : Ordering) → length (into x rest ys) ≤ n + 1 + length ys → length (match_ordering r (x ∷ rest (y ∷ ys)) (x ∷ rest ys) (y ∷ into x rest ys)) ≤ n + 1 + length (y ∷ ys)
    go Less ih = omega (arith, h (y ∷ ys))
    go Equal ih = omega (arith, h ys)
    go Greater ih = omega arith

pub length-merged : (newer older : Layer) → length (merged newer older) ≤ length newer + length older
length-merged [] older = omega arith
length-merged (x ∷ newer) older =
    let h : length (into x (merged newer) older) ≤ length newer + 1 + length older = length-into x (merged newer) (length newer) (length-merged newer) older in
    omega arith

-- ---- its keys rise

-- each key is above k
abbrev pub Above : Text → Layer → Type 0
Above k es = AllByRecursion (λ y. bytes_cmp k y ≡ Less) (map (λ e. e.0) es)

pub above_more : (j k : Text) → bytes_cmp j k ≡ Less → (es : Layer) → Above k es → Above j es
above_more j k l [] h = tt
above_more j k l (e ∷ es) h = (laws.trans j k e.0 l h.0, above_more j k l es h.1)

above-into : (k : Text) (x : Text × Change) (rest : Layer → Layer) → bytes_cmp k x.0 ≡ Less → ((ys : Layer) → Above k ys → Above k (rest ys)) → (ys : Layer) → Above k ys → Above k (into x rest ys)
above-into k x rest l h [] a = (l, h [] tt)
above-into k x rest l h (y ∷ ys) a = go (bytes_cmp x.0 y.0) (above-into k x rest l h ys a.1)
  where
    go : (r : Ordering) → Above k (into x rest ys) → Above k (match_ordering r (x ∷ rest (y ∷ ys)) (x ∷ rest ys) (y ∷ into x rest ys))
    go Less ih = (l, h (y ∷ ys) a)
    go Equal ih = (l, h ys a.1)
    go Greater ih = (a.0, ih)

above-merged : (k : Text) (newer older : Layer) → Above k newer → Above k older → Above k (merged newer older)
above-merged k [] older a b = b
above-merged k (x ∷ newer) older a b = above-into k x (merged newer) a.0 (λ ys h. above-merged k newer ys a.1 h) older b

rising-into : (x : Text × Change) (newer : Layer) → Above x.0 newer → ((ys : Layer) → IsRising ys → IsRising (merged newer ys)) → (ys : Layer) → IsRising ys → IsRising (into x (merged newer) ys)
unfolding IsStrictlySortedBy
rising-into x newer a h [] r = (above-merged x.0 newer [] a tt, h [] tt)
rising-into x newer a h (y ∷ ys) r = go (bytes_cmp x.0 y.0) refl (rising-into x newer a h ys r.1)
  where
    go : (o : Ordering) → bytes_cmp x.0 y.0 ≡ o → IsRising (into x (merged newer) ys) → IsRising (match_ordering o (x ∷ merged newer (y ∷ ys)) (x ∷ merged newer ys) (y ∷ into x (merged newer) ys))
    go Less e ih = (above-merged x.0 newer (y ∷ ys) a (e, above_more x.0 y.0 e ys r.0), h (y ∷ ys) r)
    go Equal e ih = (above-merged x.0 newer ys a (subst (λ (k : Text). Above k ys) (sym (exact_bytes x.0 y.0 e)) r.0), h ys r.1)
    go Greater e ih =
        let below : bytes_cmp y.0 x.0 ≡ Less = flipped x.0 y.0 Greater e in
        (above-into y.0 x (merged newer) below (λ zs b. above-merged y.0 newer zs (above_more y.0 x.0 below newer a) b) ys r.0, ih)

pub rising-merged : (newer older : Layer) → IsRising newer → IsRising older → IsRising (merged newer older)
unfolding IsStrictlySortedBy
rising-merged [] older a b = b
rising-merged (x ∷ newer) older a b = rising-into x newer a.0 (λ ys r. rising-merged newer ys a.1 r) older b

-- ---- what it has at a key

pub none_above : (q : Text) (es : Layer) → Above q es → entry_at es q ≡ None
none_above q [] h = refl
none_above q (e ∷ es) h = rw h.0 (none_above q es h.1)

entry-into : (x : Text × Change) (newer : Layer) → Above x.0 newer → (q : Text) → ((ys : Layer) → IsRising ys → entry_at (merged newer ys) q ≡ or_below (entry_at newer q) (entry_at ys q))
    → (ys : Layer) → IsRising ys → entry_at (into x (merged newer) ys) q ≡ or_below (entry_at (x ∷ newer) q) (entry_at ys q)
unfolding IsStrictlySortedBy
entry-into x newer a q h [] r = first (is_at (bytes_cmp q) x.0) (h [] tt)
  where
    first : (b : Bool) → entry_at (merged newer []) q ≡ or_below (entry_at newer q) None → cond b (Some x.1) (entry_at (merged newer []) q) ≡ or_below (cond b (Some x.1) (entry_at newer q)) None
    first true e = refl
    first false e = e
entry-into x newer a q h (y ∷ ys) r = go (bytes_cmp x.0 y.0) refl (entry-into x newer a q h ys r.1)
  where
    first : (ys : Layer) (b : Bool) → entry_at (merged newer ys) q ≡ or_below (entry_at newer q) (entry_at ys q) → cond b (Some x.1) (entry_at (merged newer ys) q) ≡ or_below (cond b (Some x.1) (entry_at newer q)) (entry_at ys q)
    first ys true e = refl
    first ys false e = e

    tied : (k : Text) → k ≡ x.0 → (b : Bool) → is_at (bytes_cmp q) x.0 ≡ b → or_below (cond (is_at (bytes_cmp q) x.0) (Some x.1) (entry_at newer q)) (entry_at ys q)
        ≡ or_below (cond (is_at (bytes_cmp q) x.0) (Some x.1) (entry_at newer q)) (cond (is_at (bytes_cmp q) k) (Some y.1) (entry_at ys q))
    tied k e true f = rw f refl
    tied k e false f = rw (e, f) refl

    later : (s : Ordering) → bytes_cmp q y.0 ≡ s → bytes_cmp y.0 x.0 ≡ Less → entry_at (into x (merged newer) ys) q ≡ or_below (entry_at (x ∷ newer) q) (entry_at ys q)
        → cond (is_eq (bytes_cmp q y.0)) (Some y.1) (entry_at (into x (merged newer) ys) q) ≡ or_below (entry_at (x ∷ newer) q) (cond (is_eq (bytes_cmp q y.0)) (Some y.1) (entry_at ys q))
    later Less s below ih = rw s ih
    later Greater s below ih = rw s ih
    later Equal s below ih =
        let less : bytes_cmp q x.0 ≡ Less = laws.congr q y.0 x.0 s ∙ below in
        rw (s, none_above q (x ∷ newer) (less, above_more q x.0 less newer a)) refl

    go : (o : Ordering) → bytes_cmp x.0 y.0 ≡ o → entry_at (into x (merged newer) ys) q ≡ or_below (entry_at (x ∷ newer) q) (entry_at ys q)
        → entry_at (match_ordering o (x ∷ merged newer (y ∷ ys)) (x ∷ merged newer ys) (y ∷ into x (merged newer) ys)) q ≡ or_below (entry_at (x ∷ newer) q) (entry_at (y ∷ ys) q)
    go Less e ih = first (y ∷ ys) (is_at (bytes_cmp q) x.0) (h (y ∷ ys) r)
    go Equal e ih = first ys (is_at (bytes_cmp q) x.0) (h ys r.1) ∙ tied y.0 (sym (exact_bytes x.0 y.0 e)) (is_at (bytes_cmp q) x.0) refl
    go Greater e ih = later (bytes_cmp q y.0) refl (flipped x.0 y.0 Greater e) ih

pub entry-merged : (newer older : Layer) → IsRising newer → IsRising older → (q : Text) → entry_at (merged newer older) q ≡ or_below (entry_at newer q) (entry_at older q)
unfolding IsStrictlySortedBy
entry-merged [] older a b q = refl
entry-merged (x ∷ newer) older a b q = entry-into x newer a.0 q (λ ys r. entry-merged newer ys a.1 r q) older b

-- ---- what it leaves of what is below

pub over_merged : (newer older : Layer) → IsRising newer → IsRising older → (below : Content) → over (merged newer older) below ≡ over newer (over older below)
over_merged newer older a b below = two_in_one newer older (merged newer older) below (entry-merged newer older a b)

-- ---- the two newest of some layers

pub content_first : (layers : List Layer) (a b : Layer) → 2 ≤ length layers → a ≡ get_or layers 0 a → b ≡ get_or layers 1 b → IsRising a → IsRising b → content_of (merged_first layers) ≡ content_of layers
content_first [] a b le e f r s = absurd (omega arith)
content_first (x ∷ []) a b le e f r s = absurd (omega arith)
content_first (x ∷ (y ∷ layers)) a b le e f r s = over_merged x y (subst IsRising e r) (subst IsRising f s) (content_of layers)

pub length_first : (layers : List Layer) → 2 ≤ length layers → length (merged_first layers) + 1 ≡ length layers
length_first [] le = absurd (omega arith)
length_first (x ∷ []) le = absurd (omega arith)
length_first (x ∷ (y ∷ layers)) le = omega arith

-- ---- the parts of layers under one another

-- a part that was merged under what was found so far
pub joined : (b : Bool) (f a r : Option Change) → or_below (or_below f (cond b a None)) (cond b r None) ≡ or_below f (cond b (or_below a r) None)
joined true (Some c) a r = refl
joined true None a r = refl
joined false (Some c) a r = refl
joined false None a r = refl

pub begun : (b : Bool) (a r : Option Change) → or_below (cond b a None) (cond b r None) ≡ cond b (or_below a r) None
begun true a r = refl
begun false a r = refl
