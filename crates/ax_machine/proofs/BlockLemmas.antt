-- A block has each key's lines, whatever the order of its parts.
use Rattle.std.proofs.Common.{◌≡◌, ℕ, zero, suc, ◌+◌, ◌≤◌, ℤ, List, [], ◌∷◌, ◌++◌, length, Bool, true, false, cond, Ordering, Less, Equal, Greater, refl, sym, ap, ap₂, ◌∙◌, arith, subst}
use Rattle.std.specs.Bool.{Decides}
use Rattle.std.specs.Str.{bytes_eq}
use Rattle.std.specs.List.{AllByRecursion, filter, slice_index_or}
use Rattle.std.specs.List.Sorted.{IsStrictlySortedBy}
use Rattle.std.specs.Map.{keys_of}
use Rattle.std.specs.BTreeMap.{insert_entry}
use Rattle.std.specs.BTreeSet.{insert_key}
use Rattle.std.specs.Ordering.{nat_cmp, match_ordering, ordering_reverse}
use Rattle.std.specs.Cmp.{IsTotalOrder}
use Rattle.std.proofs.lemmas.Bool.{both_ways, cond-false}
use Rattle.std.proofs.lemmas.Cmp.{nat_cmp_total, nat_list_cmp_total, on_total, then_total, tied_itself}
use Rattle.std.proofs.lemmas.Map.Keys.{sorted_head, sorted_tail}
use Rattle.std.proofs.lemmas.Map.Lookups.{CmpEqualImpliesEq, exact_bytes}
use Rattle.std.proofs.lemmas.Slice.Eq.{bytes_eq-Decides}
use Rattle.ax_keys.specs.Keys.{key_cmp}
use Rattle.ax_keys.specs.Groups.{group}
use Rattle.ax_text.specs.declared.vocabulary.Kind.{Kind}
use Rattle.ax_text.specs.declared.vocabulary.Kind.TheVariants as kind
use Rattle.ax_text.specs.Cells.{Cells, empty_cell, kind_of}
use Rattle.ax_text.specs.KeyStates.{fresh}
use Rattle.ax_text.specs.Programs.{State, kinds_of, untouched}
use Rattle.ax_machine.specs.Entries.{Key}
use Rattle.ax_machine.specs.OutLines.{OutLine, lines_text}
use Rattle.ax_machine.specs.Blocks.{Part, block_cmp, placed_from, placed, cell_lines, state_lines, part_lines, inner_lines, lines_from, lines_among, framed, block_text}
use Rattle.ax_machine.specs.Sync.{Map, parts_of}
use Rattle.ax_machine.proofs.FiringLemmas.{then_equal}
use Rattle.ax_machine.proofs.KeyLemmas.{by_cases}
use Rattle.ax_machine.proofs.RisingLemmas.{rising_put}

-- entries that rise by their keys, where each value gives some items
module _ {K X L : Type 0} (R : K → K → Ordering) (order : IsTotalOrder R) (exact : CmpEqualImpliesEq R) (eq : K → K → Bool) (decides : (a b : K) → Decides (eq a b) (a ≡ b)) (f : X → List L) where
  all : List (K × X) → List L
  all [] = []
  all (e ∷ es) = f e.1 ++ all es

  -- the items of a key
  items_at : K → List (K × X) → List L
  items_at k [] = []
  items_at k (e ∷ es) = cond (eq e.0 k) (f e.1) (items_at k es)

  Rises : List (K × X) → Type 0
  Rises es = IsStrictlySortedBy R (keys_of es)

  Below : K → List (K × X) → Type 0
  Below k es = AllByRecursion (λ y. R k y ≡ Less) (keys_of es)

  not_level : (a b : K) → R a b ≡ Less → eq b a ≡ true → ⊥
  not_level a b less e =
      let level : R a a ≡ Less = subst (λ (c : K). R a c ≡ Less) ((decides b a).0 e) less in
      let none : Equal ≡ Less = sym (tied_itself order a) ∙ level in
      absurd (cc)

  at_below : (k : K) (es : List (K × X)) → Below k es → items_at k es ≡ []
  unfolding Below items_at
  at_below k [] b = refl
  at_below k (e ∷ es) b = by_cases (eq e.0 k) (λ h. absurd (not_level k e.0 b.0 h)) (λ h. rw h (at_below k es b.1))

  below_more : (j k : K) (es : List (K × X)) → R j k ≡ Less → Below k es → Below j es
  unfolding Below
  below_more j k [] h b = tt
  below_more j k (e ∷ es) h b = (order.trans j k e.0 h b.0, below_more j k es h b.1)

  at_head : (e : K × X) (es : List (K × X)) → items_at e.0 (e ∷ es) ≡ f e.1
  unfolding items_at
  at_head e es = rw ((decides e.0 e.0).1 refl) refl

  -- behind an entry a key has what it has at all, where that entry gives nothing or is of another key
  at_tail : (k : K) (e : K × X) (es : List (K × X)) → eq e.0 k ≡ false → items_at k (e ∷ es) ≡ items_at k es
  unfolding items_at
  at_tail k e es h = rw h refl

  none_behind : (k : K) (e : K × X) (es : List (K × X)) → Rises (e ∷ es) → eq e.0 k ≡ true → items_at k es ≡ []
  unfolding Rises Below
  none_behind k e es r h = subst (λ (j : K). items_at j es ≡ []) ((decides e.0 k).0 h) (at_below e.0 es (sorted_head R e.0 (keys_of es) r))

  tail_same : (e : K × X) (es : List (K × X)) → Rises (e ∷ es) → f e.1 ≡ [] → (k : K) → items_at k es ≡ items_at k (e ∷ es)
  tail_same e es r none k = by_cases (eq e.0 k)
      (λ h. none_behind k e es r h ∙ sym none ∙ sym (at_head e es) ∙ ap (λ (j : K). items_at j (e ∷ es)) ((decides e.0 k).0 h))
      (λ h. sym (at_tail k e es h))

  tails_same : (d e : K × X) (ds es : List (K × X)) → Rises (d ∷ ds) → Rises (e ∷ es) → d.0 ≡ e.0 → ((k : K) → items_at k (d ∷ ds) ≡ items_at k (e ∷ es)) → (k : K) → items_at k ds ≡ items_at k es
  tails_same d e ds es r s same h k = by_cases (eq d.0 k)
      (λ b. none_behind k d ds r b ∙ sym (none_behind k e es s (subst (λ (j : K). eq j k ≡ true) same b)))
      (λ b. sym (at_tail k d ds b) ∙ h k ∙ at_tail k e es (subst (λ (j : K). eq j k ≡ false) same b))

  rises_tail : (e : K × X) (es : List (K × X)) → Rises (e ∷ es) → Rises es
  unfolding Rises
  rises_tail e es r = sorted_tail R e.0 (keys_of es) r

  -- the key of an entry isn't among entries that begin above it
  not_among : (d e : K × X) (es : List (K × X)) → Rises (e ∷ es) → R d.0 e.0 ≡ Less → items_at d.0 (e ∷ es) ≡ []
  unfolding Rises Below
  not_among d e es r h = at_below d.0 (e ∷ es) (h, below_more d.0 e.0 es h (sorted_head R e.0 (keys_of es) r))

  nothing : (es : List (K × X)) → Rises es → ((k : K) → items_at k es ≡ []) → all es ≡ []
  unfolding all
  nothing [] r h = refl
  nothing (e ∷ es) r h =
      let none : f e.1 ≡ [] = sym (at_head e es) ∙ h e.0 in
      ap (λ (xs : List L). xs ++ all es) none ∙ nothing es (rises_tail e es r) (λ k. tail_same e es r none k ∙ h k)

  Alike : List (K × X) → List (K × X) → Type 0
  Alike ds es = (k : K) → items_at k ds ≡ items_at k es

  same_by : (n : ℕ) (o : Ordering) (d e : K × X) (ds es : List (K × X)) → R d.0 e.0 ≡ o → length (d ∷ ds) + length (e ∷ es) ≤ suc n → Rises (d ∷ ds) → Rises (e ∷ es) → Alike (d ∷ ds) (e ∷ es)
      → ((ps qs : List (K × X)) → length ps + length qs ≤ n → Rises ps → Rises qs → Alike ps qs → all ps ≡ all qs) → all (d ∷ ds) ≡ all (e ∷ es)
  unfolding all Alike
  same_by n Less d e ds es h enough r s alike goes =
      let none : f d.1 ≡ [] = sym (at_head d ds) ∙ alike d.0 ∙ not_among d e es s h in
      ap (λ (xs : List L). xs ++ all ds) none ∙ goes ds (e ∷ es) (omega arith) (rises_tail d ds r) s (λ k. tail_same d ds r none k ∙ alike k)
  same_by n Equal d e ds es h enough r s alike goes =
      let level : d.0 ≡ e.0 = exact d.0 e.0 h in
      let same : f d.1 ≡ f e.1 = sym (at_head d ds) ∙ alike d.0 ∙ ap (λ (k : K). items_at k (e ∷ es)) level ∙ at_head e es in
      ap₂ (λ (xs ys : List L). xs ++ ys) same (goes ds es (omega arith) (rises_tail d ds r) (rises_tail e es s) (tails_same d e ds es r s level alike))
  same_by n Greater d e ds es h enough r s alike goes =
      let turned : R e.0 d.0 ≡ Less = order.antisymm e.0 d.0 ∙ ap ordering_reverse h in
      let none : f e.1 ≡ [] = sym (at_head e es) ∙ sym (alike e.0) ∙ not_among e d ds r turned in
      goes (d ∷ ds) es (omega arith) r (rises_tail e es s) (λ k. alike k ∙ sym (tail_same e es s none k)) ∙ sym (ap (λ (xs : List L). xs ++ all es) none)

  -- entries in which each key has the same items give the same
  same_all : (n : ℕ) (ds es : List (K × X)) → length ds + length es ≤ n → Rises ds → Rises es → Alike ds es → all ds ≡ all es
  unfolding Alike items_at all
  same_all n [] es enough r s alike = sym (nothing es s (λ k. sym (alike k)))
  same_all n (d ∷ ds) [] enough r s alike = nothing (d ∷ ds) r alike
  same_all zero (d ∷ ds) (e ∷ es) enough r s alike = absurd (omega arith)
  same_all (suc n) (d ∷ ds) (e ∷ es) enough r s alike = same_by n (R d.0 e.0) d e ds es refl enough r s alike (same_all n)

  -- one more entry
  keys_put : (es : List (K × X)) (j : K) (v : X) → keys_of (insert_entry R es j v) ≡ insert_key R (keys_of es) j
  keys_put [] j v = refl
  keys_put (e ∷ es) j v = of (R j e.0) (keys_put es j v)
    where
      of : (o : Ordering) → keys_of (insert_entry R es j v) ≡ insert_key R (keys_of es) j
          → keys_of (match_ordering o ((j, v) ∷ e ∷ es) ((e.0, v) ∷ es) (e ∷ insert_entry R es j v)) ≡ match_ordering o (j ∷ e.0 ∷ keys_of es) (e.0 ∷ keys_of es) (e.0 ∷ insert_key R (keys_of es) j)
      of Less h = refl
      of Equal h = refl
      of Greater h = ap (λ (ks : List K). e.0 ∷ ks) h

  rises_put : (es : List (K × X)) (j : K) (v : X) → Rises es → Rises (insert_entry R es j v)
  unfolding Rises
  rises_put es j v r = subst (IsStrictlySortedBy R) (sym (keys_put es j v)) (rising_put order j (keys_of es) r)

  replaced : (b c : Bool) (xs ys zs : List L) → b ≡ c → cond b xs zs ≡ cond c xs (cond b ys zs)
  replaced true c xs ys zs e = ap (λ (t : Bool). cond t xs ys) e
  replaced false c xs ys zs e = ap (λ (t : Bool). cond t xs zs) e

  swapped : (b c : Bool) (xs ys zs : List L) → (b ≡ true → c ≡ true → ⊥) → cond b ys (cond c xs zs) ≡ cond c xs (cond b ys zs)
  swapped true true xs ys zs h = absurd (h refl refl)
  swapped true false xs ys zs h = refl
  swapped false c xs ys zs h = refl

  at_put : (k : K) (es : List (K × X)) (j : K) (v : X) → items_at k (insert_entry R es j v) ≡ cond (eq j k) (f v) (items_at k es)
  unfolding items_at
  at_put k [] j v = refl
  at_put k (e ∷ es) j v = of (R j e.0) refl (at_put k es j v)
    where
      of : (o : Ordering) → R j e.0 ≡ o → items_at k (insert_entry R es j v) ≡ cond (eq j k) (f v) (items_at k es)
          → items_at k (match_ordering o ((j, v) ∷ e ∷ es) ((e.0, v) ∷ es) (e ∷ insert_entry R es j v)) ≡ cond (eq j k) (f v) (cond (eq e.0 k) (f e.1) (items_at k es))
      of Less h more = refl
      of Equal h more = replaced (eq e.0 k) (eq j k) (f v) (f e.1) (items_at k es) (ap (λ (i : K). eq i k) (sym (exact j e.0 h)))
      of Greater h more = ap (λ (xs : List L). cond (eq e.0 k) (f e.1) xs) more ∙ swapped (eq e.0 k) (eq j k) (f v) (f e.1) (items_at k es)
          (λ p q. let same : e.0 ≡ j = (decides e.0 k).0 p ∙ sym ((decides j k).0 q) in
          let level : R j j ≡ Greater = subst (λ (i : K). R j i ≡ Greater) same h in
          let none : Equal ≡ Greater = sym (tied_itself order j) ∙ level in
          absurd (cc))

-- the order of a block
block_total : (m : ℕ) → IsTotalOrder (block_cmp m)
block_total m = then_total (on_total (λ (k : Key). group k m) nat_cmp_total) nat_list_cmp_total

block_exact : (m : ℕ) → CmpEqualImpliesEq (block_cmp m)
block_exact m a b e = exact_bytes a b (then_equal (nat_cmp (group a m) (group b m)) (key_cmp a b) e).1

module _ (m : ℕ) (states : List State) where
  places : Key → List (Key × Part) → List OutLine
  places = items_at (block_cmp m) (block_total m) (block_exact m) bytes_eq bytes_eq-Decides (part_lines states)

  AreRising : List (Key × Part) → Type 0
  AreRising = Rises (block_cmp m) (block_total m) (block_exact m) bytes_eq bytes_eq-Decides (part_lines states)

  inner_all : (es : List (Key × Part)) → inner_lines states es ≡ all (block_cmp m) (block_total m) (block_exact m) bytes_eq bytes_eq-Decides (part_lines states) es
  unfolding all
  inner_all [] = refl
  inner_all (e ∷ es) = ap (λ (xs : List OutLine). part_lines states e.1 ++ xs) (inner_all es)

  placed_rises : (es : List (Key × Part)) (ps : List Part) → AreRising es → AreRising (placed_from m es ps)
  unfolding AreRising
  placed_rises es [] r = r
  placed_rises es (p ∷ ps) r = placed_rises (insert_entry (block_cmp m) es p.key p) ps (rises_put (block_cmp m) (block_total m) (block_exact m) bytes_eq bytes_eq-Decides (part_lines states) es p.key p r)

  placed_lines : (k : Key) (es : List (Key × Part)) (ps : List Part) → places k (placed_from m es ps) ≡ lines_from states k (places k es) ps
  unfolding places
  placed_lines k es [] = refl
  placed_lines k es (p ∷ ps) =
      placed_lines k (insert_entry (block_cmp m) es p.key p) ps
      ∙ ap (λ (xs : List OutLine). lines_from states k xs ps) (at_put (block_cmp m) (block_total m) (block_exact m) bytes_eq bytes_eq-Decides (part_lines states) k es p.key p)

  same_inner : (ps qs : List Part) → ((k : Key) → lines_among states k ps ≡ lines_among states k qs) → inner_lines states (placed m ps) ≡ inner_lines states (placed m qs)
  unfolding places AreRising items_at Rises Alike IsStrictlySortedBy
  same_inner ps qs h =
      inner_all (placed m ps)
      ∙ same_all (block_cmp m) (block_total m) (block_exact m) bytes_eq bytes_eq-Decides (part_lines states) (length (placed m ps) + length (placed m qs)) (placed m ps) (placed m qs) (omega arith)
      (placed_rises [] ps tt) (placed_rises [] qs tt) (λ k. placed_lines k [] ps ∙ h k ∙ sym (placed_lines k [] qs))
      ∙ sym (inner_all (placed m qs))

pub same_block : (m : ℕ) (states : List State) (id wm : ℤ) (ps qs : List Part) → ((k : Key) → lines_among states k ps ≡ lines_among states k qs) → block_text m states id wm ps ≡ block_text m states id wm qs
same_block m states id wm ps qs h = ap (λ (ls : List OutLine). lines_text (framed id wm ls)) (same_inner m states ps qs h)

-- a key with neither state nor timer has no line
empty_lines : (k : Key) (name : List ℕ) (of : Kind) → cell_lines k name (empty_cell of) ≡ []
empty_lines k name kind.Value = refl
empty_lines k name kind.List = refl
empty_lines k name kind.Map = refl

empty_states : (k : Key) (cells : Cells) → ((i : ℕ) → cells i ≡ empty_cell (kind_of (cells i))) → (i : ℕ) (ss : List State) → state_lines k i ss cells ≡ []
empty_states k cells empty i [] = refl
empty_states k cells empty i (s ∷ ss) =
    ap₂ (λ (xs ys : List OutLine). xs ++ ys) (ap (cell_lines k s.name) (empty i) ∙ empty_lines k s.name (kind_of (cells i))) (empty_states k cells empty (i + 1) ss)

pub no_states : (states : List State) (k : Key) (cells : Cells) → ((i : ℕ) → cells i ≡ empty_cell (kind_of (cells i))) → part_lines states (record { key = k; state = record { cells = cells; times = [] } }) ≡ []
no_states states k cells empty = ap (λ (xs : List OutLine). xs ++ []) (empty_states k cells empty 0 states)

of_kind : (of : Kind) → empty_cell of ≡ empty_cell (kind_of (empty_cell of))
of_kind kind.Value = refl
of_kind kind.List = refl
of_kind kind.Map = refl

pub fresh_lines : (states : List State) (k : Key) → part_lines states (record { key = k; state = fresh (kinds_of states) }) ≡ []
fresh_lines states k = no_states states k (untouched (kinds_of states)) (λ i. of_kind (slice_index_or (kinds_of states) i kind.Value))

-- keys without lines may be left out
module _ (states : List State) (map : Map) (kept : Key → Bool) (none : (k : Key) → kept k ≡ false → part_lines states (record { key = k; state = map k }) ≡ []) where
  no_lines : (k : Key) (keys : List Key) → kept k ≡ false → lines_from states k [] (parts_of keys map) ≡ []
  no_lines k [] h = refl
  no_lines k (j ∷ js) h =
      ap (λ (xs : List OutLine). lines_from states k xs (parts_of js map))
      (by_cases {A = cond (bytes_eq j k) (part_lines states (record { key = j; state = map j })) [] ≡ []} (bytes_eq j k)
      (λ b. rw b (subst (λ (i : Key). part_lines states (record { key = i; state = map i }) ≡ []) (sym ((bytes_eq-Decides j k).0 b)) (none k h)))
      (λ b. rw b refl))
      ∙ no_lines k js h

  kept_lines : (k : Key) (found : List OutLine) (keys : List Key) → kept k ≡ true → lines_from states k found (parts_of (filter kept keys) map) ≡ lines_from states k found (parts_of keys map)
  kept_lines k found [] h = refl
  kept_lines k found (j ∷ js) h = of (kept j) refl (λ xs. kept_lines k xs js h)
    where
      of : (b : Bool) → kept j ≡ b → ((xs : List OutLine) → lines_from states k xs (parts_of (filter kept js) map) ≡ lines_from states k xs (parts_of js map))
          → lines_from states k found (parts_of (cond b (j ∷ filter kept js) (filter kept js)) map)
          ≡ lines_from states k (cond (bytes_eq j k) (part_lines states (record { key = j; state = map j })) found) (parts_of js map)
      of true e go = go (cond (bytes_eq j k) (part_lines states (record { key = j; state = map j })) found)
      of false e go =
          let other : bytes_eq j k ≡ false = by_cases (bytes_eq j k) (λ b. absurd (both_ways (kept k) (subst (λ (i : Key). kept i ≡ false) ((bytes_eq-Decides j k).0 b) e) h)) (λ b. b) in
          go found ∙ ap (λ (xs : List OutLine). lines_from states k xs (parts_of js map)) (sym (cond-false (bytes_eq j k) (part_lines states (record { key = j; state = map j })) found other))

  pub left_lines : (k : Key) (keys : List Key) → lines_among states k (parts_of (filter kept keys) map) ≡ lines_among states k (parts_of keys map)
  left_lines k keys = by_cases (kept k) (λ h. kept_lines k [] keys h) (λ h. no_lines k (filter kept keys) h ∙ sym (no_lines k keys h))

pub left_out : (m : ℕ) (states : List State) (id wm : ℤ) (keys : List Key) (map : Map) (kept : Key → Bool) → ((k : Key) → kept k ≡ false → part_lines states (record { key = k; state = map k }) ≡ [])
    → block_text m states id wm (parts_of (filter kept keys) map) ≡ block_text m states id wm (parts_of keys map)
left_out m states id wm keys map kept none = same_block m states id wm (parts_of (filter kept keys) map) (parts_of keys map) (λ k. left_lines states map kept none k keys)
