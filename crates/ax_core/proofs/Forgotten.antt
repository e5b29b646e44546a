-- Requests that are out no longer.
use Rattle.std.proofs.Common.{◌≡◌, ◌⊎◌, ℕ, zero, suc, ◌+◌, ◌≤◌, ◌<◌, Bool, true, false, Option, Some, None, IsSome, IsSomeAnd, List, [], ◌∷◌, ◌++◌, length, get_or, set, drop, refl, sym, ap, ◌∙◌, subst, inl, inr, Contains, length-append, length-set, arith}
use Rattle.std.specs.List.{remove_range}
use Rattle.std.proofs.Math.Seq.{drop-append-add, drop-append_seam, take-append_seam}
use Rattle.std.proofs.lemmas.List.{set-get_or}
use Rattle.std.proofs.lemmas.List.Elements.{Contains-append_left, Contains-append_right, Contains-append_cases}
use Rattle.ax_buffer.specs.declared.items.Reply.{Reply}
use Rattle.ax_buffer.specs.Buffer.{total}
use Rattle.ax_buffer.proofs.ListLemmas.{at_set, total-set, total-at}
use Rattle.ax_context.specs.declared.id.Id.{Id}
use Rattle.ax_context.specs.declared.contexts.Context.{Context as Held}
use Rattle.ax_context.specs.Slots.{at}
use Rattle.ax_core.specs.declared.record.Record.{Record}
use Rattle.ax_core.specs.declared.record.Name.{Name}
use Rattle.ax_core.specs.declared.controller.Controller.{Controller}
use Rattle.ax_core.specs.Contexts.{waits_at}
use Rattle.ax_core.specs.Flow.{shard_of, one_if, names_request, named_as, in_outs, out_of, waits_for, OutStands, IsFlow}
use Rattle.ax_core.specs.Batches.{IsPlaceOf, Forgets}
use Rattle.ax_core.specs.Events.{names_of, IsBatchOut}
use Rattle.ax_core.proofs.Counting.{inside_or, named_append, length_replies}
use Rattle.ax_core.proofs.Owners.{names_itself}
use Rattle.ax_core.proofs.Replaced.{contains_none}

abbrev pub name_of : Reply → Name
name_of r = record { id = r.id; slot = r.slot }

-- what stands in a list is named there
pub named_there : (n : Name) (ns : List Name) (k : ℕ) → k < length ns → get_or ns k n ≡ n → 1 ≤ named_as n.id n.slot ns
named_there n [] k lt e = absurd (omega arith)
named_there n (x ∷ xs) zero lt e =
    let named : names_request n.id n.slot x.id x.slot ≡ true = subst (λ (m : Name). names_request n.id n.slot m.id m.slot ≡ true) (sym e) (names_itself n.id n.slot) in
    omega (arith, ap one_if named)
named_there n (x ∷ xs) (suc k) lt e = omega (arith, named_there n xs k (omega arith) e)

-- and in all that is out
pub in_outs_there : (a : Controller) (shard : ℕ) (n : Name) → Contains (out_of a shard) n → 1 ≤ in_outs a n.id n.slot
in_outs_there a shard n c =
    let here : 1 ≤ named_as n.id n.slot (out_of a shard) = named_there n (out_of a shard) c.0 c.1 c.2 in
    elim (inside_or shard a.outs.items) [
      | inl x ↦ (let all : named_as n.id n.slot (out_of a shard) ≤ in_outs a n.id n.slot = total-at (named_as n.id n.slot) a.outs.items shard [] x in omega (arith, here, all))
      | inr x ↦ absurd (contains_none n (subst (λ (ns : List Name). Contains ns n) x c))
    ]

at_front : (xs ys : List Name) (k : ℕ) (d : Name) → k < length xs → get_or (xs ++ ys) k d ≡ get_or xs k d
at_front [] ys k d h = absurd (omega arith)
at_front (x ∷ xs) ys zero d h = refl
at_front (x ∷ xs) ys (suc k) d h = at_front xs ys k d (omega arith)

at_seam : (xs ys : List Name) (y d : Name) → get_or (xs ++ y ∷ ys) (length xs) d ≡ y
at_seam [] ys y d = refl
at_seam (x ∷ xs) ys y d = at_seam xs ys y d

-- a name that stands once is found there
module _ (out before rest : List Name) (n : Name) (place : ℕ) (is : out ≡ before ++ n ∷ rest) (once : named_as n.id n.slot out ≤ 1) (found : IsPlaceOf out n place) where
  not_later : place ≤ length before
  not_later = elim (later_or place (length before)) [
    | inl h ↦ h
    | inr h ↦ absurd (found.before (length before) h (ap (λ (ns : List Name). get_or ns (length before) n) is ∙ at_seam before rest n n))
  ]
    where
      later_or : (a b : ℕ) → (a ≤ b) ⊎ (b < a)
      later_or zero b = inl (omega arith)
      later_or (suc a) zero = inr (omega arith)
      later_or (suc a) (suc b) = elim (later_or a b) [ inl h ↦ inl (omega arith) | inr h ↦ inr (omega arith) ]

  not_before : place < length before → ⊥
  not_before h =
      let within : place < length out = omega (arith, ap length is, length-append before (n ∷ rest)) in
      let here : get_or before place n ≡ n = sym (at_front before (n ∷ rest) place n h) ∙ (sym (ap (λ (ns : List Name). get_or ns place n) is) ∙ found.found within) in
      let one : 1 ≤ named_as n.id n.slot before = named_there n before place h here in
      let two : 1 ≤ named_as n.id n.slot (n ∷ rest) = named_there n (n ∷ rest) 0 (omega arith) refl in
      let all : named_as n.id n.slot out ≡ named_as n.id n.slot before + named_as n.id n.slot (n ∷ rest) = ap (named_as n.id n.slot) is ∙ named_append n.id n.slot before (n ∷ rest) in
      omega arith

  pub is_there : place ≡ length before
  is_there = elim (at_or place (length before) not_later) [ inl e ↦ e | inr h ↦ absurd (not_before h) ]
    where
      at_or : (a b : ℕ) → a ≤ b → (a ≡ b) ⊎ (a < b)
      at_or zero zero h = inl refl
      at_or zero (suc b) h = inr (omega arith)
      at_or (suc a) zero h = absurd (omega arith)
      at_or (suc a) (suc b) h = elim (at_or a b (omega arith)) [ inl e ↦ inl (ap suc e) | inr h ↦ inr (omega arith) ]

pub removed : (before middle behind : List Name) → remove_range (before ++ (middle ++ behind)) (length before) (length before + length middle) ≡ before ++ behind
removed before middle behind =
    ap (λ (ns : List Name). ns ++ drop (length before + length middle) (before ++ (middle ++ behind))) (take-append_seam before (middle ++ behind))
    ∙ ap (λ (ns : List Name). before ++ ns) (drop-append-add before (middle ++ behind) (length middle) ∙ drop-append_seam middle behind)

module _ (a b : Controller) (rs : List Reply) (shard : ℕ) (before behind : List Name) (inside : shard < length a.outs.items)
    (is : out_of a shard ≡ before ++ (names_of rs ++ behind)) (same : b ≡ record a { outs = b.outs }) (outs : b.outs.items ≡ set a.outs.items shard (before ++ behind)) where
  counts : (id : Id) (slot : ℕ) → in_outs b id slot + named_as id slot (names_of rs) ≡ in_outs a id slot
  counts id slot =
      let one : total (named_as id slot) (set a.outs.items shard (before ++ behind)) + named_as id slot (out_of a shard) ≡ total (named_as id slot) a.outs.items + named_as id slot (before ++ behind) = total-set (named_as id slot) a.outs.items shard (before ++ behind) [] inside in
      let two : total (named_as id slot) b.outs.items ≡ total (named_as id slot) (set a.outs.items shard (before ++ behind)) = ap (total (named_as id slot)) outs in
      let three : named_as id slot (out_of a shard) ≡ named_as id slot before + (named_as id slot (names_of rs) + named_as id slot behind) = ap (named_as id slot) is ∙ (named_append id slot before (names_of rs ++ behind) ∙ ap (λ n. named_as id slot before + n) (named_append id slot (names_of rs) behind)) in
      let four : named_as id slot (before ++ behind) ≡ named_as id slot before + named_as id slot behind = named_append id slot before behind in
      omega arith

  fewer : total length b.outs.items + length rs ≡ total length a.outs.items
  fewer =
      let one : total length (set a.outs.items shard (before ++ behind)) + length (out_of a shard) ≡ total length a.outs.items + length (before ++ behind) = total-set length a.outs.items shard (before ++ behind) [] inside in
      let two : total length b.outs.items ≡ total length (set a.outs.items shard (before ++ behind)) = ap (total length) outs in
      let three : length (out_of a shard) ≡ length before + (length (names_of rs) + length behind) = ap length is ∙ (length-append before (names_of rs ++ behind) ∙ ap (λ n. length before + n) (length-append (names_of rs) behind)) in
      let four : length (before ++ behind) ≡ length before + length behind = length-append before behind in
      omega (arith, length_replies rs)

  was_out : (t : ℕ) (n : Name) → Contains (out_of b t) n → Contains (out_of a t) n
  was_out t n h = elim (at_set a.outs.items shard t (before ++ behind) [] inside) [
    | inl x ↦
        let now : get_or b.outs.items t [] ≡ before ++ behind = ap (λ (os : List (List Name)). get_or os t []) outs ∙ x.1 in
        subst (λ (u : ℕ). Contains (out_of a u) n) (sym x.0) (subst (λ (ns : List Name). Contains ns n) (sym is)
        (elim (Contains-append_cases before behind n (subst (λ (ns : List Name). Contains ns n) now h)) [
          | inl y ↦ Contains-append_left before (names_of rs ++ behind) n y
          | inr y ↦ Contains-append_right before (names_of rs ++ behind) n (Contains-append_right (names_of rs) behind n y)
        ]))
    | inr x ↦ subst (λ (ns : List Name). Contains ns n) (ap (λ (os : List (List Name)). get_or os t []) outs ∙ x.1) h
  ]

  pub forgets : ((s : ℕ) (first last : List Name) → out_of a s ≡ first ++ (names_of rs ++ last) → b.outs.items ≡ set a.outs.items s (first ++ last)) → Forgets a b rs
  forgets all = record { same = same; shards = ap length outs ∙ length-set a.outs.items shard (before ++ behind); fewer = fewer; counts = counts; out = was_out; outs = all }

pub forgets_none : (a : Controller) → Forgets a a []
forgets_none a = record {
  same = refl;
  shards = refl;
  fewer = omega arith;
  counts = λ id slot. omega arith;
  out = λ t n h. h;
  outs = λ s before behind is. sym (ap (set a.outs.items s) (sym is) ∙ set-get_or a.outs.items s []);
}

at_most : (b : Bool) → one_if b ≤ 1
at_most true = omega arith
at_most false = omega arith

live : (a : Controller) (s : ℕ) (o : Option (Held Record)) → OutStands a s o → IsSome o
live a s None x = absurd x
live a s (Some h) x = refl

shard_is : (a : Controller) (s : ℕ) (p : Record) (o : Option (Held Record)) → OutStands a s o → IsSomeAnd o (λ c. p ≡ c.payload) → shard_of a.settings p.facts.key ≡ s
shard_is a s p None x y = absurd x
shard_is a s p (Some h) x y = ap (λ (p : Record). shard_of a.settings p.facts.key) y ∙ x

-- the first reply names a request that is out
module _ (a : Controller) (flow : IsFlow a) (rs : List Reply) (out : IsBatchOut a rs) (x : Reply) (rest : List Reply) (e : rs ≡ x ∷ rest) where
  first_is : out_of a out.shard ≡ out.before ++ (name_of x ∷ (names_of rest ++ out.behind))
  first_is = out.there ∙ ap (λ (rs : List Reply). out.before ++ (names_of rs ++ out.behind)) e

  first_out : Contains (out_of a out.shard) (name_of x)
  first_out = subst (λ (ns : List Name). Contains ns (name_of x)) (sym first_is)
      (length out.before, omega (arith, length-append out.before (name_of x ∷ (names_of rest ++ out.behind))), at_seam out.before (names_of rest ++ out.behind) (name_of x) (name_of x))

  stands : OutStands a out.shard (at a.contexts x.id)
  stands = flow.out out.shard (name_of x) first_out

  pub first_live : IsSome (at a.contexts x.id)
  first_live = live a out.shard (at a.contexts x.id) stands

  pub first_shard : (p : Record) → IsSomeAnd (at a.contexts x.id) (λ c. p ≡ c.payload) → shard_of a.settings p.facts.key ≡ out.shard
  first_shard p h = shard_is a out.shard p (at a.contexts x.id) stands h

  pub inside : out.shard < length a.outs.items
  inside = elim (inside_or out.shard a.outs.items) [ inl h ↦ h | inr h ↦ absurd (omega (arith, first_out.1, ap length h)) ]

  once : named_as x.id x.slot (out_of a out.shard) ≤ 1
  once = omega (arith, total-at (named_as x.id x.slot) a.outs.items out.shard [] inside, flow.once x.id x.slot, at_most (waits_for (waits_at a.program (at a.contexts x.id)) x.slot))

  module _ (names : List Name) (place : ℕ) (same : names ≡ out_of a out.shard) (found : IsPlaceOf names (name_of x) place) where
    at_place : place ≡ length out.before
    at_place = is_there (out_of a out.shard) out.before (names_of rest ++ out.behind) (name_of x) place first_is once (subst (λ (ns : List Name). IsPlaceOf ns (name_of x) place) same found)

    pub fits : place + length rs ≤ length names
    fits = omega (arith, at_place, ap length same, ap length out.there, length-append out.before (names_of rs ++ out.behind), length-append (names_of rs) out.behind, length_replies rs)

    left : remove_range names place (place + length rs) ≡ out.before ++ out.behind
    left =
        ap (λ (ns : List Name). remove_range ns place (place + length rs)) (same ∙ out.there)
        ∙ (ap (λ n. remove_range (out.before ++ (names_of rs ++ out.behind)) place (place + n)) (sym (length_replies rs))
        ∙ (ap (λ n. remove_range (out.before ++ (names_of rs ++ out.behind)) n (n + length (names_of rs))) at_place ∙ removed out.before (names_of rs) out.behind))

    left_out : (b : Controller) (s : ℕ) (ns : List Name) → s ≡ out.shard → ns ≡ remove_range names place (place + length rs) → b.outs.items ≡ set a.outs.items s ns
        → b.outs.items ≡ set a.outs.items out.shard (out.before ++ out.behind)
    left_out b s ns there n o = o ∙ (ap (λ (t : ℕ). set a.outs.items t ns) there ∙ ap (set a.outs.items out.shard) (n ∙ left))

-- they are out no longer, in whatever way it is said where they were
module _ (a : Controller) (flow : IsFlow a) (rs : List Reply) (out : IsBatchOut a rs) (x : Reply) (rest : List Reply) (e : rs ≡ x ∷ rest)
    (place : ℕ) (found : IsPlaceOf (out_of a out.shard) (name_of x) place) where
  pub forgotten : (b : Controller) (s : ℕ) (ns : List Name) → b ≡ record a { outs = b.outs } → ((o : IsBatchOut a rs) → s ≡ o.shard) → ns ≡ remove_range (out_of a out.shard) place (place + length rs)
      → b.outs.items ≡ set a.outs.items s ns → Forgets a b rs
  forgotten b s ns eq there n o = forgets a b rs out.shard out.before out.behind (inside a flow rs out x rest e) out.there eq (at out)
      (λ t first last is. at (record { shard = t; before = first; behind = last; there = is }))
    where
      at : (other : IsBatchOut a rs) → b.outs.items ≡ set a.outs.items other.shard (other.before ++ other.behind)
      at other = left_out a flow rs other x rest e (out_of a out.shard) place (ap (out_of a) (sym (there out) ∙ there other)) found b s ns (there other) n o

pub cons_of : (xs rs : List Reply) (x : Reply) → xs ≡ rs → 0 < length xs → x ≡ get_or xs 0 x → rs ≡ x ∷ drop 1 rs
cons_of [] rs x s h e = absurd (omega arith)
cons_of (y ∷ ys) rs x s h e = sym s ∙ (ap (λ (y : Reply). y ∷ ys) (sym e) ∙ ap (λ (xs : List Reply). x ∷ drop 1 xs) s)
