-- How often the requests of a callback stand in the queues.
use Rattle.std.proofs.Common.{◌≡◌, ℕ, ◌+◌, ◌<◌, nat_eq, Bool, true, false, ◌&&◌, ◌||◌, List, [], ◌∷◌, ◌++◌, map, length, set, refl, sym, ap, ap₂, ◌∙◌, subst, arith, eqb-true}
use Rattle.std.specs.List.{AllByRecursion}
use Rattle.std.proofs.lemmas.Bool.{eq-eqb, cond-true, cond-false}
use Rattle.ax_text.specs.Prints.{has}
use Rattle.ax_text.specs.Controls.{Ask' as Asked, replaced}
use Rattle.ax_text.specs.Underway.{SlotsRise, Differ}
use Rattle.ax_future.specs.declared.callback.Ask.{Ask}
use Rattle.ax_future.specs.Talks.{asks_in}
use Rattle.ax_machine.specs.Entries.{Key}
use Rattle.ax_buffer.specs.declared.items.Item.{Item}
use Rattle.ax_buffer.specs.Buffer.{Buffer, queue_of, total}
use Rattle.ax_buffer.proofs.ListLemmas.{total-set}
use Rattle.ax_context.specs.declared.id.Id.{Id}
use Rattle.ax_execution.proofs.Upto.{by_cases}
use Rattle.ax_core.specs.Contexts.{same_id}
use Rattle.ax_core.specs.Flow.{one_if, queued_as, waits_for}
use Rattle.ax_core.specs.Callbacks.{items_for, IsQueued}

-- a sum over all queues grows by that of what went into one
pub queues_asked : (f : List Item → ℕ) → ((xs ys : List Item) → f (xs ++ ys) ≡ f xs + f ys) → (a b : Buffer) (shard : ℕ) (is : List Item) → shard < length a.queues → IsQueued a b shard is
    → total f b.queues ≡ total f a.queues + f is
queues_asked f sums a b shard is there h =
    let q : List Item = queue_of a shard in
    let one : total f (set a.queues shard (q ++ is)) + f q ≡ total f a.queues + f (q ++ is) = total-set f a.queues shard (q ++ is) [] there in
    let two : f (q ++ is) ≡ f q + f is = sums q is in
    let three : total f b.queues ≡ total f (set a.queues shard (q ++ is)) = ap (total f) h.queues in
    omega arith

-- no other context asks
pub asked_by_others : (id other : Id) (key : Key) (slot : ℕ) (asks : List Ask) → same_id id other ≡ false → queued_as other slot (items_for id key asks) ≡ 0
asked_by_others id other key slot [] differ = refl
asked_by_others id other key slot (a ∷ as') differ =
    ap₂ (λ (b : Bool) (n : ℕ). one_if (b && nat_eq a.slot slot) + n) differ (asked_by_others id other key slot as' differ)

-- a slot that rising slots are above isn't among them
below_none : (n : ℕ) (as' : List Asked) → AllByRecursion (λ b. n < b.slot) as' → has n (map (λ (a : Asked). a.slot) as') ≡ false
below_none n [] h = refl
below_none n (a ∷ as') h = of (nat_eq n a.slot) refl (below_none n as' h.1)
  where
    of : (b : Bool) → nat_eq n a.slot ≡ b → has n (map (λ (a : Asked). a.slot) as') ≡ false → (b || has n (map (λ (a : Asked). a.slot) as')) ≡ false
    of true e rest = let same : n ≡ a.slot = eqb-true n a.slot e in let less : n < a.slot = h.0 in absurd (omega arith)
    of false e rest = rest

not_true : (b : Bool) → (b ≡ true → ⊥) → b ≡ false
not_true true f = absurd (f refl)
not_true false f = refl

true_false : true ≡ false → ⊥
true_false e = cc e

turned : (m n : ℕ) → nat_eq m n ≡ nat_eq n m
turned m n = by_cases (nat_eq m n)
    (λ x. x ∙ sym (eq-eqb n m (sym (eqb-true m n x))))
    (λ x. x ∙ sym (not_true (nat_eq n m) (λ y. true_false (sym (eq-eqb m n (sym (eqb-true n m y))) ∙ x))))

nothing_more : (n : ℕ) → 0 + n ≡ n
nothing_more n = omega arith

-- the context itself asks once for each slot
pub asked_by_own : (id : Id) (key : Key) (slot : ℕ) (asks : List Ask) → same_id id id ≡ true → SlotsRise (asks_in asks) → queued_as id slot (items_for id key asks) ≡ one_if (waits_for (asks_in asks) slot)
unfolding SlotsRise
asked_by_own id key slot [] self rise = refl
asked_by_own id key slot (a ∷ as') self rise =
    let rest : queued_as id slot (items_for id key as') ≡ one_if (waits_for (asks_in as') slot) = asked_by_own id key slot as' self rise.1 in
    let first : queued_as id slot (items_for id key (a ∷ as')) ≡ one_if (nat_eq a.slot slot) + one_if (waits_for (asks_in as') slot) =
    ap₂ (λ (b : Bool) (n : ℕ). one_if (b && nat_eq a.slot slot) + n) self rest in
    by_cases (nat_eq a.slot slot)
    (λ x. let none : waits_for (asks_in as') slot ≡ false = subst (λ (n : ℕ). has n (map (λ (b : Asked). b.slot) (asks_in as')) ≡ false) (eqb-true a.slot slot x) (below_none a.slot (asks_in as') rise.0) in
    first ∙ ap₂ (λ (b d : Bool). one_if b + one_if d) x none ∙ sym (ap₂ (λ (b d : Bool). one_if (b || d)) (turned slot a.slot ∙ x) none))
    (λ x. first ∙ ap (λ (b : Bool). one_if b + one_if (waits_for (asks_in as') slot)) x ∙ nothing_more (one_if (waits_for (asks_in as') slot))
    ∙ sym (ap (λ (b : Bool). one_if (b || waits_for (asks_in as') slot)) (turned slot a.slot ∙ x)))

-- ---- requests in the place of one that was answered

-- how often a slot waits
abbrev pub times_in : ℕ → List Asked → ℕ
times_in s [] = 0
times_in s (a ∷ as') = one_if (nat_eq a.slot s) + times_in s as'

times_append : (s : ℕ) (xs ys : List Asked) → times_in s (xs ++ ys) ≡ times_in s xs + times_in s ys
times_append s [] ys = sym (nothing_more (times_in s ys))
times_append s (x ∷ xs) ys = let rest : times_in s (xs ++ ys) ≡ times_in s xs + times_in s ys = times_append s xs ys in omega arith

-- once, where slots differ
pub differ_once : (s : ℕ) (as' : List Asked) → Differ (map (λ (a : Asked). a.slot) as') → times_in s as' ≡ one_if (waits_for as' s)
differ_once s [] h = refl
differ_once s (a ∷ as') h =
    let rest : times_in s as' ≡ one_if (waits_for as' s) = differ_once s as' h.1 in
    by_cases (nat_eq a.slot s)
    (λ x. let none : waits_for as' s ≡ false = subst (λ (n : ℕ). has n (map (λ (b : Asked). b.slot) as') ≡ false) (eqb-true a.slot s x) h.0 in
    ap (λ (n : ℕ). one_if (nat_eq a.slot s) + n) rest ∙ ap₂ (λ (b d : Bool). one_if b + one_if d) x none ∙ sym (ap₂ (λ (b d : Bool). one_if (b || d)) (turned s a.slot ∙ x) none))
    (λ x. ap (λ (n : ℕ). one_if (nat_eq a.slot s) + n) rest ∙ ap (λ (b : Bool). one_if b + one_if (waits_for as' s)) x ∙ nothing_more (one_if (waits_for as' s))
    ∙ sym (ap (λ (b : Bool). one_if (b || waits_for as' s)) (turned s a.slot ∙ x)))

put_sum : (t u v m n : ℕ) → m ≡ n → t ≡ u + v → t + m ≡ n + v + u
put_sum t u v m n e h = omega arith

kept_sum : (k t m w u : ℕ) → t + m ≡ w + u → k + t + m ≡ k + w + u
kept_sum k t m w u h = omega arith

pub replaced_times : (s slot : ℕ) (others xs : List Asked) → has slot (map (λ (a : Asked). a.slot) xs) ≡ true → times_in s (replaced slot others xs) + one_if (nat_eq slot s) ≡ times_in s xs + times_in s others
replaced_times s slot others [] h = absurd (cc h)
replaced_times s slot others (a ∷ xs) h = by_cases (nat_eq slot a.slot)
    (λ x. ap (λ (ys : List Asked). times_in s ys + one_if (nat_eq slot s)) (cond-true (nat_eq slot a.slot) (others ++ xs) (a ∷ replaced slot others xs) x)
    ∙ put_sum (times_in s (others ++ xs)) (times_in s others) (times_in s xs) (one_if (nat_eq slot s)) (one_if (nat_eq a.slot s))
    (ap (λ (n : ℕ). one_if (nat_eq n s)) (eqb-true slot a.slot x)) (times_append s others xs))
    (λ x. ap (λ (ys : List Asked). times_in s ys + one_if (nat_eq slot s)) (cond-false (nat_eq slot a.slot) (others ++ xs) (a ∷ replaced slot others xs) x)
    ∙ kept_sum (one_if (nat_eq a.slot s)) (times_in s (replaced slot others xs)) (one_if (nat_eq slot s)) (times_in s xs) (times_in s others) (replaced_times s slot others xs (rw x at h)))

-- slots that rise differ
pub rise_differ : (as' : List Asked) → SlotsRise as' → Differ (map (λ (a : Asked). a.slot) as')
unfolding SlotsRise
rise_differ [] h = tt
rise_differ (a ∷ as') h = (below_none a.slot as' h.0, rise_differ as' h.1)
