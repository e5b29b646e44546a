-- No key waits without need, and never more is in flight than the limit.
use Rattle.std.proofs.Common.{◌≡◌, ℕ, zero, suc, ◌+◌, ◌≤◌, ◌<◌, ℤ, int_le, List, [], ◌∷◌, ◌++◌, Bool, true, false, cond, Option, Some, None, refl, sym, ap, ap₂, ◌∙◌, arith, subst, ◌⊎◌, inl, inr}
use Rattle.std.proofs.lemmas.Bool.{both_ways, cond-true, cond-false}
use Rattle.std.specs.Str.{bytes_eq}
use Rattle.std.specs.List.{list_any}
use Rattle.std.specs.List.Sorted.{IsStrictlySortedBy}
use Rattle.std.specs.BTreeSet.{insert_key}
use Rattle.ax_keys.specs.Keys.{key_cmp}
use Rattle.ax_text.specs.declared.vocabulary.Request.{Request}
use Rattle.ax_text.specs.declared.vocabulary.Answer.{Answer}
use Rattle.ax_text.specs.Functions.{upd}
use Rattle.ax_text.specs.Exprs.{Facts}
use Rattle.ax_text.specs.KeyStates.{KeyState}
use Rattle.ax_text.specs.Programs.{Program}
use Rattle.ax_machine.specs.Entries.{Key}
use Rattle.ax_machine.specs.Events.{Event}
use Rattle.ax_machine.specs.Firings.{most_firings}
use Rattle.ax_execution.specs.Sums.{total}
use Rattle.ax_machine.specs.Sync.{without_least}
use Rattle.ax_machine.proofs.FiringLemmas.{key_is, same_key, has_inserted}
use Rattle.ax_execution.proofs.KeySums.{in_total}
use Rattle.ax_execution.specs.Origins.{Origin, IsOrigin}
use Rattle.ax_execution.proofs.Projected.{rises_from}
use Rattle.ax_text.specs.Controls.{is_done, request_at}
use Rattle.ax_text.specs.Jobs.{firing_job}
use Rattle.ax_text.specs.Silent.{unanswered}
use Rattle.ax_execution.specs.Groups.{row_facts}
use Rattle.ax_machine.specs.KeySync.{Said}
use Rattle.ax_execution.specs.Contexts.{Running, running_group, Stage, Unbegun, Begun, Context, new_context, Waiting, Row, Mark, Part, contexts_in, owners, rows_in, is_due, may_fire, is_idle_with, is_idle}
use Rattle.ax_execution.specs.Turns.{handed, timed, closed_with, left_by, staged, called_back, begins, start_stage, start_owner, start, serve_request, serve_stage, serve_owner, serve, gives, give_answer, deliver_stage, deliver_owner, deliver, fire_due, fire_front, fire, admit_at, admit, mark_at, mark, Effects, start_effects, deliver_effects}
use Rattle.ax_execution.specs.Machine.{ByWatermark, ByBarrier, Closed, Machine, Happening, Admit, Close, Fire, Start, Serve, Deliver, Send, Rules, part_at, must_fire, goes_on, calls_back, send_first, happens, in_flight, after_all, taken, machine_from, machine_of, IsAtRest, IsWork}
use Rattle.ax_execution.specs.Allowed.{NoneIsIdle, NumbersOwner, NotIn, IsNew, StageUnbegun, StageAsks, StageHas, OfOwner, MayFireNow, Allowed, IsRun}
use Rattle.ax_execution.proofs.Handles.{Handles}
use Rattle.ax_execution.proofs.Upto.{by_cases, part_of}
use Rattle.ax_execution.proofs.Alone.{Alone, event_alone, start_alone, goes_as_alone}
use Rattle.ax_execution.proofs.KeySums.{total_same, at_most, one_more_at_most, one_fewer, inserted_one_more}
use Rattle.ax_execution.proofs.Stuck.{FrontFires, IsOrdered, StageWakes, IsAwake, IsSound, called_back_ordered, none_some, at_rest}

true_false : false ≡ true → ⊥
true_false e = cc e

-- what an event of a key leaves: its owner is awake, it is in order, and how many contexts it has
record Leaves (must : Option Key) (k : Key) (a b : Part) : Type 0 where
  awake : IsAwake b.owner
  ordered : IsOrdered must k b.owner b.waiting b.said.state.times
  count : contexts_in b ≤ contexts_in a
  fewer : is_idle b ≡ true → suc (contexts_in b) ≤ contexts_in a

-- a key with neither owner nor anything that waits, and no timer
pub record IsFree (q : Part) : Type 0 where
  pub owner : q.owner ≡ None
  pub waiting : q.waiting ≡ []
  pub times : q.said.state.times ≡ []

-- a callback

pub handed_counts : (is : List Waiting) (s : Said) → (contexts_in (handed is s) ≡ rows_in is) × IsAwake (handed is s).owner
unfolding IsAwake StageWakes
handed_counts [] s = (refl, tt)
handed_counts (Row n e f ∷ is) s = (refl, tt)
handed_counts (Mark e w more ∷ is) s = of (handed_counts is s) (may_fire w more s.state.times)
  where
    Is : Part → Type 0
    Is q = (contexts_in q ≡ rows_in is) × IsAwake q.owner

    zero_plus : (n : ℕ) → 0 + n ≡ n
    zero_plus n = omega arith

    of : Is (handed is s) → (b : Bool) → Is (cond b (part_of None (Mark e w more ∷ is) s) (handed is s))
    of ih true = (zero_plus (rows_in is), tt)
    of ih false = ih

back_leaves : (k : Key) (c : Context) (st : Stage) (r : Running) (is : List Waiting) (s t : Said)
    → Leaves (must_fire k (called_back c r is t)) k (part_of (Some (staged c st)) is s) (called_back c r is t)
unfolding IsAwake StageWakes
back_leaves k c st r is s t = record {
  awake = awake (is_done r.control) refl;
  ordered = called_back_ordered k c r is t;
  count = count (is_done r.control);
  fewer = fewer (is_done r.control);
}
  where
    next : Bool → Part
    next b = cond b (handed is (closed_with (running_group c.job r) t)) (part_of (Some (staged c (Begun r))) is t)

    awake : (b : Bool) → is_done r.control ≡ b → IsAwake (next b).owner
    awake true h = (handed_counts is (closed_with (running_group c.job r) t)).1
    awake false h = h

    count : (b : Bool) → contexts_in (next b) ≤ 1 + rows_in is
    count true = let e : contexts_in (handed is (closed_with (running_group c.job r) t)) ≡ rows_in is = (handed_counts is (closed_with (running_group c.job r) t)).0 in omega arith
    count false = omega arith

    fewer : (b : Bool) → is_idle (next b) ≡ true → suc (contexts_in (next b)) ≤ 1 + rows_in is
    fewer true h = let e : contexts_in (handed is (closed_with (running_group c.job r) t)) ≡ rows_in is = (handed_counts is (closed_with (running_group c.job r) t)).0 in omega arith
    fewer false h = absurd (true_false h)

start_at : (p : Program) (k : Key) (c : Context) (st : Stage) (is : List Waiting) (s : Said) → StageUnbegun st
    → Leaves (must_fire k (start_stage p c st (part_of (Some (staged c st)) is s))) k (part_of (Some (staged c st)) is s) (start_stage p c st (part_of (Some (staged c st)) is s))
start_at p k c Unbegun is s h = back_leaves k c Unbegun (left_by (begins p c.job) unanswered [] 0) is s (timed (begins p c.job) s)
start_at p k c (Begun r) is s h = absurd h

start_of : (p : Program) (k : Key) (o : Option Context) (is : List Waiting) (s : Said) → OfOwner StageUnbegun o
    → Leaves (must_fire k (start_owner p o (part_of o is s))) k (part_of o is s) (start_owner p o (part_of o is s))
start_of p k None is s h = absurd h
start_of p k (Some c) is s h = start_at p k c c.stage is s h

start_leaves : (p : Program) (k : Key) (q : Part) → OfOwner StageUnbegun q.owner → Leaves (must_fire k (start p q)) k q (start p q)
start_leaves p k q h = start_of p k q.owner q.waiting q.said h

give_at : (k : Key) (c : Context) (r : Running) (slot : ℕ) (o : Option Answer) (is : List Waiting) (s : Said) → (a : Answer) × (o ≡ Some a)
    → Leaves (must_fire k (give_answer c r slot o (part_of (Some (staged c (Begun r))) is s))) k (part_of (Some (staged c (Begun r))) is s) (give_answer c r slot o (part_of (Some (staged c (Begun r))) is s))
give_at k c r slot None is s h = absurd (none_some h.1)
give_at k c r slot (Some a) is s h = back_leaves k c (Begun r) (left_by (gives c.job r slot a) (upd r.answers slot None) r.lines r.served) is s (timed (gives c.job r slot a) s)

deliver_at : (k : Key) (c : Context) (st : Stage) (slot : ℕ) (is : List Waiting) (s : Said) → StageHas slot st
    → Leaves (must_fire k (deliver_stage c slot st (part_of (Some (staged c st)) is s))) k (part_of (Some (staged c st)) is s) (deliver_stage c slot st (part_of (Some (staged c st)) is s))
deliver_at k c Unbegun slot is s h = absurd h
deliver_at k c (Begun r) slot is s h = give_at k c r slot (r.answers slot) is s h

deliver_of : (k : Key) (slot : ℕ) (o : Option Context) (is : List Waiting) (s : Said) → OfOwner (StageHas slot) o
    → Leaves (must_fire k (deliver_owner slot o (part_of o is s))) k (part_of o is s) (deliver_owner slot o (part_of o is s))
deliver_of k slot None is s h = absurd h
deliver_of k slot (Some c) is s h = deliver_at k c c.stage slot is s h

deliver_leaves : (k : Key) (slot : ℕ) (q : Part) → OfOwner (StageHas slot) q.owner → Leaves (must_fire k (deliver slot q)) k q (deliver slot q)
deliver_leaves k slot q h = deliver_of k slot q.owner q.waiting q.said h

-- a request is served

pub record StaysOwned (must : Option Key) (k : Key) (a b : Part) : Type 0 where
  pub awake : IsAwake b.owner
  pub ordered : IsOrdered must k b.owner b.waiting b.said.state.times
  pub count : contexts_in b ≤ contexts_in a

serve_with : (must : Option Key) (k : Key) (c : Context) (r : Running) (slot : ℕ) (o : Option Request) (is : List Waiting) (s : Said) → is_done r.control ≡ false
    → StaysOwned must k (part_of (Some (staged c (Begun r))) is s) (serve_request c r slot o (part_of (Some (staged c (Begun r))) is s))
unfolding IsAwake StageWakes IsOrdered
serve_with must k c r slot None is s h = record { awake = h; ordered = tt; count = omega arith }
serve_with must k c r slot (Some q) is s h = record { awake = h; ordered = tt; count = omega arith }

serve_at : (must : Option Key) (k : Key) (c : Context) (st : Stage) (slot : ℕ) (is : List Waiting) (s : Said) → StageAsks slot st → StageWakes st
    → StaysOwned must k (part_of (Some (staged c st)) is s) (serve_stage c slot st (part_of (Some (staged c st)) is s))
unfolding StageWakes
serve_at must k c Unbegun slot is s h w = absurd h
serve_at must k c (Begun r) slot is s h w = serve_with must k c r slot (request_at r.control slot) is s w

serve_of : (must : Option Key) (k : Key) (slot : ℕ) (o : Option Context) (is : List Waiting) (s : Said) → OfOwner (StageAsks slot) o → IsAwake o
    → StaysOwned must k (part_of o is s) (serve_owner slot o (part_of o is s))
unfolding IsAwake
serve_of must k slot None is s h w = absurd h
serve_of must k slot (Some c) is s h w = serve_at must k c c.stage slot is s h w

serve_stays : (must : Option Key) (k : Key) (slot : ℕ) (q : Part) → OfOwner (StageAsks slot) q.owner → IsAwake q.owner → StaysOwned must k q (serve slot q)
serve_stays must k slot q h w = serve_of must k slot q.owner q.waiting q.said h w

-- a timer fires, or a row comes

record Grown (must : Option Key) (k : Key) (a b : Part) : Type 0 where
  awake : IsAwake b.owner
  ordered : IsOrdered must k b.owner b.waiting b.said.state.times
  count : contexts_in b ≤ suc (contexts_in a)

fire_due_is : (must : Option Key) (k : Key) (n e : ℕ) (w : ℤ) (more : ℕ) (is : List Waiting) (times : List ℤ) (s : Said) → is_due w times ≡ true
    → Grown must k (part_of None (Mark e w (suc more) ∷ is) s) (fire_due n e w more is times (part_of None (Mark e w (suc more) ∷ is) s))
unfolding IsAwake StageWakes IsOrdered
fire_due_is must k n e w more is [] s h = absurd (true_false h)
fire_due_is must k n e w more is (t ∷ ts) s h = of (int_le t w) h
  where
    before : Part
    before = part_of None (Mark e w (suc more) ∷ is) s

    behind : Part
    behind = record {
      owner = Some (new_context n e (firing_job w t));
      waiting = Mark e w more ∷ is;
      said = record { state = without_least s.state; groups = s.groups };
    }

    of : (b : Bool) → b ≡ true → Grown must k before (cond b behind before)
    of true x = record { awake = tt; ordered = tt; count = omega arith }
    of false x = absurd (true_false x)

fire_of : (must next : Option Key) (k : Key) (n : ℕ) (o : Option Context) (is : List Waiting) (s : Said) → is_idle_with o is ≡ true → IsOrdered must k o is s.state.times
    → Grown next k (part_of o is s) (fire_front n o is (part_of o is s))
unfolding IsOrdered FrontFires
fire_of must next k n None [] s i h = absurd (true_false i)
fire_of must next k n None (Row j e f ∷ is) s i h = absurd h.0
fire_of must next k n None (Mark e w zero ∷ is) s i h = absurd (true_false h.0)
fire_of must next k n None (Mark e w (suc more) ∷ is) s i h = fire_due_is next k n e w more is s.state.times s h.0
fire_of must next k n (Some c) is s i h = absurd (true_false i)

fire_grown : (must next : Option Key) (k : Key) (n : ℕ) (q : Part) → is_idle q ≡ true → IsOrdered must k q.owner q.waiting q.said.state.times → Grown next k q (fire n q)
fire_grown must next k n q i h = fire_of must next k n q.owner q.waiting q.said i h

rows_row : (is : List Waiting) (n e : ℕ) (f : Facts) → rows_in (is ++ Row n e f ∷ []) ≡ suc (rows_in is)
rows_row [] n e f = refl
rows_row (Row i g h ∷ is) n e f = let x : rows_in (is ++ Row n e f ∷ []) ≡ suc (rows_in is) = rows_row is n e f in omega arith
rows_row (Mark g w more ∷ is) n e f = rows_row is n e f

rows_mark : (is : List Waiting) (e : ℕ) (w : ℤ) (more : ℕ) → rows_in (is ++ Mark e w more ∷ []) ≡ rows_in is
rows_mark [] e w more = refl
rows_mark (Row i g h ∷ is) e w more = ap (λ (n : ℕ). 1 + n) (rows_mark is e w more)
rows_mark (Mark g v m ∷ is) e w more = rows_mark is e w more

admit_of : (must : Option Key) (k : Key) (n e : ℕ) (f : Facts) (o : Option Context) (is : List Waiting) (s : Said) → is_idle_with o is ≡ false → IsAwake o → IsOrdered must k o is s.state.times
    → Grown must k (part_of o is s) (admit_at n e f o is s)
unfolding IsAwake StageWakes IsOrdered FrontFires
admit_of must k n e f None [] s i w d = record { awake = tt; ordered = tt; count = omega arith }
admit_of must k n e f None (Row j g h ∷ is) s i w d = absurd d.0
admit_of must k n e f None (Mark g v more ∷ is) s i w d = absurd (true_false (sym i))
admit_of must k n e f (Some c) is s i w d = record { awake = w; ordered = tt; count = (let x : rows_in (is ++ Row n e f ∷ []) ≡ suc (rows_in is) = rows_row is n e f in omega arith) }

admit_grown : (must : Option Key) (k : Key) (n e : ℕ) (f : Facts) (q : Part) → is_idle q ≡ false → IsAwake q.owner → IsOrdered must k q.owner q.waiting q.said.state.times → Grown must k q (admit n e f q)
admit_grown must k n e f q i w d = admit_of must k n e f q.owner q.waiting q.said i w d

-- a mark comes

due_fires : (w : ℤ) (times : List ℤ) → is_due w times ≡ true → may_fire w most_firings times ≡ true
unfolding most_firings
due_fires w times h = h

record Marked (must : Option Key) (k : Key) (a b : Part) : Type 0 where
  awake : IsAwake b.owner
  ordered : IsOrdered must k b.owner b.waiting b.said.state.times
  count : contexts_in b ≡ contexts_in a

mark_of : (must : Option Key) (k : Key) (e : ℕ) (w : ℤ) (o : Option Context) (is : List Waiting) (s : Said) → IsAwake o → IsOrdered must k o is s.state.times
    → Marked must k (part_of o is s) (mark_at e w most_firings o is s)
unfolding IsAwake StageWakes IsOrdered FrontFires
mark_of must k e w None [] s a h = of (is_due w s.state.times) refl
  where
    of : (b : Bool) → is_due w s.state.times ≡ b → Marked must k (part_of None [] s) (cond b (part_of None (Mark e w most_firings ∷ []) s) (part_of None [] s))
    of true x = record { awake = tt; ordered = (due_fires w s.state.times x, inl refl); count = refl }
    of false x = record { awake = tt; ordered = (tt, inl refl); count = refl }
mark_of must k e w None (Row n f facts ∷ is) s a h = absurd h.0
mark_of must k e w None (Mark f v more ∷ is) s a h = record {
  awake = tt;
  ordered = (h.0, of h.1);
  count = ap (λ (n : ℕ). 0 + n) (rows_mark is e w most_firings);
}
  where
    of : (rows_in is ≡ 0) ⊎ (must ≡ Some k) → (rows_in (is ++ Mark e w most_firings ∷ []) ≡ 0) ⊎ (must ≡ Some k)
    of (inl x) = inl (rows_mark is e w most_firings ∙ x)
    of (inr x) = inr x
mark_of must k e w (Some c) is s a h = record { awake = a; ordered = tt; count = ap (λ (n : ℕ). 1 + n) (rows_mark is e w most_firings) }

mark_is : (must : Option Key) (k : Key) (e : ℕ) (w : ℤ) (q : Part) → IsAwake q.owner → IsOrdered must k q.owner q.waiting q.said.state.times → Marked must k q (mark e w most_firings q)
mark_is must k e w q a h = mark_of must k e w q.owner q.waiting q.said a h

mark_free : (e : ℕ) (w : ℤ) (more : ℕ) (o : Option Context) (is : List Waiting) (s : Said) → o ≡ None → is ≡ [] → s.state.times ≡ [] → IsFree (mark_at e w more o is s)
mark_free e w more None [] s a b c = subst IsFree (sym (cond-false (is_due w s.state.times) (part_of None (Mark e w more ∷ []) s) (part_of None [] s) (ap (is_due w) c)))
    (record { owner = refl; waiting = refl; times = c })
mark_free e w more None (x ∷ is) s a b c = absurd (cc b)
mark_free e w more (Some d) is s a b c = absurd (cc a)

-- the machine

pub record IsOrderly (r : Rules) (m : Machine) : Type 0 where
  pub sound : IsSound r m
  pub limit : in_flight m ≤ r.limit
  pub absent : (k : Key) → list_any (bytes_eq k) m.keys ≡ false → IsFree (m.parts k)

at_part : (P : Key → Part → Type 0) (parts : Key → Part) (k : Key) (q : Part) → P k q → ((j : Key) → bytes_eq k j ≡ false → P j (parts j)) → (j : Key) → P j (part_at parts k q j)
at_part P parts k q a b j = by_cases (bytes_eq k j)
    (λ x. subst (P j) (sym (cond-true (bytes_eq k j) q (parts j) x)) (subst (λ (i : Key). P i q) (key_is k j x) a))
    (λ x. subst (P j) (sym (cond-false (bytes_eq k j) q (parts j) x)) (b j x))

own_part : (parts : Key → Part) (k : Key) (q : Part) → part_at parts k q k ≡ q
own_part parts k q = cond-true (bytes_eq k k) q (parts k) (same_key k)

other_part : (parts : Key → Part) (k : Key) (q : Part) (j : Key) → bytes_eq k j ≡ false → part_at parts k q j ≡ parts j
other_part parts k q j x = cond-false (bytes_eq k j) q (parts j) x

other_ordered : (must next : Option Key) (k j : Key) (o : Option Context) (is : List Waiting) (times : List ℤ) → MayFireNow k must → bytes_eq k j ≡ false
    → IsOrdered must j o is times → IsOrdered next j o is times
unfolding IsOrdered
other_ordered must next k j None is times may x h = (h.0, inl (of must may h.1))
  where
    of : (o : Option Key) → MayFireNow k o → (rows_in is ≡ 0) ⊎ (o ≡ Some j) → rows_in is ≡ 0
    of o y (inl e) = e
    of None y (inr e) = absurd (none_some e)
    of (Some i) y (inr e) = let same : i ≡ j = cc in absurd (true_false (sym x ∙ (ap (bytes_eq k) (sym same ∙ y) ∙ same_key k)))
other_ordered must next k j (Some c) is times may x h = tt

-- a key that is owned or idle is among the keys
pub present : (r : Rules) (m : Machine) → IsOrderly r m → (P : Stage → Type 0) (k : Key) → OfOwner P (m.parts k).owner → list_any (bytes_eq k) m.keys ≡ true
present r m o P k h = by_cases (list_any (bytes_eq k) m.keys) (λ x. x) (λ x. absurd (subst (OfOwner P) (o.absent k x).owner h))

pub idle_present : (r : Rules) (m : Machine) → IsOrderly r m → (k : Key) → is_idle (m.parts k) ≡ true → list_any (bytes_eq k) m.keys ≡ true
idle_present r m o k h = by_cases (list_any (bytes_eq k) m.keys) (λ x. x)
    (λ x. absurd (true_false (sym (ap₂ is_idle_with (o.absent k x).owner (o.absent k x).waiting) ∙ h)))

still_absent : (r : Rules) (m : Machine) → IsOrderly r m → (k : Key) (q : Part) → list_any (bytes_eq k) m.keys ≡ true → (j : Key) → list_any (bytes_eq j) m.keys ≡ false → IsFree (part_at m.parts k q j)
still_absent r m o k q there = at_part (λ (j : Key) (x : Part). list_any (bytes_eq j) m.keys ≡ false → IsFree x) m.parts k q (λ h. absurd (both_ways (list_any (bytes_eq k) m.keys) h there)) (λ j x. o.absent j)

may_now : (k : Key) (must : Option Key) → must ≡ None → MayFireNow k must
may_now k must e = subst (MayFireNow k) (sym e) tt

module _ (r : Rules) (m : Machine) (o : IsOrderly r m) (rises : IsStrictlySortedBy key_cmp m.keys) where
  no_room : (next : Option Key) {A : Type 0} (j : Key) → next ≡ None → next ≡ Some j → A
  no_room next j e h = absurd (none_some (sym e ∙ h))

  counts : Key → ℕ
  counts j = contexts_in (m.parts j)

  counts_with : Key → Part → Key → ℕ
  counts_with k q j = contexts_in (part_at m.parts k q j)

  others : (k : Key) (q : Part) (j : Key) → bytes_eq k j ≡ false → contexts_in (part_at m.parts k q j) ≡ contexts_in (m.parts j)
  others k q j x = ap contexts_in (other_part m.parts k q j x)

  own : (k : Key) (q : Part) → contexts_in (part_at m.parts k q k) ≡ contexts_in q
  own k q = ap contexts_in (own_part m.parts k q)

  -- Start and Deliver
  back_orderly : (k : Key) (effects : Effects) (q : Part) → m.must ≡ None → list_any (bytes_eq k) m.keys ≡ true → Leaves (must_fire k q) k (m.parts k) q → IsOrderly r (calls_back k effects q m)
  back_orderly k effects q none there l = record {
    sound = record {
      awake = at_part (λ (j : Key) (x : Part). IsAwake x.owner) m.parts k q l.awake (λ j x. o.sound.awake j);
      ordered = at_part (λ (j : Key) (x : Part). IsOrdered (must_fire k q) j x.owner x.waiting x.said.state.times) m.parts k q l.ordered
          (λ j x. other_ordered m.must (must_fire k q) k j (m.parts j).owner (m.parts j).waiting (m.parts j).said.state.times (may_now k m.must none) x (o.sound.ordered j));
      room = λ j h. room j (is_idle q) refl h;
    };
    limit = (let a : total m.keys (λ j. contexts_in (part_at m.parts k q j)) ≤ total m.keys (λ j. contexts_in (m.parts j)) =
        at_most k (λ j. contexts_in (m.parts j)) (λ j. contexts_in (part_at m.parts k q j)) m.keys rises (others k q) (let b : contexts_in (part_at m.parts k q k) ≡ contexts_in q = own k q in let c : contexts_in q ≤ contexts_in (m.parts k) = l.count in omega arith) in
        let d : in_flight m ≤ r.limit = o.limit in omega arith);
    absent = still_absent r m o k q there;
  }
    where
      room : (j : Key) (b : Bool) → is_idle q ≡ b → cond b (Some k) None ≡ Some j → (is_idle (part_at m.parts k q j) ≡ true) × (in_flight (calls_back k effects q m) < r.limit)
      room j true i h = let same : k ≡ j = cc in (
        ap (λ (x : Key). is_idle (part_at m.parts k q x)) (sym same) ∙ (ap is_idle (own_part m.parts k q) ∙ i),
        (let a : suc (total m.keys (λ j. contexts_in (part_at m.parts k q j))) ≤ total m.keys (λ j. contexts_in (m.parts j)) =
            one_fewer k (λ j. contexts_in (m.parts j)) (λ j. contexts_in (part_at m.parts k q j)) m.keys rises (others k q) there
            (let b : contexts_in (part_at m.parts k q k) ≡ contexts_in q = own k q in let c : suc (contexts_in q) ≤ contexts_in (m.parts k) = l.fewer i in omega arith) in
            let d : in_flight m ≤ r.limit = o.limit in omega arith),
      )
      room j false i h = absurd (none_some h)

  -- Serve
  pub serve_orderly : (k : Key) (q : Part) → m.must ≡ None → list_any (bytes_eq k) m.keys ≡ true → StaysOwned m.must k (m.parts k) q → IsOrderly r (goes_on k m.must [] q m)
  serve_orderly k q none there l = record {
    sound = record {
      awake = at_part (λ (j : Key) (x : Part). IsAwake x.owner) m.parts k q l.awake (λ j x. o.sound.awake j);
      ordered = at_part (λ (j : Key) (x : Part). IsOrdered m.must j x.owner x.waiting x.said.state.times) m.parts k q l.ordered (λ j x. o.sound.ordered j);
      room = λ j h. no_room m.must j none h;
    };
    limit = (let a : total m.keys (λ j. contexts_in (part_at m.parts k q j)) ≤ total m.keys (λ j. contexts_in (m.parts j)) =
        at_most k (λ j. contexts_in (m.parts j)) (λ j. contexts_in (part_at m.parts k q j)) m.keys rises (others k q) (let b : contexts_in (part_at m.parts k q k) ≡ contexts_in q = own k q in let c : contexts_in q ≤ contexts_in (m.parts k) = l.count in omega arith) in
        let d : in_flight m ≤ r.limit = o.limit in omega arith);
    absent = still_absent r m o k q there;
  }

  -- Fire
  fire_orderly : (k : Key) (q : Part) → MayFireNow k m.must → in_flight m < r.limit → list_any (bytes_eq k) m.keys ≡ true → Grown None k (m.parts k) q → IsOrderly r (goes_on k None [] q m)
  fire_orderly k q may some there l = record {
    sound = record {
      awake = at_part (λ (j : Key) (x : Part). IsAwake x.owner) m.parts k q l.awake (λ j x. o.sound.awake j);
      ordered = at_part (λ (j : Key) (x : Part). IsOrdered None j x.owner x.waiting x.said.state.times) m.parts k q l.ordered
          (λ j x. other_ordered m.must None k j (m.parts j).owner (m.parts j).waiting (m.parts j).said.state.times may x (o.sound.ordered j));
      room = λ j h. absurd (none_some h);
    };
    limit = (let a : total m.keys (λ j. contexts_in (part_at m.parts k q j)) ≤ suc (total m.keys (λ j. contexts_in (m.parts j))) =
        one_more_at_most k (λ j. contexts_in (m.parts j)) (λ j. contexts_in (part_at m.parts k q j)) m.keys rises (others k q) (let b : contexts_in (part_at m.parts k q k) ≡ contexts_in q = own k q in let c : contexts_in q ≤ suc (contexts_in (m.parts k)) = l.count in omega arith) in
        let d : in_flight m < r.limit = some in omega arith);
    absent = still_absent r m o k q there;
  }

  -- Admit
  free_counts : (k : Key) → list_any (bytes_eq k) m.keys ≡ false → contexts_in (m.parts k) ≡ 0
  free_counts k x = ap₂ (λ (a : Option Context) (is : List Waiting). owners a + rows_in is) (o.absent k x).owner (o.absent k x).waiting

  admit_orderly : (g : ℕ) (p : Program) (n : ℕ) (k : Key) (time : ℤ) (values : List ℤ) → m.must ≡ None → in_flight m < r.limit → NoneIsIdle m → IsOrderly r (happens g p (Admit n k time values) m)
  admit_orderly g p n k time values none some idle = record {
    sound = record {
      awake = at_part (λ (j : Key) (x : Part). IsAwake x.owner) m.parts k q l.awake (λ j x. o.sound.awake j);
      ordered = at_part (λ (j : Key) (x : Part). IsOrdered m.must j x.owner x.waiting x.said.state.times) m.parts k q l.ordered (λ j x. o.sound.ordered j);
      room = λ j h. no_room m.must j none h;
    };
    limit = (let a : total (insert_key key_cmp m.keys k) (λ j. contexts_in (part_at m.parts k q j)) ≤ suc (total m.keys (λ j. contexts_in (m.parts j))) =
        inserted_one_more k (λ j. contexts_in (m.parts j)) (λ j. contexts_in (part_at m.parts k q j)) m.keys rises (others k q) (free_counts k)
        (let b : contexts_in (part_at m.parts k q k) ≡ contexts_in q = own k q in let c : contexts_in q ≤ suc (contexts_in (m.parts k)) = l.count in omega arith) in
        let d : in_flight m < r.limit = some in omega arith);
    absent = at_part (λ (j : Key) (x : Part). list_any (bytes_eq j) (insert_key key_cmp m.keys k) ≡ false → IsFree x) m.parts k q
        (λ h. absurd (both_ways (list_any (bytes_eq k) (insert_key key_cmp m.keys k)) h (has_inserted k k m.keys (inl refl))))
        (λ j x h. by_cases (list_any (bytes_eq j) m.keys)
        (λ y. absurd (both_ways (list_any (bytes_eq j) (insert_key key_cmp m.keys k)) h (has_inserted j k m.keys (inr y))))
        (λ y. o.absent j y));
  }
    where
      q : Part
      q = admit n m.epoch (row_facts m.wm time values) (m.parts k)

      l : Grown m.must k (m.parts k) q
      l = admit_grown m.must k n m.epoch (row_facts m.wm time values) (m.parts k) (idle k) (o.sound.awake k) (o.sound.ordered k)

  -- Close
  mark_orderly : (g : ℕ) (p : Program) (w : ℤ) → m.must ≡ None → IsOrderly r (happens g p (Close (ByWatermark w)) m)
  mark_orderly g p w none = record {
    sound = record {
      awake = λ k. (l k).awake;
      ordered = λ k. (l k).ordered;
      room = λ j h. no_room m.must j none h;
    };
    limit = (let a : total m.keys (λ j. contexts_in (mark m.epoch w most_firings (m.parts j))) ≡ total m.keys (λ j. contexts_in (m.parts j)) =
        total_same (λ j. contexts_in (m.parts j)) (λ j. contexts_in (mark m.epoch w most_firings (m.parts j))) m.keys (λ j. (l j).count) in
        let d : in_flight m ≤ r.limit = o.limit in omega arith);
    absent = λ k x. mark_free m.epoch w most_firings (m.parts k).owner (m.parts k).waiting (m.parts k).said (o.absent k x).owner (o.absent k x).waiting (o.absent k x).times;
  }
    where
      l : (k : Key) → Marked m.must k (m.parts k) (mark m.epoch w most_firings (m.parts k))
      l k = mark_is m.must k m.epoch w (m.parts k) (o.sound.awake k) (o.sound.ordered k)

  barrier_orderly : (g : ℕ) (p : Program) (id : ℤ) → IsOrderly r (happens g p (Close (ByBarrier id)) m)
  barrier_orderly g p id = record { sound = record { awake = o.sound.awake; ordered = o.sound.ordered; room = o.sound.room }; limit = o.limit; absent = o.absent }

  -- Send
  send_orderly : (g : ℕ) (p : Program) (cs : List Closed) → IsOrderly r (send_first g p cs m)
  send_orderly g p [] = o
  send_orderly g p (c ∷ cs) = record { sound = record { awake = o.sound.awake; ordered = o.sound.ordered; room = o.sound.room }; limit = o.limit; absent = o.absent }

  -- every event
  pub event_orderly : (g : ℕ) (p : Program) (e : Happening) → Allowed r e m → IsOrderly r (happens g p e m)
  event_orderly g p (Admit n k time values) h = admit_orderly g p n k time values h.0 h.2 h.3
  event_orderly g p (Close (ByWatermark w)) h = mark_orderly g p w h.0
  event_orderly g p (Close (ByBarrier id)) h = barrier_orderly g p id
  event_orderly g p (Fire n k) h = fire_orderly k (fire n (m.parts k)) h.0 h.2 (idle_present r m o k h.1) (fire_grown m.must None k n (m.parts k) h.1 (o.sound.ordered k))
  event_orderly g p (Start k) h = back_orderly k (start_effects p (m.parts k)) (start p (m.parts k)) h.0 (present r m o StageUnbegun k h.1) (start_leaves p k (m.parts k) h.1)
  event_orderly g p (Serve k slot) h = serve_orderly k (serve slot (m.parts k)) h.0 (present r m o (StageAsks slot) k h.1) (serve_stays m.must k slot (m.parts k) h.1 (o.sound.awake k))
  event_orderly g p (Deliver k slot) h = back_orderly k (deliver_effects slot (m.parts k)) (deliver slot (m.parts k)) h.0 (present r m o (StageHas slot) k h.1) (deliver_leaves k slot (m.parts k) h.1)
  event_orderly g p Send h = send_orderly g p m.unsent

none_in_flight : (ks : List Key) → total ks (λ k. 0) ≡ 0
none_in_flight [] = refl
none_in_flight (k ∷ ks) = omega (arith, none_in_flight ks)

pub start_orderly : (r : Rules) (p : Program) (from : Origin) → IsOrigin p from → IsOrderly r (machine_from from)
unfolding IsAwake IsOrdered FrontFires
start_orderly r p from fits = record {
  sound = record { awake = λ k. tt; ordered = λ k. (tt, inl refl); room = λ k h. absurd (none_some h) };
  limit = omega (arith, none_in_flight from.keys);
  absent = λ k h. record { owner = refl; waiting = refl; times = ap (λ (s : KeyState). s.times) (fits.others k h) };
}

-- a number that no context has

number_of : Option Context → ℕ
number_of None = 0
number_of (Some c) = c.number

numbers_in : List Waiting → ℕ
numbers_in [] = 0
numbers_in (Row n e f ∷ is) = n + numbers_in is
numbers_in (Mark e w more ∷ is) = numbers_in is

part_numbers : Part → ℕ
part_numbers q = number_of q.owner + numbers_in q.waiting

not_in : (n : ℕ) (is : List Waiting) → numbers_in is < n → NotIn n is
unfolding numbers_in
not_in n [] h = tt
not_in n (Row i e f ∷ is) h = let a : i + numbers_in is < n = h in ((λ x. absurd (omega arith)), not_in n is (omega arith))
not_in n (Mark e w more ∷ is) h = not_in n is h

not_owner : (n : ℕ) (o : Option Context) → number_of o < n → NumbersOwner n o → ⊥
unfolding number_of
not_owner n None h x = x
not_owner n (Some c) h x = let a : c.number ≡ n = x in let b : c.number < n = h in absurd (omega arith)

pub fresh_number : Machine → ℕ
fresh_number m = suc (total m.keys (λ k. part_numbers (m.parts k)))

pub is_new : (r : Rules) (m : Machine) → IsOrderly r m → IsNew (fresh_number m) m
unfolding fresh_number part_numbers number_of numbers_in
is_new r m o k = by_cases (list_any (bytes_eq k) m.keys)
    (λ x. of (in_total m.keys (λ j. part_numbers (m.parts j)) k x))
    (λ x. of (let e : part_numbers (m.parts k) ≡ 0 = ap₂ (λ (a : Option Context) (is : List Waiting). number_of a + numbers_in is) (o.absent k x).owner (o.absent k x).waiting in omega arith))
  where
    all : ℕ
    all = total m.keys (λ j. part_numbers (m.parts j))

    of : part_numbers (m.parts k) ≤ all → (NumbersOwner (suc all) (m.parts k).owner → ⊥) × NotIn (suc all) (m.parts k).waiting
    of h = (not_owner (suc all) (m.parts k).owner (omega arith), not_in (suc all) (m.parts k).waiting (omega arith))

module _ (g : ℕ) (p : Program) (Good : Running → Type 0) (H : Handles p Good) (from : Origin) (fits : IsOrigin p from) where
  pub keys_rise : (m : Machine) (done : List Event) → Alone g p Good H from fits m done → IsStrictlySortedBy key_cmp m.keys
  keys_rise m done a = subst (λ (ks : List Key). IsStrictlySortedBy key_cmp ks) (sym a.keys) (rises_from g p from fits done).keys

  run_orderly : (r : Rules) (es : List Happening) (m : Machine) (done : List Event) → Alone g p Good H from fits m done → IsOrderly r m → IsRun r g p es m → IsOrderly r (after_all g p es m)
  run_orderly r [] m done a o h = o
  run_orderly r (e ∷ es) m done a o h =
      run_orderly r es (happens g p e m) (done ++ taken (e ∷ [])) (event_alone g p Good H from fits r e m done a h.0) (event_orderly r m o (keys_rise m done a) g p e h.0) h.1

  pub always_orderly : (r : Rules) (es : List Happening) → IsRun r g p es (machine_from from) → IsOrderly r (machine_of g p from es)
  always_orderly r es h = run_orderly r es (machine_from from) [] (start_alone g p Good H from fits) (start_orderly r p from fits) h

  -- where no event is allowed that takes nothing of the input, nothing is left
  pub never_stuck : (r : Rules) (es : List Happening) → IsRun r g p es (machine_from from) → 0 < r.limit
      → ((e : Happening) → IsWork e → Allowed r e (machine_of g p from es) → ⊥) → IsAtRest (machine_of g p from es)
  never_stuck r es h some none =
      let m : Machine = machine_of g p from es in
      let o : IsOrderly r m = always_orderly r es h in
      at_rest r m o.sound some (fresh_number m) (is_new r m o) Good (goes_as_alone g p Good H from fits r es h).good H.waits none
