-- What the plain thread fires at a watermark is the merge of what each key fires by itself.
use Rattle.std.proofs.Common.{◌≡◌, ℕ, zero, suc, ◌*◌, ◌-◌, ◌≤◌, ◌<◌, ℤ, int_le, int_lt, List, [], ◌∷◌, ◌++◌, length, Bool, true, false, cond, Option, Some, None, refl, sym, ap, ap₂, ◌∙◌, arith, subst, append_assoc, append-nil, ⊎_elim}
use Rattle.std.specs.Str.{bytes_eq}
use Rattle.std.specs.List.{list_any}
use Rattle.std.proofs.lemmas.Bool.{cond-true, cond-false}
use Rattle.ax_text.specs.KeyStates.{KeyState}
use Rattle.ax_text.specs.Run.{World, state_after}
use Rattle.ax_text.specs.Programs.{Program}
use Rattle.ax_text.specs.Jobs.{Group, firing_job, job_run, group_of}
use Rattle.ax_machine.specs.Entries.{Key, Watermark, Entry, says}
use Rattle.ax_machine.specs.Entries as entry
use Rattle.ax_machine.specs.Events.{Event}
use Rattle.ax_machine.specs.Events as event
use Rattle.ax_machine.specs.Firings.{Due, most_firings, due_of, candidate, earlier, next_due, one_less}
use Rattle.ax_machine.specs.Sync.{Plain, without_least, fire, fire_next, fire_all, at_watermark}
use Rattle.ax_machine.specs.KeySync.{Said, KeyPlain, fire_first, key_fires}
use Rattle.ax_machine.proofs.FiringLemmas.{same_key, key_is, among, IsOwn, candidate_own, IsNext, next_found, next_none_is, total_most, total_lt}
use Rattle.ax_machine.proofs.FiringLemmas as firing
use Rattle.ax_execution.specs.Sums.{total}
use Rattle.ax_execution.specs.Origins.{Origin, IsOrigin, sync_from, key_sync_from, IsProjectedFrom}
use Rattle.ax_execution.proofs.Projected.{projected_from}
use Rattle.ax_execution.specs.Merges.{Firings, first_firing, least_firing, first_lines, behind_first, without_first, merge_on, merged, merge, firings_at}
use Rattle.ax_execution.proofs.Alone.{key_next, sync_next, watermark_taken}
use Rattle.ax_execution.proofs.Upto.{by_cases}

true_false : false ≡ true → ⊥
true_false e = cc e

-- what a key fires that may fire so many times more
abbrev fires : Program → ℤ → ℕ → KeyState → List Group
fires p w n state = (key_fires p w n (record { state = state; groups = [] })).groups

-- what was said before makes no difference
fires_first : (p : Program) (w : ℤ) (go : Said → Said) → ((state : KeyState) (gs : List Group) → (go (record { state = state; groups = gs })).groups ≡ gs ++ (go (record { state = state; groups = [] })).groups)
    → (times : List ℤ) (state : KeyState) (gs : List Group) → (fire_first p w go times (record { state = state; groups = gs })).groups ≡ gs ++ (fire_first p w go times (record { state = state; groups = [] })).groups
fires_first p w go ih [] state gs = sym (append-nil gs)
fires_first p w go ih (t ∷ ts) state gs = of (int_le t w)
  where
    world : World
    world = job_run p (firing_job w t) state.cells

    next : KeyState
    next = state_after (without_least state) world

    group : Group
    group = group_of (firing_job w t) world

    of : (b : Bool) → (cond b (go (record { state = next; groups = gs ++ group ∷ [] })) (record { state = state; groups = gs })).groups ≡ gs ++ (cond b (go (record { state = next; groups = group ∷ [] })) (record { state = state; groups = [] })).groups
    of true = ih next (gs ++ group ∷ []) ∙ (append_assoc gs (group ∷ []) (go (record { state = next; groups = [] })).groups ∙ ap (λ (xs : List Group). gs ++ xs) (sym (ih next (group ∷ []))))
    of false = sym (append-nil gs)

pub fires_behind : (p : Program) (w : ℤ) (n : ℕ) (state : KeyState) (gs : List Group) → (key_fires p w n (record { state = state; groups = gs })).groups ≡ gs ++ fires p w n state
fires_behind p w zero state gs = sym (append-nil gs)
fires_behind p w (suc n) state gs = fires_first p w (key_fires p w n) (λ x y. fires_behind p w n x y) state.times state gs

-- what a key leaves behind its first firing, and the group of that
abbrev after : Program → ℤ → ℤ → KeyState → KeyState
after p w t state = state_after (without_least state) (job_run p (firing_job w t) state.cells)

abbrev fired : Program → ℤ → ℤ → KeyState → Group
fired p w t state = group_of (firing_job w t) (job_run p (firing_job w t) state.cells)

goes_first : (p : Program) (w : ℤ) (n : ℕ) (k : Key) (times : List ℤ) (state : KeyState) (d : Due) → due_of w k times ≡ Some d
    → (fire_first p w (key_fires p w n) times (record { state = state; groups = [] })).groups ≡ fired p w d.time state ∷ fires p w n (after p w d.time state)
goes_first p w n k [] state d e = absurd (cc e)
goes_first p w n k (t ∷ ts) state d e = of (int_le t w) e
  where
    of : (b : Bool) → cond b (Some (record { time = t; key = k })) None ≡ Some d
        → (cond b (key_fires p w n (record { state = after p w t state; groups = fired p w t state ∷ [] })) (record { state = state; groups = [] })).groups ≡ fired p w d.time state ∷ fires p w n (after p w d.time state)
    of true x = let same : record { time = t; key = k } ≡ d = cc in
        fires_behind p w n (after p w t state) (fired p w t state ∷ []) ∙ ap (λ (y : Due). fired p w y.time state ∷ fires p w n (after p w y.time state)) same
    of false x = absurd (cc x)

takes_first : (p : Program) (w : ℤ) (n : ℕ) (k : Key) (state : KeyState) (d : Due) → 0 < n → due_of w k state.times ≡ Some d → fires p w n state ≡ fired p w d.time state ∷ fires p w (n - 1) (after p w d.time state)
takes_first p w zero k state d some e = absurd (omega (arith, some))
takes_first p w (suc n) k state d some e =
    let back : n ≡ suc n - 1 = omega arith in
    goes_first p w n k state.times state d e ∙ ap (λ (i : ℕ). fired p w d.time state ∷ fires p w i (after p w d.time state)) back

-- the first firing of a key is the timer with which it may fire
first_is : (p : Program) (w : ℤ) (n : ℕ) (k : Key) (state : KeyState) → first_firing k (fires p w n state) ≡ candidate w n k state
first_is p w zero k state = refl
first_is p w (suc n) k state = of state.times
  where
    at : (t : ℤ) (b : Bool) → first_firing k (cond b (key_fires p w n (record { state = after p w t state; groups = fired p w t state ∷ [] })) (record { state = state; groups = [] })).groups ≡ cond b (Some (record { time = t; key = k })) None
    at t true = ap (first_firing k) (fires_behind p w n (after p w t state) (fired p w t state ∷ []))
    at t false = refl

    of : (times : List ℤ) → first_firing k (fire_first p w (key_fires p w n) times (record { state = state; groups = [] })).groups ≡ due_of w k times
    of [] = refl
    of (t ∷ ts) = at t (int_le t w)

-- of a map of keys, where each may fire so many times more
abbrev all_fires : Program → ℤ → (Key → ℕ) → (Key → KeyState) → Firings
all_fires p w more map k = fires p w (more k) (map k)

least_is : (p : Program) (w : ℤ) (ks : List Key) (more : Key → ℕ) (map : Key → KeyState) → least_firing ks (all_fires p w more map) ≡ next_due w ks more map
least_is p w [] more map = refl
least_is p w (k ∷ ks) more map = ap₂ earlier (first_is p w (more k) k (map k)) (least_is p w ks more map)

none_merged : (n : ℕ) (ks : List Key) (fs : Firings) → least_firing ks fs ≡ None → merged n ks fs ≡ []
none_merged zero ks fs e = refl
none_merged (suc n) ks fs e = ap (λ (o : Option Due). merge_on (merged n ks) o fs) e

some_merged : (n : ℕ) (ks : List Key) (fs : Firings) (d : Due) → least_firing ks fs ≡ Some d → merged (suc n) ks fs ≡ says d.key (first_lines (fs d.key)) ++ merged n ks (without_first fs d.key)
some_merged n ks fs d e = ap (λ (o : Option Due). merge_on (merged n ks) o fs) e

-- one firing fewer

shorter : (gs : List Group) → 0 < length gs → length (behind_first gs) < length gs
shorter [] h = absurd (omega (arith, h))
shorter (g ∷ gs) h = omega arith

no_longer : (b : Bool) (gs : List Group) → length (cond b (behind_first gs) gs) ≤ length gs
no_longer true [] = omega arith
no_longer true (g ∷ gs) = omega arith
no_longer false gs = omega arith

no_more : (ks : List Key) (fs : Firings) (j : Key) → total ks (λ k. length (without_first fs j k)) ≤ total ks (λ k. length (fs k))
no_more [] fs j = omega arith
no_more (k ∷ ks) fs j = omega (arith, no_longer (bytes_eq j k) (fs k), no_more ks fs j)

fewer : (ks : List Key) (fs : Firings) (j : Key) → list_any (bytes_eq j) ks ≡ true → 0 < length (fs j) → total ks (λ k. length (without_first fs j k)) < total ks (λ k. length (fs k))
fewer [] fs j e h = absurd (true_false e)
fewer (k ∷ ks) fs j e h = ⊎_elim
    (λ x. let here : length (without_first fs j k) ≡ length (behind_first (fs k)) = ap (λ (gs : List Group). length gs) (cond-true (bytes_eq j k) (behind_first (fs k)) (fs k) (subst (λ (i : Key). bytes_eq j i ≡ true) x (same_key j))) in
    let less : length (behind_first (fs k)) < length (fs k) = shorter (fs k) (subst (λ (i : Key). 0 < length (fs i)) x h) in omega (arith, no_more ks fs j))
    (λ x. omega (arith, no_longer (bytes_eq j k) (fs k), fewer ks fs j x h))
    (among j k ks e)

-- what is left to each key behind the least firing
left_fires : (p : Program) (d : Due) (more : Key → ℕ) (s : Plain) → fires p s.wm (more d.key) (s.map d.key) ≡ fired p s.wm d.time (s.map d.key) ∷ fires p s.wm (more d.key - 1) (after p s.wm d.time (s.map d.key))
    → (k : Key) → without_first (all_fires p s.wm more s.map) d.key k ≡ all_fires p s.wm (one_less more d.key) (fire p d s).map k
left_fires p d more s e k = by_cases (bytes_eq d.key k)
    (λ x. cond-true (bytes_eq d.key k) (behind_first (fires p s.wm (more k) (s.map k))) (fires p s.wm (more k) (s.map k)) x
    ∙ (subst (λ (j : Key). behind_first (fires p s.wm (more j) (s.map j)) ≡ fires p s.wm (more j - 1) (after p s.wm d.time (s.map d.key))) (key_is d.key k x) (ap behind_first e)
    ∙ ap₂ (λ (n : ℕ) (state : KeyState). fires p s.wm n state) (sym (cond-true (bytes_eq d.key k) (more k - 1) (more k) x)) (sym (cond-true (bytes_eq d.key k) (after p s.wm d.time (s.map d.key)) (s.map k) x))))
    (λ x. cond-false (bytes_eq d.key k) (behind_first (fires p s.wm (more k) (s.map k))) (fires p s.wm (more k) (s.map k)) x
    ∙ ap₂ (λ (n : ℕ) (state : KeyState). fires p s.wm n state) (sym (cond-false (bytes_eq d.key k) (more k - 1) (more k) x)) (sym (cond-false (bytes_eq d.key k) (after p s.wm d.time (s.map d.key)) (s.map k) x)))

merged_same : (n : ℕ) (ks : List Key) (fs gs : Firings) → ((k : Key) → fs k ≡ gs k) → merged n ks fs ≡ merged n ks gs
merged_same n ks fs gs h = λ i. merged n ks (λ k. h k i)

lengths_same : (ks : List Key) (fs gs : Firings) → ((k : Key) → fs k ≡ gs k) → total ks (λ k. length (fs k)) ≡ total ks (λ k. length (gs k))
lengths_same ks fs gs h = λ i. total ks (λ k. length (h k i))

-- the claim for what is left to fire
abbrev IsMerged : Program → ℕ → ℕ → (Key → ℕ) → Plain → Type 0
IsMerged p fuel n more s = firing.total s.keys more ≤ fuel → total s.keys (λ k. length (all_fires p s.wm more s.map k)) ≤ n
    → (fire_all p fuel more s).entries ≡ s.entries ++ merged n s.keys (all_fires p s.wm more s.map)

ends : (p : Program) (n : ℕ) (more : Key → ℕ) (s : Plain) → next_due s.wm s.keys more s.map ≡ None → s.entries ≡ s.entries ++ merged n s.keys (all_fires p s.wm more s.map)
ends p n more s e = sym (append-nil s.entries) ∙ ap (λ (es : List Entry). s.entries ++ es) (sym (none_merged n s.keys (all_fires p s.wm more s.map) (least_is p s.wm s.keys more s.map ∙ e)))

goes : (p : Program) (fuel n : ℕ) (more : Key → ℕ) (s : Plain) (d : Due) → next_due s.wm s.keys more s.map ≡ Some d → ((m : ℕ) → IsMerged p fuel m (one_less more d.key) (fire p d s))
    → firing.total s.keys more ≤ suc fuel → total s.keys (λ k. length (all_fires p s.wm more s.map k)) ≤ n
    → (fire_all p fuel (one_less more d.key) (fire p d s)).entries ≡ s.entries ++ merged n s.keys (all_fires p s.wm more s.map)
goes p fuel n more s d e ih enough room = of n room
  where
    it : IsNext s.wm s.keys more s.map d
    it = next_found s.wm s.keys more s.map d e

    own : IsOwn s.wm (more d.key) d.key (s.map d.key).times d
    own = candidate_own s.wm (more d.key) d.key (s.map d.key) d it.own

    head : fires p s.wm (more d.key) (s.map d.key) ≡ fired p s.wm d.time (s.map d.key) ∷ fires p s.wm (more d.key - 1) (after p s.wm d.time (s.map d.key))
    head = takes_first p s.wm (more d.key) d.key (s.map d.key) d own.some_left own.due

    some : 0 < length (fires p s.wm (more d.key) (s.map d.key))
    some = let x : length (fires p s.wm (more d.key) (s.map d.key)) ≡ suc (length (fires p s.wm (more d.key - 1) (after p s.wm d.time (s.map d.key)))) = ap (λ (gs : List Group). length gs) head in omega arith

    less : total s.keys (λ k. length (without_first (all_fires p s.wm more s.map) d.key k)) < total s.keys (λ k. length (all_fires p s.wm more s.map k))
    less = fewer s.keys (all_fires p s.wm more s.map) d.key it.known some

    fewer_left : firing.total s.keys (one_less more d.key) < firing.total s.keys more
    fewer_left = total_lt s.keys more d.key it.known own.some_left

    lines : List (List ℤ)
    lines = (job_run p (firing_job s.wm d.time) (s.map d.key).cells).talk.lines

    of : (n : ℕ) → total s.keys (λ k. length (all_fires p s.wm more s.map k)) ≤ n
        → (fire_all p fuel (one_less more d.key) (fire p d s)).entries ≡ s.entries ++ merged n s.keys (all_fires p s.wm more s.map)
    of zero h = absurd (omega (arith, less, h))
    of (suc n) h =
        let fits : total s.keys (λ k. length (all_fires p s.wm (one_less more d.key) (fire p d s).map k)) ≤ n =
        (let x : total s.keys (λ k. length (without_first (all_fires p s.wm more s.map) d.key k)) ≡ total s.keys (λ k. length (all_fires p s.wm (one_less more d.key) (fire p d s).map k)) =
        lengths_same s.keys (without_first (all_fires p s.wm more s.map) d.key) (all_fires p s.wm (one_less more d.key) (fire p d s).map) (left_fires p d more s head) in omega (arith, less, h)) in
        ih n (omega (arith, fewer_left, enough)) fits
        ∙ (append_assoc s.entries (says d.key lines) (merged n s.keys (all_fires p s.wm (one_less more d.key) (fire p d s).map))
        ∙ ap (λ (es : List Entry). s.entries ++ es)
        (ap₂ (λ (x y : List Entry). x ++ y)
        (ap (λ (gs : List Group). says d.key (first_lines gs)) (sym head))
        (merged_same n s.keys (all_fires p s.wm (one_less more d.key) (fire p d s).map) (without_first (all_fires p s.wm more s.map) d.key) (λ k. sym (left_fires p d more s head k)))
        ∙ sym (some_merged n s.keys (all_fires p s.wm more s.map) d (least_is p s.wm s.keys more s.map ∙ e))))

fire_step : (p : Program) (fuel n : ℕ) (more : Key → ℕ) (s : Plain) → ((m : ℕ) (less : Key → ℕ) (t : Plain) → IsMerged p fuel m less t) → (o : Option Due) → next_due s.wm s.keys more s.map ≡ o
    → firing.total s.keys more ≤ suc fuel → total s.keys (λ k. length (all_fires p s.wm more s.map k)) ≤ n
    → (fire_next p (fire_all p fuel) o more s).entries ≡ s.entries ++ merged n s.keys (all_fires p s.wm more s.map)
fire_step p fuel n more s ih None e enough room = ends p n more s e
fire_step p fuel n more s ih (Some d) e enough room = goes p fuel n more s d e (λ m. ih m (one_less more d.key) (fire p d s)) enough room

none_more : (ks : List Key) (more : Key → ℕ) (w : ℤ) (map : Key → KeyState) → firing.total ks more ≤ 0 → next_due w ks more map ≡ None
none_more ks more w map h = next_none_is w ks more map (λ k x.
    let z : more k ≡ 0 = omega (arith, firing.in_total ks more k x, h) in ap (λ (n : ℕ). candidate w n k (map k)) z)

all_merged : (p : Program) (fuel n : ℕ) (more : Key → ℕ) (s : Plain) → IsMerged p fuel n more s
all_merged p zero n more s enough room = ends p n more s (none_more s.keys more s.wm s.map enough)
all_merged p (suc fuel) n more s enough room = fire_step p fuel n more s (λ m less t. all_merged p fuel m less t) (next_due s.wm s.keys more s.map) refl enough room

-- at a watermark
pub watermark_merges : (g : ℕ) (p : Program) (from : Origin) (es : List Event) (w : ℤ) → int_lt (sync_from g p from es).wm w ≡ true
    → (sync_from g p from (es ++ event.Mark w ∷ [])).entries
    ≡ (sync_from g p from es).entries ++ (merge (sync_from g p from es).keys (λ k. firings_at p w ((sync_from g p from es).map k)) ++ entry.Mark (Watermark w) ∷ [])
watermark_merges g p from es w h =
    ap (λ (t : Plain). t.entries) (sync_next g p from es (event.Mark w) ∙ watermark_taken g p w s h)
    ∙ (ap (λ (xs : List Entry). xs ++ entry.Mark (Watermark w) ∷ [])
    (all_merged p (most_firings * length s.keys) (total s.keys (λ k. length (firings_at p w (s.map k)))) (λ k. most_firings) (at_watermark w s) (total_most s.keys most_firings) (omega arith))
    ∙ append_assoc s.entries (merge s.keys (λ k. firings_at p w (s.map k))) (entry.Mark (Watermark w) ∷ []))
  where
    s : Plain
    s = sync_from g p from es

-- and each key fires what it fires in its own thread
pub fires_alone : (g : ℕ) (p : Program) (from : Origin) (es : List Event) (w : ℤ) (k : Key) → IsOrigin p from → int_lt (sync_from g p from es).wm w ≡ true
    → (key_sync_from p from k (es ++ event.Mark w ∷ [])).said.groups ≡ (key_sync_from p from k es).said.groups ++ firings_at p w ((sync_from g p from es).map k)
fires_alone g p from es w k fits h =
    ap (λ (y : KeyPlain). y.said.groups) (key_next p from k es (event.Mark w))
    ∙ (ap (λ (y : KeyPlain). y.said.groups) (cond-true (int_lt x.wm w) (record { wm = w; said = key_fires p w most_firings x.said }) x (ap (λ (v : ℤ). int_lt v w) (sym same.wm) ∙ h))
    ∙ (fires_behind p w most_firings x.said.state x.said.groups
    ∙ ap (λ (state : KeyState). x.said.groups ++ firings_at p w state) (sym same.state)))
  where
    x : KeyPlain
    x = key_sync_from p from k es

    same : IsProjectedFrom g p from k es
    same = projected_from g p from fits k es
