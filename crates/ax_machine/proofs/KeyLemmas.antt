-- What the plain thread does to one key is what the thread of that key alone does.
use Rattle.std.proofs.Common.{◌≡◌, ℕ, zero, suc, ◌*◌, ◌-◌, ◌≤◌, ◌<◌, ℤ, int_le, int_lt, List, [], ◌∷◌, ◌++◌, length, Bool, true, false, cond, Option, Some, None, refl, sym, ap, ◌∙◌, subst, arith, append_assoc, append-nil, ◌⊎◌, inl, inr}
use Rattle.std.specs.Str.{bytes_eq}
use Rattle.std.specs.List.{list_any}
use Rattle.std.specs.BTreeSet.{insert_key}
use Rattle.std.proofs.lemmas.Bool.{both_ways, cond-true, cond-false}
use Rattle.ax_keys.specs.Keys.{key_cmp}
use Rattle.ax_text.specs.KeyStates.{KeyState}
use Rattle.ax_text.specs.Run.{World, state_after}
use Rattle.ax_text.specs.Programs.{Program}
use Rattle.ax_text.specs.Jobs.{Job, Group, row_job, firing_job, job_run, group_of, lines_in}
use Rattle.ax_machine.specs.Entries.{Key, Marker, Watermark, Entry, lines_of, says}
use Rattle.ax_machine.specs.Entries as entry
use Rattle.ax_machine.specs.Events.{Event, Row, Mark, Barrier}
use Rattle.ax_machine.specs.Firings.{Due, most_firings, due_of, candidate, next_due, one_less}
use Rattle.ax_machine.specs.Sync.{Plain, put_at, does, knows, row_step, without_least, fire, fire_next, fire_all, all_fired, at_watermark, writes, watermark_step, block_of, plain_step, plain_steps, plain_start, first_wm, sync}
use Rattle.ax_machine.specs.KeySync.{Said, ran, fire_first, key_fires, KeyPlain, key_row, key_step, key_steps, untold, key_sync, IsProjected}
use Rattle.ax_machine.proofs.FrontLemmas.{lines_of-append}
use Rattle.ax_machine.proofs.FiringLemmas.{total, same_key, key_is, has_inserted, IsOwn, candidate_own, IsNext, next_found, next_none, in_total, total_most, total_lt}

pub by_cases : {A : Type 0} (b : Bool) → (b ≡ true → A) → (b ≡ false → A) → A
by_cases true p q = p refl
by_cases false p q = q refl

-- what a key has, and its lines so far
pub record Flat : Type 0 where
  pub state : KeyState
  pub lines : List (List ℤ)

flat_path : {s t : Flat} → s.state ≡ t.state → s.lines ≡ t.lines → s ≡ t
flat_path p q = λ i. record { state = p i; lines = q i }

-- of a key in the plain thread of all keys, and in its own
abbrev flat_in : Key → Plain → Flat
flat_in k s = record { state = s.map k; lines = lines_of k s.entries }

abbrev flat_of : Said → Flat
flat_of x = record { state = x.state; lines = lines_in x.groups }

abbrev flat_after : KeyState → World → Flat → Flat
flat_after state w f = record { state = state_after state w; lines = f.lines ++ w.talk.lines }

-- lines of a key, and of another one
pub lines_of_says : (k : Key) (lines : List (List ℤ)) → lines_of k (says k lines) ≡ lines
lines_of_says k [] = refl
lines_of_says k (line ∷ lines) =
    cond-true (bytes_eq k k) (line ∷ lines_of k (says k lines)) (lines_of k (says k lines)) (same_key k)
    ∙ ap (λ (xs : List (List ℤ)). line ∷ xs) (lines_of_says k lines)

pub lines_of_others : (k j : Key) (lines : List (List ℤ)) → bytes_eq j k ≡ false → lines_of k (says j lines) ≡ []
lines_of_others k j [] h = refl
lines_of_others k j (line ∷ lines) h =
    cond-false (bytes_eq j k) (line ∷ lines_of k (says j lines)) (lines_of k (says j lines)) h ∙ lines_of_others k j lines h

pub lines_of_marked : (k : Key) (es : List Entry) (m : Marker) → lines_of k (es ++ entry.Mark m ∷ []) ≡ lines_of k es
lines_of_marked k es m = lines_of-append k es (entry.Mark m ∷ []) ∙ append-nil (lines_of k es)

pub lines_in-append : (xs ys : List Group) → lines_in (xs ++ ys) ≡ lines_in xs ++ lines_in ys
lines_in-append [] ys = refl
lines_in-append (g ∷ xs) ys = ap (λ (ls : List (List ℤ)). g.lines ++ ls) (lines_in-append xs ys) ∙ sym (append_assoc g.lines (lines_in xs) (lines_in ys))

-- a job that ran on the key itself, and on another key
ran_flat : (p : Program) (j : Job) (state : KeyState) (x : Said) → flat_of (ran p j state x) ≡ flat_after state (job_run p j state.cells) (flat_of x)
ran_flat p j state x = flat_path refl
    (lines_in-append x.groups (group_of j (job_run p j state.cells) ∷ [])
    ∙ ap (λ (ls : List (List ℤ)). lines_in x.groups ++ ls) (append-nil (job_run p j state.cells).talk.lines))

does_own : (k : Key) (state : KeyState) (w : World) (s : Plain) → flat_in k (does k state w s) ≡ flat_after state w (flat_in k s)
does_own k state w s = flat_path
    (cond-true (bytes_eq k k) (state_after state w) (s.map k) (same_key k))
    (lines_of-append k s.entries (says k w.talk.lines) ∙ ap (λ (ls : List (List ℤ)). lines_of k s.entries ++ ls) (lines_of_says k w.talk.lines))

does_other : (k j : Key) (state : KeyState) (w : World) (s : Plain) → bytes_eq j k ≡ false → flat_in k (does j state w s) ≡ flat_in k s
does_other k j state w s h = flat_path
    (cond-false (bytes_eq j k) (state_after state w) (s.map k) h)
    (lines_of-append k s.entries (says j w.talk.lines) ∙ ap (λ (ls : List (List ℤ)). lines_of k s.entries ++ ls) (lines_of_others k j w.talk.lines h) ∙ append-nil (lines_of k s.entries))

-- where the key has the same in both threads, it has the same behind a job, which begins with some part of that
ran_own : (p : Program) (k : Key) (j : Job) (first : KeyState → KeyState) (s : Plain) (x : Said) → flat_in k s ≡ flat_of x
    → flat_in k (does k (first (s.map k)) (job_run p j (first (s.map k)).cells) s) ≡ flat_of (ran p j (first x.state) x)
ran_own p k j first s x h =
    does_own k (first (s.map k)) (job_run p j (first (s.map k)).cells) s
    ∙ ap (λ (f : Flat). flat_after (first f.state) (job_run p j (first f.state).cells) f) h
    ∙ sym (ran_flat p j (first x.state) x)

-- the first timer of a key that is due, or none
first_fires : (p : Program) (w : ℤ) (go : Said → Said) (k : Key) (times : List ℤ) (d : Due) (x : Said) → due_of w k times ≡ Some d
    → fire_first p w go times x ≡ go (ran p (firing_job w d.time) (without_least x.state) x)
first_fires p w go k [] d x e = absurd (cc)
first_fires p w go k (t ∷ ts) d x e = of (int_le t w) e
  where
    of : (b : Bool) → cond b (Some (record { time = t; key = k })) None ≡ Some d
        → cond b (go (ran p (firing_job w t) (without_least x.state) x)) x ≡ go (ran p (firing_job w d.time) (without_least x.state) x)
    of true e = let same : record { time = t; key = k } ≡ d = cc in
        ap (λ (y : Due). go (ran p (firing_job w y.time) (without_least x.state) x)) same
    of false e = absurd (cc)

none_fires : (p : Program) (w : ℤ) (go : Said → Said) (k : Key) (times : List ℤ) (x : Said) → due_of w k times ≡ None → fire_first p w go times x ≡ x
none_fires p w go k [] x e = refl
none_fires p w go k (t ∷ ts) x e = of (int_le t w) e
  where
    of : (b : Bool) → cond {A = Option Due} b (Some (record { time = t; key = k })) None ≡ None → cond b (go (ran p (firing_job w t) (without_least x.state) x)) x ≡ x
    of true e = absurd (cc)
    of false e = refl

idle : (p : Program) (w : ℤ) (n : ℕ) (k : Key) (x : Said) → candidate w n k x.state ≡ None → key_fires p w n x ≡ x
idle p w zero k x e = refl
idle p w (suc n) k x e = none_fires p w (key_fires p w n) k x.state.times x e

pub not_due : (p : Program) (w : ℤ) (n : ℕ) (k : Key) (x : Said) → due_of w k x.state.times ≡ None → key_fires p w n x ≡ x
not_due p w zero k x e = refl
not_due p w (suc n) k x e = none_fires p w (key_fires p w n) k x.state.times x e

-- a key that isn't among the keys has no timer that is due
abbrev IsKnown : Key → Plain → Type 0
IsKnown k s = (list_any (bytes_eq k) s.keys ≡ true) ⊎ (due_of s.wm k (s.map k).times ≡ None)

still_known : (p : Program) (k : Key) (d : Due) (s : Plain) → list_any (bytes_eq d.key) s.keys ≡ true → IsKnown k s → IsKnown k (fire p d s)
still_known p k d s h (inl e) = inl e
still_known p k d s h (inr e) = by_cases (bytes_eq d.key k)
    (λ b. inl (subst (λ (j : Key). list_any (bytes_eq j) s.keys ≡ true) (key_is d.key k b) h))
    (λ b. inr (ap (λ (f : Flat). due_of s.wm k f.state.times) (does_other k d.key (without_least (s.map d.key)) (job_run p (firing_job s.wm d.time) (s.map d.key).cells) s b) ∙ e))

-- a firing, seen from a key that may fire n times more, and then so many times: what it has in its own thread, so that the rest of that is as before
record IsFired (p : Program) (k : Key) (less n : ℕ) (t : Plain) (x : Said) : Type 0 where
  said : Said
  seen : flat_in k t ≡ flat_of said
  goes_on : key_fires p t.wm less said ≡ key_fires p t.wm n x

fired_own : (p : Program) (k : Key) (n : ℕ) (d : Due) (s : Plain) (x : Said) → flat_in k s ≡ flat_of x → d.key ≡ k → 0 < n → due_of s.wm k (s.map k).times ≡ Some d
    → IsFired p k (n - 1) n (fire p d s) x
fired_own p k zero d s x h same left e = absurd (omega arith)
fired_own p k (suc n) d s x h same left e = record {
  said = ran p (firing_job s.wm d.time) (without_least x.state) x;
  seen = subst (λ (j : Key). flat_in j s ≡ flat_of x → flat_in j (fire p d s) ≡ flat_of (ran p (firing_job s.wm d.time) (without_least x.state) x)) same
      (ran_own p d.key (firing_job s.wm d.time) without_least s x) h;
  goes_on =
      let back : suc n - 1 ≡ n = omega arith in
      let due : due_of s.wm k x.state.times ≡ Some d = ap (λ (f : Flat). due_of s.wm k f.state.times) (sym h) ∙ e in
      ap (λ (i : ℕ). key_fires p s.wm i (ran p (firing_job s.wm d.time) (without_least x.state) x)) back
      ∙ sym (first_fires p s.wm (key_fires p s.wm n) k x.state.times d x due);
}

fired : (p : Program) (k : Key) (more : Key → ℕ) (d : Due) (s : Plain) (x : Said) → flat_in k s ≡ flat_of x → IsNext s.wm s.keys more s.map d
    → IsFired p k (one_less more d.key k) (more k) (fire p d s) x
fired p k more d s x h it = by_cases (bytes_eq d.key k)
    (λ b. let same : d.key ≡ k = key_is d.key k b in
    let own : IsOwn s.wm (more d.key) d.key (s.map d.key).times d = candidate_own s.wm (more d.key) d.key (s.map d.key) d it.own in
    subst (λ (i : ℕ). IsFired p k i (more k) (fire p d s) x) (sym (cond-true (bytes_eq d.key k) (more k - 1) (more k) b))
    (fired_own p k (more k) d s x h same (subst (λ (j : Key). 0 < more j) same own.some_left) (subst (λ (j : Key). due_of s.wm j (s.map j).times ≡ Some d) same own.due)))
    (λ b. record {
      said = x;
      seen = does_other k d.key (without_least (s.map d.key)) (job_run p (firing_job s.wm d.time) (s.map d.key).cells) s b ∙ h;
      goes_on = ap (λ (i : ℕ). key_fires p s.wm i x) (cond-false (bytes_eq d.key k) (more k - 1) (more k) b);
    })

-- where nothing is left to fire
none_next : (p : Program) (k : Key) (more : Key → ℕ) (s : Plain) (x : Said) → flat_in k s ≡ flat_of x → next_due s.wm s.keys more s.map ≡ None → IsKnown k s
    → x ≡ key_fires p s.wm (more k) x
none_next p k more s x h e (inl known) =
    sym (idle p s.wm (more k) k x (ap (λ (f : Flat). candidate s.wm (more k) k f.state) (sym h) ∙ next_none s.wm s.keys more s.map e k known))
none_next p k more s x h e (inr none) = sym (not_due p s.wm (more k) k x (ap (λ (f : Flat). due_of s.wm k f.state.times) (sym h) ∙ none))

none_left : (p : Program) (k : Key) (more : Key → ℕ) (s : Plain) (x : Said) → flat_in k s ≡ flat_of x → total s.keys more ≤ 0 → IsKnown k s
    → x ≡ key_fires p s.wm (more k) x
none_left p k more s x h enough (inl known) =
    let none : more k ≡ 0 = omega (arith, in_total s.keys more k known) in
    ap (λ (n : ℕ). key_fires p s.wm n x) (sym none)
none_left p k more s x h enough (inr none) = sym (not_due p s.wm (more k) k x (ap (λ (f : Flat). due_of s.wm k f.state.times) (sym h) ∙ none))

fire_step : (p : Program) (fuel : ℕ) (k : Key) (more : Key → ℕ) (s : Plain) (x : Said) → flat_in k s ≡ flat_of x → total s.keys more ≤ suc fuel → IsKnown k s
    → ((less : Key → ℕ) (t : Plain) (y : Said) → flat_in k t ≡ flat_of y → total t.keys less ≤ fuel → IsKnown k t → flat_in k (fire_all p fuel less t) ≡ flat_of (key_fires p t.wm (less k) y))
    → (o : Option Due) → next_due s.wm s.keys more s.map ≡ o → flat_in k (fire_next p (fire_all p fuel) o more s) ≡ flat_of (key_fires p s.wm (more k) x)
fire_step p fuel k more s x h enough known go None e = h ∙ ap (λ (y : Said). flat_of y) (none_next p k more s x h e known)
fire_step p fuel k more s x h enough known go (Some d) e =
    let it : IsNext s.wm s.keys more s.map d = next_found s.wm s.keys more s.map d e in
    let own : IsOwn s.wm (more d.key) d.key (s.map d.key).times d = candidate_own s.wm (more d.key) d.key (s.map d.key) d it.own in
    let fewer : total s.keys (one_less more d.key) < total s.keys more = total_lt s.keys more d.key it.known own.some_left in
    let behind : IsFired p k (one_less more d.key k) (more k) (fire p d s) x = fired p k more d s x h it in
    go (one_less more d.key) (fire p d s) behind.said behind.seen (omega arith) (still_known p k d s it.known known) ∙ ap (λ (y : Said). flat_of y) behind.goes_on

-- all firings, seen from a key
fire_all_of : (p : Program) (fuel : ℕ) (k : Key) (more : Key → ℕ) (s : Plain) (x : Said) → flat_in k s ≡ flat_of x → total s.keys more ≤ fuel → IsKnown k s
    → flat_in k (fire_all p fuel more s) ≡ flat_of (key_fires p s.wm (more k) x)
fire_all_of p zero k more s x h enough known = h ∙ ap (λ (y : Said). flat_of y) (none_left p k more s x h enough known)
fire_all_of p (suc n) k more s x h enough known =
    fire_step p n k more s x h enough known (λ less t y. fire_all_of p n k less t y) (next_due s.wm s.keys more s.map) refl

-- the watermark and the keys stay
pub record IsSameBeside (s t : Plain) : Type 0 where
  pub wm : s.wm ≡ t.wm
  pub keys : s.keys ≡ t.keys

fire_next_beside : (p : Program) (go : (Key → ℕ) → Plain → Plain) → ((more : Key → ℕ) (s : Plain) → IsSameBeside (go more s) s)
    → (o : Option Due) (more : Key → ℕ) (s : Plain) → IsSameBeside (fire_next p go o more s) s
fire_next_beside p go goes None more s = record { wm = refl; keys = refl }
fire_next_beside p go goes (Some d) more s =
    let same : IsSameBeside (go (one_less more d.key) (fire p d s)) (fire p d s) = goes (one_less more d.key) (fire p d s) in
    record { wm = same.wm; keys = same.keys }

pub fire_all_beside : (p : Program) (fuel : ℕ) (more : Key → ℕ) (s : Plain) → IsSameBeside (fire_all p fuel more s) s
fire_all_beside p zero more s = record { wm = refl; keys = refl }
fire_all_beside p (suc n) more s = fire_next_beside p (fire_all p n) (fire_all_beside p n) (next_due s.wm s.keys more s.map) more s

-- a key that isn't among the keys has no timer
pub record AreCovered (keys : List Key) (map : Key → KeyState) : Type 0 where
  pub none : (k : Key) → list_any (bytes_eq k) keys ≡ false → (map k).times ≡ []

covered_known : (k : Key) (w : ℤ) (s : Plain) → AreCovered s.keys s.map → IsKnown k (at_watermark w s)
covered_known k w s c = by_cases (list_any (bytes_eq k) s.keys) (λ h. inl h) (λ h. inr (ap (due_of w k) (c.none k h)))

-- a key that is among keys may change
covered_put : (keys : List Key) (map : Key → KeyState) (j : Key) (state : KeyState) → list_any (bytes_eq j) keys ≡ true → AreCovered keys map → AreCovered keys (put_at map j state)
covered_put keys map j state known c = record {
  none = λ k h. by_cases (bytes_eq j k)
      (λ x. absurd (both_ways (list_any (bytes_eq k) keys) h (subst (λ (i : Key). list_any (bytes_eq i) keys ≡ true) (key_is j k x) known)))
      (λ x. ap (λ (s : KeyState). s.times) (cond-false (bytes_eq j k) state (map k) x) ∙ c.none k h);
}

covered_inserted : (keys : List Key) (map : Key → KeyState) (j : Key) → AreCovered keys map → AreCovered (insert_key key_cmp keys j) map
covered_inserted keys map j c = record {
  none = λ k h. by_cases (list_any (bytes_eq k) keys)
      (λ x. absurd (both_ways (list_any (bytes_eq k) (insert_key key_cmp keys j)) h (has_inserted k j keys (inr x))))
      (c.none k);
}

fire_next_covered : (p : Program) (go : (Key → ℕ) → Plain → Plain) (more : Key → ℕ) (s : Plain) → ((less : Key → ℕ) (t : Plain) → AreCovered t.keys t.map → AreCovered t.keys (go less t).map)
    → (o : Option Due) → next_due s.wm s.keys more s.map ≡ o → AreCovered s.keys s.map → AreCovered s.keys (fire_next p go o more s).map
fire_next_covered p go more s goes None e c = c
fire_next_covered p go more s goes (Some d) e c =
    goes (one_less more d.key) (fire p d s)
    (covered_put s.keys s.map d.key (state_after (without_least (s.map d.key)) (job_run p (firing_job s.wm d.time) (s.map d.key).cells)) (next_found s.wm s.keys more s.map d e).known c)

fire_all_covered : (p : Program) (fuel : ℕ) (more : Key → ℕ) (s : Plain) → AreCovered s.keys s.map → AreCovered s.keys (fire_all p fuel more s).map
fire_all_covered p zero more s c = c
fire_all_covered p (suc n) more s c = fire_next_covered p (fire_all p n) more s (fire_all_covered p n) (next_due s.wm s.keys more s.map) refl c

covered_if : (b : Bool) (s t : Plain) → AreCovered s.keys s.map → AreCovered t.keys t.map → AreCovered (cond b s t).keys (cond b s t).map
covered_if true s t c d = c
covered_if false s t c d = d

pub step_covered : (m : ℕ) (p : Program) (e : Event) (s : Plain) → AreCovered s.keys s.map → AreCovered (plain_step m p e s).keys (plain_step m p e s).map
step_covered m p (Row j time values) s c =
    covered_put (insert_key key_cmp s.keys j) s.map j (state_after (s.map j) (job_run p (row_job s.wm time values) (s.map j).cells)) (has_inserted j j s.keys (inl refl)) (covered_inserted s.keys s.map j c)
step_covered m p (Mark w) s c =
    let before : Plain = at_watermark w s in
    covered_if (int_lt s.wm w) (writes (Watermark w) (all_fired p before)) s
    (subst (λ (ks : List Key). AreCovered ks (all_fired p before).map) (sym (fire_all_beside p (most_firings * length s.keys) (λ k. most_firings) before).keys)
    (fire_all_covered p (most_firings * length s.keys) (λ k. most_firings) before c))
    c
step_covered m p (Barrier id) s c = c

-- a key has the same in both threads
pub record IsSeen (k : Key) (s : Plain) (x : KeyPlain) : Type 0 where
  pub wm : s.wm ≡ x.wm
  pub said : flat_in k s ≡ flat_of x.said

seen_if : (b : Bool) (k : Key) (s t : Plain) (x y : KeyPlain) → IsSeen k s x → IsSeen k t y → IsSeen k (cond b s t) (cond b x y)
seen_if true k s t x y a c = a
seen_if false k s t x y a c = c

row_of_key : (p : Program) (k j : Key) (time : ℤ) (values : List ℤ) (s : Plain) (x : KeyPlain) → IsSeen k s x
    → IsSeen k (row_step p j time values s) (cond (bytes_eq j k) (key_row p time values x) x)
row_of_key p k j time values s x h = by_cases (bytes_eq j k)
    (λ b. subst (λ (y : KeyPlain). IsSeen k (row_step p j time values s) y) (sym (cond-true (bytes_eq j k) (key_row p time values x) x b)) (record {
      wm = h.wm;
      said = subst (λ (i : Key). flat_in i s ≡ flat_of x.said → flat_in i (row_step p j time values s) ≡ flat_of (ran p (row_job s.wm time values) x.said.state x.said)) (key_is j k b)
          (ran_own p j (row_job s.wm time values) (λ y. y) (knows j s) x.said) h.said
          ∙ ap (λ (w : ℤ). flat_of (ran p (row_job w time values) x.said.state x.said)) h.wm;
    }))
    (λ b. subst (λ (y : KeyPlain). IsSeen k (row_step p j time values s) y) (sym (cond-false (bytes_eq j k) (key_row p time values x) x b)) (record {
      wm = h.wm;
      said = does_other k j (s.map j) (job_run p (row_job s.wm time values) (s.map j).cells) (knows j s) b ∙ h.said;
    }))

writes_aside : (k : Key) (m : Marker) (s : Plain) (x : KeyPlain) → IsSeen k s x → IsSeen k (writes m s) x
writes_aside k m s x h = record { wm = h.wm; said = flat_path refl (lines_of_marked k s.entries m) ∙ h.said }

watermark_of_key : (p : Program) (k : Key) (w : ℤ) (s : Plain) (x : KeyPlain) → AreCovered s.keys s.map → IsSeen k s x
    → IsSeen k (writes (Watermark w) (all_fired p (at_watermark w s))) (record { wm = w; said = key_fires p w most_firings x.said })
watermark_of_key p k w s x c h =
    let before : Plain = at_watermark w s in
    writes_aside k (Watermark w) (all_fired p before) (record { wm = w; said = key_fires p w most_firings x.said }) (record {
      wm = (fire_all_beside p (most_firings * length s.keys) (λ k. most_firings) before).wm;
      said = fire_all_of p (most_firings * length s.keys) k (λ k. most_firings) before x.said h.said (total_most s.keys most_firings) (covered_known k w s c);
    })

pub step_of : (m : ℕ) (p : Program) (k : Key) (e : Event) (s : Plain) (x : KeyPlain) → AreCovered s.keys s.map → IsSeen k s x → IsSeen k (plain_step m p e s) (key_step p k e x)
step_of m p k (Row j time values) s x c h = row_of_key p k j time values s x h
step_of m p k (Mark w) s x c h =
    subst (λ (v : ℤ). IsSeen k (watermark_step p w s) (cond (int_lt v w) (record { wm = w; said = key_fires p w most_firings x.said }) x)) h.wm
    (seen_if (int_lt s.wm w) k (writes (Watermark w) (all_fired p (at_watermark w s))) s (record { wm = w; said = key_fires p w most_firings x.said }) x (watermark_of_key p k w s x c h) h)
step_of m p k (Barrier id) s x c h = writes_aside k (block_of m p id s) s x h

pub steps_of : (m : ℕ) (p : Program) (k : Key) (events : List Event) (s : Plain) (x : KeyPlain) → AreCovered s.keys s.map → IsSeen k s x
    → IsSeen k (plain_steps m p events s) (key_steps p k events x)
steps_of m p k [] s x c h = h
steps_of m p k (e ∷ events) s x c h = steps_of m p k events (plain_step m p e s) (key_step p k e x) (step_covered m p e s c) (step_of m p k e s x c h)

-- at first no key has a timer
pub start_covered : (p : Program) → AreCovered (plain_start p).keys (plain_start p).map
start_covered p = record { none = λ j h. refl }

pub is_projected : (m : ℕ) (p : Program) (k : Key) (events : List Event) → IsProjected m p k events
is_projected m p k events =
    let same : IsSeen k (sync m p events) (key_sync p k events) =
    steps_of m p k events (plain_start p) (record { wm = first_wm; said = untold p }) (start_covered p) (record { wm = refl; said = refl }) in
    record {
      wm = same.wm;
      state = ap (λ (f : Flat). f.state) same.said;
      lines = ap (λ (f : Flat). f.lines) same.said;
    }
