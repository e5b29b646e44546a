-- The keys and the times of each key rise.
use Rattle.std.proofs.Common.{◌≡◌, ℕ, zero, suc, ◌*◌, ℤ, int_lt, List, [], ◌∷◌, Bool, true, false, cond, Option, Some, None, Ordering, Less, Equal, Greater, int_cmp, int_eq, not, refl, sym, ap, ◌∙◌, subst, length}
use Rattle.std.specs.Str.{bytes_eq}
use Rattle.std.specs.List.{AllByRecursion}
use Rattle.std.specs.List.Sorted.{IsStrictlySortedBy}
use Rattle.std.specs.BTreeSet.{insert_key}
use Rattle.std.specs.Ordering.{match_ordering, ordering_reverse}
use Rattle.std.specs.Cmp.{IsTotalOrder}
use Rattle.std.proofs.lemmas.Cmp.{int_cmp_total, nat_list_cmp_total}
use Rattle.std.proofs.lemmas.List.Kept.{IsStrictlySortedBy-filter}
use Rattle.ax_keys.specs.Keys.{key_cmp}
use Rattle.ax_text.specs.declared.vocabulary.TimerOp.{TimerOp}
use Rattle.ax_text.specs.declared.vocabulary.TimerOp.TheVariants as timer
use Rattle.ax_text.specs.Times.{insert_time, later_times}
use Rattle.ax_text.specs.KeyStates.{KeyState}
use Rattle.ax_text.specs.Run.{World, time_after, times_after, state_after}
use Rattle.ax_text.specs.Programs.{Program}
use Rattle.ax_text.specs.Jobs.{row_job, firing_job, job_run}
use Rattle.ax_machine.specs.Entries.{Key, Watermark}
use Rattle.ax_machine.specs.Events.{Event, Row, Mark, Barrier}
use Rattle.ax_machine.specs.Firings.{Due, most_firings, next_due, one_less}
use Rattle.ax_machine.specs.Sync.{Plain, does, knows, without_least, fire, fire_next, fire_all, all_fired, at_watermark, writes, plain_step, plain_steps, plain_start, sync}

-- a key put among rising keys
module _ {K : Type 0} {R : K → K → Ordering} (order : IsTotalOrder R) where
  Above : K → List K → Type 0
  Above x xs = AllByRecursion (λ y. R x y ≡ Less) xs

  above_more : (t x : K) (xs : List K) → R t x ≡ Less → Above x xs → Above t xs
  unfolding Above
  above_more t x [] h a = tt
  above_more t x (y ∷ ys) h a = (order.trans t x y h a.0, above_more t x ys h a.1)

  above_put : (x t : K) (xs : List K) → R x t ≡ Less → Above x xs → Above x (insert_key R xs t)
  unfolding Above
  above_put x t [] h a = (h, tt)
  above_put x t (y ∷ ys) h a = of (R t y) (above_put x t ys h a.1)
    where
      of : (o : Ordering) → AllByRecursion (λ z. R x z ≡ Less) (insert_key R ys t) → AllByRecursion (λ z. R x z ≡ Less) (match_ordering o (t ∷ y ∷ ys) (y ∷ ys) (y ∷ insert_key R ys t))
      of Less more = (h, a)
      of Equal more = a
      of Greater more = (a.0, more)

  pub rising_put : (t : K) (xs : List K) → IsStrictlySortedBy R xs → IsStrictlySortedBy R (insert_key R xs t)
  unfolding Above IsStrictlySortedBy
  rising_put t [] s = (tt, tt)
  rising_put t (x ∷ xs) s = of (R t x) refl (rising_put t xs s.1)
    where
      of : (o : Ordering) → R t x ≡ o → IsStrictlySortedBy R (insert_key R xs t) → IsStrictlySortedBy R (match_ordering o (t ∷ x ∷ xs) (x ∷ xs) (x ∷ insert_key R xs t))
      of Less h more = ((h, above_more t x xs h s.0), s)
      of Equal h more = s
      of Greater h more = (above_put x t xs (order.antisymm x t ∙ ap ordering_reverse h) s.0, more)

-- the times of a key
inserted_time : (t : ℤ) (xs : List ℤ) → insert_time t xs ≡ insert_key int_cmp xs t
inserted_time t [] = refl
inserted_time t (x ∷ xs) = ap (λ (ys : List ℤ). match_ordering (int_cmp t x) (t ∷ x ∷ xs) (x ∷ xs) (x ∷ ys)) (inserted_time t xs)

rising_behind : (o : TimerOp) (xs : List ℤ) → IsStrictlySortedBy int_cmp xs → IsStrictlySortedBy int_cmp (time_after o xs)
rising_behind (timer.Set t) xs s = subst (λ (ys : List ℤ). IsStrictlySortedBy int_cmp ys) (sym (inserted_time t xs)) (rising_put int_cmp_total t xs s)
rising_behind (timer.Unset t) xs s = IsStrictlySortedBy-filter int_cmp (λ x. not (int_eq t x)) xs s

rising_behind_all : (os : List TimerOp) (xs : List ℤ) → IsStrictlySortedBy int_cmp xs → IsStrictlySortedBy int_cmp (times_after os xs)
rising_behind_all [] xs s = s
rising_behind_all (o ∷ os) xs s = rising_behind_all os (time_after o xs) (rising_behind o xs s)

rising_later : (xs : List ℤ) → IsStrictlySortedBy int_cmp xs → IsStrictlySortedBy int_cmp (later_times xs)
unfolding IsStrictlySortedBy
rising_later [] s = s
rising_later (x ∷ xs) s = s.1

-- the keys rise, and the times of each key
pub record AreRising (s : Plain) : Type 0 where
  pub keys : IsStrictlySortedBy key_cmp s.keys
  pub times : (k : Key) → IsStrictlySortedBy int_cmp (s.map k).times

rising_if : (b : Bool) (x y : KeyState) → IsStrictlySortedBy int_cmp x.times → IsStrictlySortedBy int_cmp y.times → IsStrictlySortedBy int_cmp (cond b x y).times
rising_if true x y a b = a
rising_if false x y a b = b

does_rise : (k : Key) (state : KeyState) (w : World) (s : Plain) → IsStrictlySortedBy int_cmp state.times → AreRising s → AreRising (does k state w s)
does_rise k state w s own h = record {
  keys = h.keys;
  times = λ j. rising_if (bytes_eq k j) (state_after state w) (s.map j) (rising_behind_all w.talk.ops state.times own) (h.times j);
}

fire_rises : (p : Program) (d : Due) (s : Plain) → AreRising s → AreRising (fire p d s)
fire_rises p d s h =
    does_rise d.key (without_least (s.map d.key)) (job_run p (firing_job s.wm d.time) (s.map d.key).cells) s (rising_later (s.map d.key).times (h.times d.key)) h

fire_next_rises : (p : Program) (go : (Key → ℕ) → Plain → Plain) → ((more : Key → ℕ) (s : Plain) → AreRising s → AreRising (go more s))
    → (o : Option Due) (more : Key → ℕ) (s : Plain) → AreRising s → AreRising (fire_next p go o more s)
fire_next_rises p go goes None more s h = h
fire_next_rises p go goes (Some d) more s h = goes (one_less more d.key) (fire p d s) (fire_rises p d s h)

pub fire_all_rises : (p : Program) (fuel : ℕ) (more : Key → ℕ) (s : Plain) → AreRising s → AreRising (fire_all p fuel more s)
fire_all_rises p zero more s h = h
fire_all_rises p (suc n) more s h = fire_next_rises p (fire_all p n) (fire_all_rises p n) (next_due s.wm s.keys more s.map) more s h

plain_if : (b : Bool) (s t : Plain) → AreRising s → AreRising t → AreRising (cond b s t)
plain_if true s t a b = a
plain_if false s t a b = b

pub step_rises : (m : ℕ) (p : Program) (e : Event) (s : Plain) → AreRising s → AreRising (plain_step m p e s)
step_rises m p (Row k time values) s h =
    does_rise k (s.map k) (job_run p (row_job s.wm time values) (s.map k).cells) (knows k s) (h.times k) (record { keys = rising_put nat_list_cmp_total k s.keys h.keys; times = h.times })
step_rises m p (Mark w) s h =
    let fired : AreRising (all_fired p (at_watermark w s)) =
    fire_all_rises p (most_firings * length s.keys) (λ k. most_firings) (at_watermark w s) (record { keys = h.keys; times = h.times }) in
    plain_if (int_lt s.wm w) (writes (Watermark w) (all_fired p (at_watermark w s))) s (record { keys = fired.keys; times = fired.times }) h
step_rises m p (Barrier id) s h = record { keys = h.keys; times = h.times }

pub steps_rise : (m : ℕ) (p : Program) (events : List Event) (s : Plain) → AreRising s → AreRising (plain_steps m p events s)
steps_rise m p [] s h = h
steps_rise m p (e ∷ events) s h = steps_rise m p events (plain_step m p e s) (step_rises m p e s h)

pub sync_rises : (m : ℕ) (p : Program) (events : List Event) → AreRising (sync m p events)
unfolding IsStrictlySortedBy
sync_rises m p events = steps_rise m p events (plain_start p) (record { keys = tt; times = λ k. tt })
