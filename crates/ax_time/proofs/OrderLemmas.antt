-- Which epochs are finished, by their counts.
use Rattle.std.proofs.Common.{◌≡◌, ◌^◌, if◌then◌else◌, ◌<◌, ◌≤◌, ◌==◌, ◌&&◌, ◌↔◌, Bool, true, false, ℕ, zero, suc, List, [], ◌∷◌, length, IsSome, refl, ap, sym, subst, arith}
use Rattle.std.specs.Prelude.{None, Some}
use Rattle.std.proofs.lemmas.Bool.{true≢false}
use Rattle.ax_time.specs.declared.epoch.Closed.{Closed}
use Rattle.ax_time.specs.Epochs.{Book, count_of, count_at, next_action, is_finished}
use Rattle.ax_time.proofs.EpochLemmas.{and_second, earlier_finished}

-- the oldest epoch stands first
pub oldest_count : (book : Book) → book.oldest < 2 ^ 64 → count_of book book.oldest ≡ count_at book.closed book.count 0
oldest_count book h = ap (count_at book.closed book.count) (omega (arith, h))

there_in : (closed : List Closed) (count : ℕ) → IsSome (next_action closed) ↔ ((0 < length closed) × (count_at closed count 0 ≡ 0))
there_in [] count = (λ h. absurd (true≢false (sym h)), λ h. absurd (omega (arith, h.0)))
there_in (c ∷ cs) count = go (c.count == 0) refl where
  go : (b : Bool) → (c.count == 0) ≡ b → IsSome (if b then Some c.marker else None) ↔ ((0 < length (c ∷ cs)) × (c.count ≡ 0))
  go true e = (λ h. (omega arith, grind (arith, e)), λ h. refl)
  go false e = (λ h. absurd (true≢false (sym h)), λ h. absurd (grind (arith, e, h.1)))

pub there : (book : Book) → book.oldest < 2 ^ 64 → IsSome (next_action book.closed) ↔ ((0 < length book.closed) × (count_of book book.oldest ≡ 0))
there book h = subst (λ n. IsSome (next_action book.closed) ↔ ((0 < length book.closed) × (n ≡ 0))) (sym (oldest_count book h)) (there_in book.closed book.count)

-- no epoch up to this place has work
abbrev NoneUpTo : List Closed → ℕ → ℕ → Type 0
NoneUpTo closed count place = (before : ℕ) → before ≤ place → count_at closed count before ≡ 0

and_true : (a b : Bool) → a ≡ true → b ≡ true → (a && b) ≡ true
and_true a b h k = rw h k

finished_within : (cs : List Closed) (place : ℕ) → is_finished cs place ≡ true → place < length cs
finished_within [] place h = absurd (true≢false (sym h))
finished_within (c ∷ cs) zero h = omega arith
finished_within (c ∷ cs) (suc place) h = omega (arith, finished_within cs place (and_second (c.count == 0) (is_finished cs place) h))

finished_none : (cs : List Closed) (count place : ℕ) → is_finished cs place ≡ true → count_at cs count place ≡ 0
finished_none [] count place h = absurd (true≢false (sym h))
finished_none (c ∷ cs) count zero h = grind (arith, h)
finished_none (c ∷ cs) count (suc place) h = finished_none cs count place (and_second (c.count == 0) (is_finished cs place) h)

finished_from : (cs : List Closed) (count place : ℕ) → place < length cs → NoneUpTo cs count place → is_finished cs place ≡ true
finished_from [] count place h none = absurd (omega (arith, h))
finished_from (c ∷ cs) count zero h none = grind (arith, none 0 (omega arith))
finished_from (c ∷ cs) count (suc place) h none =
    let first : c.count ≡ 0 = none 0 (omega arith) in
    and_true (c.count == 0) (is_finished cs place) (grind (arith, first)) (finished_from cs count place (omega (arith, h)) (λ before l. none (suc before) (omega (arith, l))))

pub finished_means : (closed : List Closed) (count place : ℕ) → (is_finished closed place ≡ true) ↔ ((place < length closed) × ((before : ℕ) → before ≤ place → count_at closed count before ≡ 0))
finished_means closed count place =
    (λ h. (finished_within closed place h, λ before l. finished_none closed count before (earlier_finished closed place before h l)), λ h. finished_from closed count place h.0 h.1)
