-- Counts by place, and what a call makes of them.
use Rattle.std.proofs.Common.{◌≡◌, ◌+◌, ◌-◌, ◌%◌, ◌^◌, if◌then◌else◌, ◌<◌, ◌≤◌, ◌==◌, ◌&&◌, Bool, true, false, ℕ, zero, suc, List, [], ◌∷◌, ◌++◌, length, slice_index_or, slice_set, refl, ap, sym, ◌∙◌, arith}
use Rattle.ax_time.specs.declared.epoch.Closed.{Closed}
use Rattle.ax_time.specs.declared.epoch.Marker.{Marker}
use Rattle.ax_time.specs.Epochs.{Book, place_of, count_of, count_at, taken, put_closed, put_current, with_count, markers_of, work_in, is_finished}

and_first : (a b : Bool) → (a && b) ≡ true → a ≡ true
and_first false b h = h
and_first true b h = refl

pub and_second : (a b : Bool) → (a && b) ≡ true → b ≡ true
and_second false b h = grind (arith, h)
and_second true b h = h

pub count_at-closed : (cs : List Closed) (count place : ℕ) (d : Closed) → place < length cs → (slice_index_or cs place d).count ≡ count_at cs count place
count_at-closed [] count place d h = omega (arith, h)
count_at-closed (c ∷ cs) count zero d h = refl
count_at-closed (c ∷ cs) count (suc place) d h = count_at-closed cs count place d (omega (arith, h))

pub count_at-current : (cs : List Closed) (count : ℕ) → count_at cs count (length cs) ≡ count
count_at-current [] count = refl
count_at-current (c ∷ cs) count = count_at-current cs count

pub count_at-past : (cs : List Closed) (count place : ℕ) → length cs < place → count_at cs count place ≡ 0
count_at-past [] count zero h = omega (arith, h)
count_at-past [] count (suc place) h = refl
count_at-past (c ∷ cs) count zero h = omega (arith, h)
count_at-past (c ∷ cs) count (suc place) h = count_at-past cs count place (omega (arith, h))

pub put_closed-at : (cs : List Closed) (place n : ℕ) (d : Closed) → place < length cs
    → slice_set cs place (record { marker = (slice_index_or cs place d).marker; count = n }) ≡ put_closed cs place n
put_closed-at [] place n d h = absurd (omega (arith, h))
put_closed-at (c ∷ cs) zero n d h = refl
put_closed-at (c ∷ cs) (suc place) n d h = ap (λ rest. c ∷ rest) (put_closed-at cs place n d (omega (arith, h)))

pub put_closed-past : (cs : List Closed) (place n : ℕ) → length cs ≤ place → put_closed cs place n ≡ cs
put_closed-past [] place n h = refl
put_closed-past (c ∷ cs) zero n h = absurd (omega (arith, h))
put_closed-past (c ∷ cs) (suc place) n h = ap (λ rest. c ∷ rest) (put_closed-past cs place n (omega (arith, h)))

pub put_current-end : (cs : List Closed) (count n : ℕ) → put_current cs count (length cs) n ≡ n
put_current-end [] count n = refl
put_current-end (c ∷ cs) count n = put_current-end cs count n

pub put_current-closed : (cs : List Closed) (count place n : ℕ) → place < length cs → put_current cs count place n ≡ count
put_current-closed [] count place n h = omega (arith, h)
put_current-closed (c ∷ cs) count zero n h = refl
put_current-closed (c ∷ cs) count (suc place) n h = put_current-closed cs count place n (omega (arith, h))

-- the work of the current epoch is set
pub with_count-current : (book : Book) (epoch n : ℕ) → place_of book epoch ≡ length book.closed → record { oldest = book.oldest; closed = book.closed; count = n } ≡ with_count book epoch n
with_count-current book epoch n h =
    let past = put_closed-past book.closed (place_of book epoch) n (omega (arith, h)) in
    let at_end = ap (λ place. put_current book.closed book.count place n) h ∙ put_current-end book.closed book.count n in
    ap (λ cs. record { oldest = book.oldest; closed = cs; count = n }) (sym past)
    ∙ ap (λ k. record { oldest = book.oldest; closed = put_closed book.closed (place_of book epoch) n; count = k }) (sym at_end)

-- that of a closed epoch is
pub with_count-closed : (book : Book) (epoch n place : ℕ) → place ≡ place_of book epoch → place < length book.closed
    → record { oldest = book.oldest; closed = put_closed book.closed place n; count = book.count } ≡ with_count book epoch n
with_count-closed book epoch n place e h =
    ap (λ p. record { oldest = book.oldest; closed = put_closed book.closed p n; count = book.count }) e
    ∙ ap (λ k. record { oldest = book.oldest; closed = put_closed book.closed (place_of book epoch) n; count = k }) (sym (put_current-closed book.closed book.count (place_of book epoch) n (rw (sym e) h)))

pub own_count : (cs : List Closed) (count place n : ℕ) → place ≤ length cs → count_at (put_closed cs place n) (put_current cs count place n) place ≡ n
own_count [] count zero n h = refl
own_count [] count (suc place) n h = omega (arith, h)
own_count (c ∷ cs) count zero n h = refl
own_count (c ∷ cs) count (suc place) n h = own_count cs count place n (omega (arith, h))

pub other_count : (cs : List Closed) (count place q n : ℕ) → (place ≡ q → ⊥) → count_at (put_closed cs place n) (put_current cs count place n) q ≡ count_at cs count q
other_count [] count zero zero n h = absurd (h refl)
other_count [] count zero (suc q) n h = refl
other_count [] count (suc place) zero n h = refl
other_count [] count (suc place) (suc q) n h = refl
other_count (c ∷ cs) count zero zero n h = absurd (h refl)
other_count (c ∷ cs) count zero (suc q) n h = refl
other_count (c ∷ cs) count (suc place) zero n h = refl
other_count (c ∷ cs) count (suc place) (suc q) n h = other_count cs count place q n (λ e. h (ap suc e))

pub put_markers : (cs : List Closed) (place n : ℕ) → markers_of (put_closed cs place n) ≡ markers_of cs
put_markers [] place n = refl
put_markers (c ∷ cs) zero n = refl
put_markers (c ∷ cs) (suc place) n = ap (λ rest. c.marker ∷ rest) (put_markers cs place n)

pub put_length : (cs : List Closed) (place n : ℕ) → length (put_closed cs place n) ≡ length cs
put_length [] place n = refl
put_length (c ∷ cs) zero n = refl
put_length (c ∷ cs) (suc place) n = ap suc (put_length cs place n)

pub count_at-close : (cs : List Closed) (count place : ℕ) (m : Marker) → count_at (cs ++ record { marker = m; count = count } ∷ []) 0 place ≡ count_at cs count place
count_at-close [] count zero m = refl
count_at-close [] count (suc zero) m = refl
count_at-close [] count (suc (suc place)) m = refl
count_at-close (c ∷ cs) count zero m = refl
count_at-close (c ∷ cs) count (suc place) m = count_at-close cs count place m

pub put_work : (cs : List Closed) (count place n : ℕ) → place ≤ length cs → work_in (put_closed cs place n) (put_current cs count place n) + count_at cs count place ≡ work_in cs count + n
put_work [] count zero n h = omega arith
put_work [] count (suc place) n h = omega (arith, h)
put_work (c ∷ cs) count zero n h = omega arith
put_work (c ∷ cs) count (suc place) n h = omega (arith, put_work cs count place n (omega (arith, h)))

pub close_work : (cs : List Closed) (count : ℕ) (m : Marker) → work_in (cs ++ record { marker = m; count = count } ∷ []) 0 ≡ work_in cs count
close_work [] count m = omega arith
close_work (c ∷ cs) count m = ap (λ n. c.count + n) (close_work cs count m)

pub earlier_finished : (cs : List Closed) (place before : ℕ) → is_finished cs place ≡ true → before ≤ place → is_finished cs before ≡ true
earlier_finished [] place before h l = h
earlier_finished (c ∷ cs) zero zero h l = h
earlier_finished (c ∷ cs) zero (suc before) h l = absurd (omega (arith, l))
earlier_finished (c ∷ cs) (suc place) zero h l = and_first (c.count == 0) (is_finished cs place) h
earlier_finished (c ∷ cs) (suc place) (suc before) h l =
    rw (and_first (c.count == 0) (is_finished cs place) h) (earlier_finished cs place before (and_second (c.count == 0) (is_finished cs place) h) (omega (arith, l)))

-- the place of each epoch is one less where the oldest is gone
shift_count : (c : Closed) (cs : List Closed) (count place q : ℕ) → c.count ≡ 0 → (place ≡ 0 → length cs < q) → ((k : ℕ) → place ≡ suc k → q ≡ k)
    → count_at cs count q ≡ count_at (c ∷ cs) count place
shift_count c cs count zero q e past next = count_at-past cs count q (past refl) ∙ sym e
shift_count c cs count (suc k) q e past next = ap (count_at cs count) (next k refl)

shifted : (t : Bool) (c : Closed) (cs : List Closed) (oldest count epoch : ℕ) → (c.count == 0) ≡ t → oldest < 2 ^ 64 → length cs + 1 < 2 ^ 64 → epoch < 2 ^ 64
    → count_of (if t then record { oldest = (oldest + 1) % 2 ^ 64; closed = cs; count = count } else record { oldest = oldest; closed = c ∷ cs; count = count }) epoch
    ≡ count_of (record { oldest = oldest; closed = c ∷ cs; count = count }) epoch
shifted false c cs oldest count epoch t o l e = refl
shifted true c cs oldest count epoch t o l e =
    shift_count c cs count ((epoch + (2 ^ 64 - oldest)) % 2 ^ 64) ((epoch + (2 ^ 64 - (oldest + 1) % 2 ^ 64)) % 2 ^ 64) (grind (arith, t))
    (λ z. omega (arith, z, o, l, e)) (λ k z. omega (arith, z, o, l, e))

taken_count_in : (closed : List Closed) (oldest count epoch : ℕ) → oldest < 2 ^ 64 → length closed < 2 ^ 64 → epoch < 2 ^ 64
    → count_of (taken (record { oldest = oldest; closed = closed; count = count })) epoch ≡ count_of (record { oldest = oldest; closed = closed; count = count }) epoch
taken_count_in [] oldest count epoch o l e = refl
taken_count_in (c ∷ cs) oldest count epoch o l e = shifted (c.count == 0) c cs oldest count epoch refl o (omega (arith, l)) e

pub taken_count : (book : Book) (epoch : ℕ) → book.oldest < 2 ^ 64 → length book.closed < 2 ^ 64 → epoch < 2 ^ 64 → count_of (taken book) epoch ≡ count_of book epoch
taken_count book epoch o l e = taken_count_in book.closed book.oldest book.count epoch o l e
