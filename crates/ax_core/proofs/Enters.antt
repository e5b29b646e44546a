-- A row enters the current epoch.
use Rattle.std.proofs.Common.{◌≡◌, ℕ, zero, suc, ◌+◌, ◌-◌, ◌≤◌, ◌<◌, ◌%◌, ◌^◌, nat_eq, nat_lt, Bool, true, false, cond, not, List, [], ◌∷◌, length, Option, Some, None, refl, sym, ap, ◌∙◌, subst, eqb-true, arith}
use Rattle.std.proofs.lemmas.Bool.{eq-eqb, ltb-true, ltb-false}
use Rattle.ax_text.specs.declared.vocabulary.Handler.{Handler}
use Rattle.ax_text.specs.declared.vocabulary.Handler.TheVariants as handler
use Rattle.ax_machine.specs.Entries.{Key}
use Rattle.ax_time.specs.declared.epoch.Marker.{Marker}
use Rattle.ax_time.specs.declared.epoch.Closed.{Closed as Ended}
use Rattle.ax_time.specs.Epochs.{Book, Fits64, current_of, place_of, IsOpen, count_at, count_of, put_closed, put_current, with_count, markers_of}
use Rattle.ax_execution.specs.Sums.{total}
use Rattle.ax_execution.specs.Contexts.{Context, Waiting, Row, Mark, owners, rows_in}
use Rattle.ax_execution.specs.Counts.{one_at, row_of_epoch, owner_of_epoch, waiting_of_epoch}
use Rattle.ax_execution.specs.Machine.{Closed}
use Rattle.ax_execution.specs.Tests.{no_barrier}
use Rattle.ax_execution.specs.ControlTurns.{contexts_on}
use Rattle.ax_execution.specs.MachineControls.{MachineControl, in_flight_on, control_of_epoch, epoch_count_on}
use Rattle.ax_execution.specs.Reached.{MarksBelow}
use Rattle.ax_execution.proofs.Upto.{by_cases}
use Rattle.ax_core.specs.Contexts.{wrapped}
use Rattle.ax_core.specs.Epochs.{MarkersStand, EpochsStand}

-- of the current epoch there are no marks, so no more than contexts

one_if_same : (e f : ℕ) (b : Bool) → nat_eq f e ≡ b → one_at e f ≡ cond b 1 0
one_if_same e f b h = ap (λ (x : Bool). cond x 1 0) h

at_most_one : (b : Bool) → cond b 1 0 ≤ 1
at_most_one true = omega arith
at_most_one false = omega arith

one_few : (e f : ℕ) → one_at e f ≤ 1
one_few e f = at_most_one (nat_eq f e)

none_below : (e f : ℕ) → f < e → one_at e f ≡ 0
none_below e f h = one_if_same e f false (by_cases (nat_eq f e) (λ x. absurd (let y : f ≡ e = eqb-true f e x in omega arith)) (λ x. x))

row_few : (e : ℕ) (h : Handler) (f : ℕ) → row_of_epoch e h f ≤ 1
row_few e handler.Row f = at_most_one (nat_eq f e)
row_few e handler.Timer f = omega arith

owner_few : (e : ℕ) (o : Option Context) → owner_of_epoch e o ≤ owners o
owner_few e None = omega arith
owner_few e (Some c) = row_few e c.job.handler c.epoch

waiting_few : (e : ℕ) (ws : List Waiting) → MarksBelow e ws → waiting_of_epoch e ws ≤ rows_in ws
waiting_few e [] h = omega arith
waiting_few e (Row n f facts ∷ ws) h = omega (arith, one_few e f, waiting_few e ws h)
waiting_few e (Mark f w more ∷ ws) h = omega (arith, none_below e f h.0, waiting_few e ws h.1)

total_few : (f g : Key → ℕ) (ks : List Key) → ((k : Key) → f k ≤ g k) → total ks f ≤ total ks g
total_few f g [] h = omega arith
total_few f g (k ∷ ks) h = omega (arith, h k, total_few f g ks h)

pub current_few : (m : MachineControl) → ((k : Key) → MarksBelow m.epoch (m.controls k).waiting) → epoch_count_on m.epoch m ≤ in_flight_on m
current_few m h = total_few (λ k. control_of_epoch m.epoch (m.controls k)) (λ k. contexts_on (m.controls k)) m.keys
    (λ k. omega (arith, owner_few m.epoch (m.controls k).owner, waiting_few m.epoch (m.controls k).waiting (h k)))

-- the book: one count is set

pub own_count : (cs : List Ended) (count place n : ℕ) → place ≤ length cs → count_at (put_closed cs place n) (put_current cs count place n) place ≡ n
own_count [] count zero n h = refl
own_count [] count (suc place) n h = omega (arith, h)
own_count (c ∷ cs) count zero n h = refl
own_count (c ∷ cs) count (suc place) n h = own_count cs count place n (omega (arith, h))

pub other_count : (cs : List Ended) (count place q n : ℕ) → (place ≡ q → ⊥) → count_at (put_closed cs place n) (put_current cs count place n) q ≡ count_at cs count q
other_count [] count zero zero n h = absurd (h refl)
other_count [] count zero (suc q) n h = refl
other_count [] count (suc place) zero n h = refl
other_count [] count (suc place) (suc q) n h = refl
other_count (c ∷ cs) count zero zero n h = absurd (h refl)
other_count (c ∷ cs) count zero (suc q) n h = refl
other_count (c ∷ cs) count (suc place) zero n h = refl
other_count (c ∷ cs) count (suc place) (suc q) n h = other_count cs count place q n (λ e. h (ap suc e))

pub put_markers : (cs : List Ended) (place n : ℕ) → markers_of (put_closed cs place n) ≡ markers_of cs
put_markers [] place n = refl
put_markers (c ∷ cs) zero n = refl
put_markers (c ∷ cs) (suc place) n = ap (λ (ms : List Marker). c.marker ∷ ms) (put_markers cs place n)

pub put_length : (cs : List Ended) (place n : ℕ) → length (put_closed cs place n) ≡ length cs
put_length [] place n = refl
put_length (c ∷ cs) zero n = refl
put_length (c ∷ cs) (suc place) n = ap suc (put_length cs place n)

markers_count : (cs : List Ended) → length (markers_of cs) ≡ length cs
markers_count [] = refl
markers_count (c ∷ cs) = ap suc (markers_count cs)

stand_count : (ms : List Marker) (cs : List Closed) → MarkersStand ms cs → length ms ≡ length cs
stand_count [] [] h = refl
stand_count [] (c ∷ cs) h = absurd h
stand_count (m ∷ ms) [] h = absurd h
stand_count (m ∷ ms) (c ∷ cs) h = ap suc (stand_count ms cs h.1)

pub closed_count : (book : Book) (closing : Bool) (m : MachineControl) → EpochsStand book closing m → length book.closed ≡ length m.unsent
closed_count book closing m h = sym (markers_count book.closed) ∙ stand_count (markers_of book.closed) m.unsent h.markers

place_current : (oldest n : ℕ) → oldest < 2 ^ 64 → n < 2 ^ 64 → ((oldest + n) % 2 ^ 64 + (2 ^ 64 - oldest)) % 2 ^ 64 ≡ n
place_current oldest n h l = omega (arith, h, l)

pub current_is_open : (book : Book) → Fits64 book → IsOpen book (current_of book)
current_is_open book fits = let e : place_of book (current_of book) ≡ length book.closed = place_current book.oldest (length book.closed) fits.oldest fits.pending in omega (arith, e)

pub current_count : (book : Book) (closing : Bool) (m : MachineControl) → EpochsStand book closing m → count_of book (current_of book) ≡ epoch_count_on m.epoch m
current_count book closing m h = ap (count_of book) h.current ∙ h.counts m.epoch (omega arith) (omega arith)

-- different epochs that are open have different numbers
apart : (e u n : ℕ) → e < u → u ≤ e + n → n < 2 ^ 64 → u % 2 ^ 64 ≡ e % 2 ^ 64 → ⊥
apart e u n below near few same = omega (arith, below, near, few, same)

same_place : (oldest e u : ℕ) → oldest < 2 ^ 64 → e < 2 ^ 64 → u < 2 ^ 64 → (e + (2 ^ 64 - oldest)) % 2 ^ 64 ≡ (u + (2 ^ 64 - oldest)) % 2 ^ 64 → e ≡ u
same_place oldest e u h k l x = omega (arith, h, k, l, x)

differs : (e u : ℕ) → e ≤ u → nat_eq u e ≡ false → e < u
differs e u h x = by_cases (nat_lt e u) (λ y. ltb-true e u y) (λ y. absurd (clash (let l : u ≤ e = ltb-false e u y in sym (eq-eqb u e (omega (arith, h, l))) ∙ x)))
  where
    clash : true ≡ false → ⊥
    clash z = cc z

in_range : (n : ℕ) → n % 2 ^ 64 < 2 ^ 64
in_range n = omega arith

pub entered : (book : Book) (closing : Bool) (m q : MachineControl) → Fits64 book → EpochsStand book closing m → q.epoch ≡ m.epoch → q.unsent ≡ m.unsent
    → ((u : ℕ) → epoch_count_on u q ≡ epoch_count_on u m + one_at u m.epoch) → EpochsStand (with_count book (current_of book) (count_of book (current_of book) + 1)) closing q
entered book closing m q fits h same unsent counts =
    let n : ℕ = count_of book (current_of book) + 1 in
    record {
      current = ap (λ (k : ℕ). (book.oldest + k) % 2 ^ 64) (put_length book.closed (place_of book (current_of book)) n) ∙ (h.current ∙ ap wrapped (sym same));
      markers = subst (MarkersStand (markers_of (with_count book (current_of book) n).closed)) (sym unsent)
          (subst (λ (ms : List Marker). MarkersStand ms m.unsent) (sym (put_markers book.closed (place_of book (current_of book)) n)) h.markers);
      counts = λ e below near. of e (omega (arith, below, same)) (omega (arith, near, same, ap length unsent));
      barrier = h.barrier ∙ ap (λ (cs : List Closed). not (no_barrier cs)) (sym unsent);
    }
  where
    of : (e : ℕ) → e ≤ m.epoch → m.epoch ≤ e + length m.unsent
        → count_of (with_count book (current_of book) (count_of book (current_of book) + 1)) (wrapped e) ≡ epoch_count_on e q
    of e below near = by_cases (nat_eq m.epoch e)
        (λ x.
        let this : m.epoch ≡ e = eqb-true m.epoch e x in
        let here : wrapped e ≡ current_of book = ap wrapped (sym this) ∙ sym h.current in
        let more : one_at e m.epoch ≡ 1 = one_if_same e m.epoch true x in
        let old : count_of book (current_of book) ≡ epoch_count_on e m = current_count book closing m h ∙ ap (λ (u : ℕ). epoch_count_on u m) this in
        let new : count_of (with_count book (current_of book) (count_of book (current_of book) + 1)) (current_of book) ≡ count_of book (current_of book) + 1 =
        own_count book.closed book.count (place_of book (current_of book)) (count_of book (current_of book) + 1) (current_is_open book fits) in
        let sum : count_of book (current_of book) + 1 ≡ epoch_count_on e q = omega (arith, counts e, more, old) in
        ap (count_of (with_count book (current_of book) (count_of book (current_of book) + 1))) here ∙ (new ∙ sum))
        (λ x.
        let less : e < m.epoch = differs e m.epoch below x in
        let none : one_at e m.epoch ≡ 0 = one_if_same e m.epoch false x in
        let few : length m.unsent < 2 ^ 64 = omega (arith, closed_count book closing m h, fits.pending) in
        let stays : count_of (with_count book (current_of book) (count_of book (current_of book) + 1)) (wrapped e) ≡ count_of book (wrapped e) =
        other_count book.closed book.count (place_of book (current_of book)) (place_of book (wrapped e)) (count_of book (current_of book) + 1)
        (λ y. apart e m.epoch (length m.unsent) less near few (sym h.current
        ∙ same_place book.oldest (current_of book) (wrapped e) fits.oldest (in_range (book.oldest + length book.closed)) (in_range e) y)) in
        let sum : epoch_count_on e m ≡ epoch_count_on e q = omega (arith, counts e, none) in
        stays ∙ (h.counts e below near ∙ sum))
