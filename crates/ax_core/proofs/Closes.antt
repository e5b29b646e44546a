-- The controller behind an epoch that is closed.
use Rattle.std.proofs.Common.{◌≡◌, ◌≤◌, ◌<◌, ℕ, suc, ◌+◌, ◌-◌, ◌%◌, ◌^◌, nat_eq, ℤ, List, [], ◌∷◌, ◌++◌, length, Bool, true, false, not, cond, ◌&&◌, Option, Some, None, refl, sym, ap, ap₂, ◌∙◌, subst, arith, eqb-true}
use Rattle.std.proofs.lemmas.Bool.{eq-eqb}
use Rattle.ax_text.specs.declared.vocabulary.Handler.{Handler}
use Rattle.ax_text.specs.declared.vocabulary.Handler.TheVariants as handler
use Rattle.ax_machine.specs.Entries.{Key}
use Rattle.ax_time.specs.declared.epoch.Marker.{Marker}
use Rattle.ax_time.specs.declared.epoch.Marker.TheVariants as marker
use Rattle.ax_time.specs.declared.epoch.Closed.{Closed as Ended}
use Rattle.ax_time.specs.Epochs.{Book, Fits64, count_of, count_at, closed_by, markers_of}
use Rattle.ax_execution.specs.Contexts.{Context, Waiting, Row, Mark}
use Rattle.ax_execution.specs.Counts.{one_at, row_of_epoch, owner_of_epoch, waiting_of_epoch}
use Rattle.ax_execution.specs.Machine.{Closing, ByWatermark, ByBarrier, Closed}
use Rattle.ax_execution.specs.Tests.{is_watermark, no_barrier}
use Rattle.ax_execution.specs.MachineControls.{MachineControl, close_on, control_of_epoch, epoch_count_on}
use Rattle.ax_execution.specs.Reached.{OwnerOpen, WaitingOpen}
use Rattle.ax_execution.proofs.Stuck.{zeros}
use Rattle.ax_execution.proofs.Upto.{by_cases}
use Rattle.ax_core.specs.Contexts.{wrapped}
use Rattle.ax_core.specs.Epochs.{marker_of, closing_of, MarkersStand, EpochsStand}
use Rattle.ax_core.proofs.Sends.{markers_length}

-- the law of the book that no count changes where an epoch is closed
abbrev pub CountsKept : Type 0
CountsKept = (book : Book) (m : Marker) (epoch : ℕ) → count_of (closed_by m book) epoch ≡ count_of book epoch

-- nothing is of an epoch that hasn't begun

not_yet : (e f : ℕ) → f ≤ e → one_at (suc e) f ≡ 0
not_yet e f h = ap (λ (b : Bool). cond b 1 0) (by_cases (nat_eq f (suc e)) (λ x. let same : f ≡ suc e = eqb-true f (suc e) x in absurd (omega arith)) (λ x. x))

owner_not_yet : (m : MachineControl) (c : Option Context) → OwnerOpen m c → owner_of_epoch (suc m.epoch) c ≡ 0
owner_not_yet m None h = refl
owner_not_yet m (Some c) h = of c.job.handler
  where
    of : (x : Handler) → row_of_epoch (suc m.epoch) x c.epoch ≡ 0
    of handler.Row = not_yet m.epoch c.epoch h.begun
    of handler.Timer = refl

waiting_not_yet : (m : MachineControl) (is : List Waiting) → WaitingOpen m is → waiting_of_epoch (suc m.epoch) is ≡ 0
waiting_not_yet m [] h = refl
waiting_not_yet m (Row n f facts ∷ is) h = ap₂ (λ (x y : ℕ). x + y) (not_yet m.epoch f h.0.begun) (waiting_not_yet m is h.1)
waiting_not_yet m (Mark f w more ∷ is) h = ap₂ (λ (x y : ℕ). x + y) (not_yet m.epoch f h.0.begun) (waiting_not_yet m is h.1)

pub none_yet : (m : MachineControl) → ((k : Key) → OwnerOpen m (m.controls k).owner) → ((k : Key) → WaitingOpen m (m.controls k).waiting) → epoch_count_on (suc m.epoch) m ≡ 0
none_yet m o w = zeros (λ k. control_of_epoch (suc m.epoch) (m.controls k)) m.keys
    (λ k. ap₂ (λ (x y : ℕ). x + y) (owner_not_yet m (m.controls k).owner (o k)) (waiting_not_yet m (m.controls k).waiting (w k)))

-- one more closed epoch

length_more : {A : Type 0} (xs : List A) (x : A) → length (xs ++ x ∷ []) ≡ suc (length xs)
length_more [] x = refl
length_more (y ∷ xs) x = ap suc (length_more xs x)

markers_more : (cs : List Ended) (ds : List Closed) (c : Ended) (d : Closed) → c.marker ≡ marker_of d.closing → MarkersStand (markers_of cs) ds → MarkersStand (markers_of (cs ++ c ∷ [])) (ds ++ d ∷ [])
markers_more [] [] c d e h = (e, tt)
markers_more [] (x ∷ ds) c d e h = absurd h
markers_more (x ∷ cs) [] c d e h = absurd h
markers_more (x ∷ cs) (y ∷ ds) c d e h = (h.0, markers_more cs ds c d e h.1)

marker_again : (k : Marker) → k ≡ marker_of (closing_of k)
marker_again (marker.Mark time) = refl
marker_again (marker.Barrier id) = refl

none_barrier : (ds : List Closed) (d : Closed) → no_barrier (ds ++ d ∷ []) ≡ (no_barrier ds && is_watermark d.closing)
none_barrier [] d = of (is_watermark d.closing)
  where
    of : (b : Bool) → (b && true) ≡ b
    of true = refl
    of false = refl
none_barrier (c ∷ ds) d = ap (λ (b : Bool). is_watermark c.closing && b) (none_barrier ds d) ∙ of (is_watermark c.closing)
  where
    of : (b : Bool) → (b && (no_barrier ds && is_watermark d.closing)) ≡ ((b && no_barrier ds) && is_watermark d.closing)
    of true = refl
    of false = refl

current_more : (oldest n epoch : ℕ) → (oldest + n) % 2 ^ 64 ≡ epoch % 2 ^ 64 → (oldest + suc n) % 2 ^ 64 ≡ suc epoch % 2 ^ 64
current_more oldest n epoch h = omega (arith, h)

-- the next epoch has no place yet
place_past : (oldest n epoch : ℕ) → oldest < 2 ^ 64 → suc n < 2 ^ 64 → (oldest + n) % 2 ^ 64 ≡ epoch % 2 ^ 64 → (suc epoch % 2 ^ 64 + (2 ^ 64 - oldest)) % 2 ^ 64 ≡ suc n
place_past oldest n epoch a b h = omega (arith, a, b, h)

count_past : (cs : List Ended) (count : ℕ) → count_at cs count (suc (length cs)) ≡ 0
count_past [] count = refl
count_past (c ∷ cs) count = count_past cs count

-- the marker that an epoch is closed by, and whether a barrier is unsent behind it
abbrev pub barrier_with : Closing → Bool → Bool
barrier_with (ByWatermark w) barrier = barrier
barrier_with (ByBarrier id) barrier = true

module _ (law : CountsKept) (book : Book) (barrier : Bool) (m : MachineControl) (h : EpochsStand book barrier m) (k : Marker) (fits : Fits64 book) (more : Fits64 (closed_by k book))
    (none : epoch_count_on (suc m.epoch) m ≡ 0) where
  same_length : length book.closed ≡ length m.unsent
  same_length = markers_length book.closed m.unsent h.markers

  room : suc (length book.closed) < 2 ^ 64
  room = subst (λ (n : ℕ). n < 2 ^ 64) (length_more book.closed (record { marker = k; count = book.count })) more.pending

  fresh_count : count_of book (wrapped (suc m.epoch)) ≡ 0
  fresh_count = ap (count_at book.closed book.count) (place_past book.oldest (length book.closed) m.epoch fits.oldest room h.current) ∙ count_past book.closed book.count

  counts : (e : ℕ) → e ≤ suc m.epoch → suc m.epoch ≤ e + length (m.unsent ++ record { epoch = m.epoch; closing = closing_of k } ∷ []) → count_of (closed_by k book) (wrapped e) ≡ epoch_count_on e m
  counts e x y = by_cases (nat_eq e (suc m.epoch))
      (λ z. subst (λ (u : ℕ). count_of (closed_by k book) (wrapped u) ≡ epoch_count_on u m) (sym (eqb-true e (suc m.epoch) z)) (law book k (wrapped (suc m.epoch)) ∙ fresh_count ∙ sym none))
      (λ z. let before : suc e ≤ suc m.epoch = earlier e (suc m.epoch) z x in
      let l : length (m.unsent ++ record { epoch = m.epoch; closing = closing_of k } ∷ []) ≡ suc (length m.unsent) = length_more m.unsent (record { epoch = m.epoch; closing = closing_of k }) in
      law book k (wrapped e) ∙ h.counts e (omega arith) (omega arith))
    where
      true_false : true ≡ false → ⊥
      true_false b = cc b

      earlier : (e f : ℕ) → nat_eq e f ≡ false → e ≤ f → suc e ≤ f
      earlier e f z x = let n : e ≡ f → ⊥ = λ s. true_false (sym (eq-eqb e f s) ∙ z) in omega (arith, n, x)

  barrier_here : (c : Closing) → barrier_with c barrier ≡ not (no_barrier (m.unsent ++ record { epoch = m.epoch; closing = c } ∷ []))
  barrier_here c = of c ∙ sym (ap not (none_barrier m.unsent (record { epoch = m.epoch; closing = c })))
    where
      and_true : (b : Bool) → b ≡ (b && true)
      and_true true = refl
      and_true false = refl

      and_false : (b : Bool) → false ≡ (b && false)
      and_false true = refl
      and_false false = refl

      of : (x : Closing) → barrier_with x barrier ≡ not (no_barrier m.unsent && is_watermark x)
      of (ByWatermark w) = h.barrier ∙ ap not (and_true (no_barrier m.unsent))
      of (ByBarrier id) = ap not (and_false (no_barrier m.unsent))

  pub closed_stands : (wm : ℤ) → EpochsStand (closed_by k book) (barrier_with (closing_of k) barrier) (close_on (closing_of k) m.controls wm m)
  closed_stands wm = record {
    current = ap (λ (n : ℕ). (book.oldest + n) % 2 ^ 64) (length_more book.closed (record { marker = k; count = book.count })) ∙ current_more book.oldest (length book.closed) m.epoch h.current;
    markers = markers_more book.closed m.unsent (record { marker = k; count = book.count }) (record { epoch = m.epoch; closing = closing_of k }) (marker_again k) h.markers;
    counts = counts;
    barrier = barrier_here (closing_of k);
  }
