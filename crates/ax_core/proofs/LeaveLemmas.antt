-- The book of epochs where some of their work is done.
use Rattle.std.proofs.Common.{◌≡◌, ℕ, suc, ◌+◌, ◌-◌, ◌%◌, ◌^◌, ◌≤◌, ◌<◌, nat_eq, ℤ, Bool, true, false, cond, not, List, [], ◌∷◌, ◌++◌, map, length, refl, sym, ap, ◌∙◌, subst, arith, eqb-true}
use Rattle.std.proofs.lemmas.Bool.{eq-eqb}
use Rattle.std.proofs.lemmas.List.{length-map}
use Rattle.ax_time.specs.declared.epoch.Marker.{Marker}
use Rattle.ax_time.specs.Epochs.{Book, Fits64, current_of, place_of, IsOpen, count_of, markers_of}
use Rattle.ax_text.specs.declared.vocabulary.Handler.{Handler}
use Rattle.ax_text.specs.declared.vocabulary.Handler.TheVariants as handler
use Rattle.ax_execution.specs.Contexts.{Waiting, Row, Mark, may_fire}
use Rattle.ax_execution.specs.Counts.{one_at, row_of_epoch}
use Rattle.ax_execution.specs.Machine.{Closed}
use Rattle.ax_execution.specs.Tests.{no_barrier}
use Rattle.ax_execution.specs.MachineControls.{MachineControl, epoch_count_on}
use Rattle.ax_execution.specs.Reached.{IsOpenEpoch, WaitingOpen}
use Rattle.ax_execution.proofs.Upto.{by_cases}
use Rattle.ax_core.specs.Contexts.{wrapped}
use Rattle.ax_core.specs.Callbacks.{left_by_one, all_left, AllMayLeave, row_epochs}
use Rattle.ax_core.specs.Epochs.{MarkersStand, EpochsStand}
use Rattle.ax_core.proofs.Enters.{own_count, other_count, put_markers, put_length}
use Rattle.ax_core.proofs.HandLemmas.{how_many, ended_on}

-- a book whose current epoch is this one modulo 2 ^ 64, and what is left of each open epoch
pub record Counts (book : Book) (current : ℕ) (left : ℕ → ℕ) : Type 0 where
  pub fits : Fits64 book
  pub there : current_of book ≡ wrapped current
  pub counts : (e : ℕ) → e ≤ current → current ≤ e + length book.closed → count_of book (wrapped e) ≡ left e

-- all of these epochs are open
abbrev pub AllOpen : ℕ → ℕ → List ℕ → Type 0
AllOpen current closed [] = Unit {0}
AllOpen current closed (e ∷ es) = ((e ≤ current) × (current ≤ e + closed)) × AllOpen current closed es

open_place : (oldest closed current e : ℕ) → oldest < 2 ^ 64 → closed < 2 ^ 64 → (oldest + closed) % 2 ^ 64 ≡ current % 2 ^ 64 → e ≤ current → current ≤ e + closed → (e % 2 ^ 64 + (2 ^ 64 - oldest)) % 2 ^ 64 ≤ closed
open_place oldest closed current e a b c d f = omega arith

one_place : (oldest closed current e u : ℕ) → oldest < 2 ^ 64 → closed < 2 ^ 64 → (oldest + closed) % 2 ^ 64 ≡ current % 2 ^ 64 → e ≤ current → current ≤ e + closed → u ≤ current → current ≤ u + closed
    → (e % 2 ^ 64 + (2 ^ 64 - oldest)) % 2 ^ 64 ≡ (u % 2 ^ 64 + (2 ^ 64 - oldest)) % 2 ^ 64 → e ≡ u
one_place oldest closed current e u a b c d f g h i = omega arith

pub is_open : (book : Book) (current e : ℕ) (left : ℕ → ℕ) → Counts book current left → e ≤ current → current ≤ e + length book.closed → IsOpen book (wrapped e)
is_open book current e left h below above = open_place book.oldest (length book.closed) current e h.fits.oldest h.fits.pending h.there below above

-- one of the work of an open epoch is done
one_left : (book : Book) (current e : ℕ) (left next : ℕ → ℕ) → Counts book current left → e ≤ current → current ≤ e + length book.closed → ((u : ℕ) → next u + one_at u e ≡ left u)
    → Counts (left_by_one book (wrapped e)) current next
one_left book current e left next h below above fewer = record {
  fits = record { oldest = h.fits.oldest; pending = subst (λ (n : ℕ). n < 2 ^ 64) (sym longer) h.fits.pending };
  there = ap (λ (n : ℕ). (book.oldest + n) % 2 ^ 64) longer ∙ h.there;
  counts = λ u low high. by_cases (nat_eq e u)
      (λ x. own u (eqb-true e u x) x)
      (λ x. other u low (subst (λ (n : ℕ). current ≤ u + n) longer high) x);
}
  where
    longer : length (left_by_one book (wrapped e)).closed ≡ length book.closed
    longer = put_length book.closed (place_of book (wrapped e)) (count_of book (wrapped e) - 1)

    own : (u : ℕ) → e ≡ u → nat_eq e u ≡ true → count_of (left_by_one book (wrapped e)) (wrapped u) ≡ next u
    own u same x =
        let one : count_of (left_by_one book (wrapped e)) (wrapped e) ≡ count_of book (wrapped e) - 1 = own_count book.closed book.count (place_of book (wrapped e)) (count_of book (wrapped e) - 1) (is_open book current e left h below above) in
        let was : count_of book (wrapped e) ≡ left e = h.counts e below above in
        let less : next e + one_at e e ≡ left e = fewer e in
        let here : one_at e e ≡ 1 = ap (λ (b : Bool). cond b 1 0) (eq-eqb e e refl) in
        let last : count_of book (wrapped e) - 1 ≡ next e = omega (arith, was, less, here) in
        subst (λ (v : ℕ). count_of (left_by_one book (wrapped e)) (wrapped v) ≡ next v) same (one ∙ last)

    differ : (u : ℕ) → u ≤ current → current ≤ u + length book.closed → nat_eq e u ≡ false → place_of book (wrapped e) ≡ place_of book (wrapped u) → ⊥
    differ u low high x same =
        clash (sym (eq-eqb e u (one_place book.oldest (length book.closed) current e u h.fits.oldest h.fits.pending h.there below above low high same)) ∙ x)
      where
        clash : true ≡ false → ⊥
        clash y = cc y

    other : (u : ℕ) → u ≤ current → current ≤ u + length book.closed → nat_eq e u ≡ false → count_of (left_by_one book (wrapped e)) (wrapped u) ≡ next u
    other u low high x =
        let same : count_of (left_by_one book (wrapped e)) (wrapped u) ≡ count_of book (wrapped u) = other_count book.closed book.count (place_of book (wrapped e)) (place_of book (wrapped u)) (count_of book (wrapped e) - 1) (differ u low high x) in
        let was : count_of book (wrapped u) ≡ left u = h.counts u low high in
        let less : next u + one_at u e ≡ left u = fewer u in
        let none : one_at u e ≡ 0 = ap (λ (b : Bool). cond b 1 0) x in
        let last : left u ≡ next u = omega (arith, less, none) in
        same ∙ was ∙ last

module _ (current : ℕ) where
  -- so much of each epoch's work is done
  pub all_are_left : (es : List ℕ) (book : Book) (left next : ℕ → ℕ) → Counts book current left → AllOpen current (length book.closed) es → ((u : ℕ) → next u + how_many u es ≡ left u)
      → Counts (all_left (map wrapped es) book) current next × AllMayLeave (map wrapped es) book
  all_are_left [] book left next h all fewer = (
    record {
      fits = h.fits;
      there = h.there;
      counts = λ e low high. let same : next e + 0 ≡ left e = fewer e in let last : left e ≡ next e = omega (arith, same) in h.counts e low high ∙ last;
    },
    tt,
  )
  all_are_left (e ∷ es) book left next h all fewer =
      let mid : ℕ → ℕ = λ u. next u + how_many u es in
      let step : (u : ℕ) → next u + how_many u es + one_at u e ≡ left u = λ u. regroup (next u) (how_many u es) (one_at u e) (left u) (fewer u) in
      let one : Counts (left_by_one book (wrapped e)) current mid = one_left book current e left mid h all.0.0 all.0.1 step in
      let longer : length (left_by_one book (wrapped e)).closed ≡ length book.closed = put_length book.closed (place_of book (wrapped e)) (count_of book (wrapped e) - 1) in
      let rest = all_are_left es (left_by_one book (wrapped e)) mid next one (subst (λ (n : ℕ). AllOpen current n es) (sym longer) all.1) (λ u. refl) in
      (rest.0, ((is_open book current e left h all.0.0 all.0.1, some e (step e) (h.counts e all.0.0 all.0.1)), rest.1))
    where
      regroup : (a b d n : ℕ) → a + (d + b) ≡ n → a + b + d ≡ n
      regroup a b d n x = omega (arith, x)

      some : (e : ℕ) → next e + how_many e es + one_at e e ≡ left e → count_of book (wrapped e) ≡ left e → 0 < count_of book (wrapped e)
      some e x y =
          let here : one_at e e ≡ 1 = ap (λ (b : Bool). cond b 1 0) (eq-eqb e e refl) in
          omega (arith, x, y, here)

-- no marker changes
pub markers_left : (es : List ℕ) (book : Book) → markers_of (all_left es book).closed ≡ markers_of book.closed
markers_left [] book = refl
markers_left (e ∷ es) book = markers_left es (left_by_one book e) ∙ put_markers book.closed (place_of book e) (count_of book e - 1)

-- ---- the epochs behind a callback whose context is given up

markers_length : (ms : List Marker) (cs : List Closed) → MarkersStand ms cs → length ms ≡ length cs
markers_length [] [] h = refl
markers_length [] (c ∷ cs) h = absurd h
markers_length (m ∷ ms) [] h = absurd h
markers_length (m ∷ ms) (c ∷ cs) h = ap suc (markers_length ms cs h.1)

-- as many epochs are closed as in the control
pub closed_length : (book : Book) (closing : Bool) (m : MachineControl) → EpochsStand book closing m → length book.closed ≡ length m.unsent
closed_length book closing m h = sym (length-map book.closed (λ c. c.marker)) ∙ markers_length (markers_of book.closed) m.unsent h.markers

pub counts_of : (book : Book) (closing : Bool) (m : MachineControl) → Fits64 book → EpochsStand book closing m → Counts book m.epoch (λ u. epoch_count_on u m)
counts_of book closing m fits h = record {
  fits = fits;
  there = h.current;
  counts = λ e low high. h.counts e low (subst (λ (n : ℕ). m.epoch ≤ e + n) (closed_length book closing m h) high);
}

-- the marks that are taken off are of open epochs
pub ended_open : (m : MachineControl) (times : List ℤ) (ws : List Waiting) → WaitingOpen m ws → AllOpen m.epoch (length m.unsent) (ended_on times ws)
ended_open m times [] h = tt
ended_open m times (Row n e f ∷ ws) h = tt
ended_open m times (Mark e w more ∷ ws) h = of (may_fire w more times) (ended_open m times ws h.1)
  where
    of : (b : Bool) → AllOpen m.epoch (length m.unsent) (ended_on times ws) → AllOpen m.epoch (length m.unsent) (cond b [] (e ∷ ended_on times ws))
    of true rest = tt
    of false rest = ((h.0.begun, h.0.unsent), rest)

all_left_both : (es fs : List ℕ) (book : Book) → all_left (es ++ fs) book ≡ all_left fs (all_left es book)
all_left_both [] fs book = refl
all_left_both (e ∷ es) fs book = all_left_both es fs (left_by_one book e)

may_leave_both : (es fs : List ℕ) (book : Book) → AllMayLeave (es ++ fs) book → AllMayLeave es book × AllMayLeave fs (all_left es book)
may_leave_both [] fs book h = (tt, h)
may_leave_both (e ∷ es) fs book h = let rest = may_leave_both es fs (left_by_one book e) h.1 in ((h.0, rest.0), rest.1)

-- the row of a context leaves its epoch, and then the marks that are taken off leave theirs
pub epochs_called : (book : Book) (closing : Bool) (m behind : MachineControl) (job : Handler) (e : ℕ) (es : List ℕ) → Fits64 book → EpochsStand book closing m
    → behind.epoch ≡ m.epoch → behind.unsent ≡ m.unsent → IsOpenEpoch m e → AllOpen m.epoch (length m.unsent) es
    → ((u : ℕ) → epoch_count_on u behind + (row_of_epoch u job e + how_many u es) ≡ epoch_count_on u m)
    → EpochsStand (all_left (map wrapped es) (all_left (row_epochs job (wrapped e)) book)) closing behind
    × (AllMayLeave (row_epochs job (wrapped e)) book × AllMayLeave (map wrapped es) (all_left (row_epochs job (wrapped e)) book))
epochs_called book closing m behind job e es fits h same_epoch same_unsent first all fewer =
    let closed : length book.closed ≡ length m.unsent = closed_length book closing m h in
    let both : List ℕ = row_epochs job e ++ es in
    let goes = all_are_left m.epoch both book (λ u. epoch_count_on u m) (λ u. epoch_count_on u behind) (counts_of book closing m fits h)
    (subst (λ (n : ℕ). AllOpen m.epoch n both) (sym closed) (opens job)) (λ u. counts u job (fewer u)) in
    let listed : map wrapped both ≡ row_epochs job (wrapped e) ++ map wrapped es = split job in
    let one : all_left (map wrapped both) book ≡ all_left (map wrapped es) (all_left (row_epochs job (wrapped e)) book) =
    ap (λ (ns : List ℕ). all_left ns book) listed ∙ all_left_both (row_epochs job (wrapped e)) (map wrapped es) book in (
      subst (λ (b : Book). EpochsStand b closing behind) one (record {
        current = goes.0.there ∙ ap wrapped (sym same_epoch);
        markers = subst (λ (ms : List Marker). MarkersStand ms behind.unsent) (sym (markers_left (map wrapped both) book))
            (subst (λ (cs : List Closed). MarkersStand (markers_of book.closed) cs) (sym same_unsent) h.markers);
        counts = λ u low high. goes.0.counts u (subst (λ (n : ℕ). u ≤ n) same_epoch low)
            (subst (λ (n : ℕ). m.epoch ≤ u + n) (sym (sym (length-map (all_left (map wrapped both) book).closed (λ c. c.marker)) ∙ ap (λ (ms : List Marker). length ms) (markers_left (map wrapped both) book) ∙ length-map book.closed (λ c. c.marker) ∙ closed))
            (subst (λ (cs : List Closed). m.epoch ≤ u + length cs) same_unsent (subst (λ (n : ℕ). n ≤ u + length behind.unsent) same_epoch high)));
        barrier = h.barrier ∙ ap (λ (cs : List Closed). not (no_barrier cs)) (sym same_unsent);
      }),
      may_leave_both (row_epochs job (wrapped e)) (map wrapped es) book (subst (λ (ns : List ℕ). AllMayLeave ns book) listed goes.1),
    )
  where
    opens : (x : Handler) → AllOpen m.epoch (length m.unsent) (row_epochs x e ++ es)
    opens handler.Row = ((first.begun, first.unsent), all)
    opens handler.Timer = all

    split : (x : Handler) → map wrapped (row_epochs x e ++ es) ≡ row_epochs x (wrapped e) ++ map wrapped es
    split handler.Row = refl
    split handler.Timer = refl

    counts : (u : ℕ) (x : Handler) → epoch_count_on u behind + (row_of_epoch u x e + how_many u es) ≡ epoch_count_on u m → epoch_count_on u behind + how_many u (row_epochs x e ++ es) ≡ epoch_count_on u m
    counts u handler.Row y = y
    counts u handler.Timer y =
        let z : epoch_count_on u behind + (0 + how_many u es) ≡ epoch_count_on u m = y in
        let fewer : epoch_count_on u behind + how_many u es ≡ epoch_count_on u m = omega (arith, z) in
        fewer
