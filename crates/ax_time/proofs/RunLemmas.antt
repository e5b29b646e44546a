-- What several calls keep.
use Rattle.std.proofs.Common.{◌≡◌, ◌+◌, ◌-◌, ◌%◌, ◌^◌, ◌<◌, ◌==◌, Bool, true, false, if◌then◌else◌, ℕ, List, [], ◌∷◌, ◌++◌, length, refl, ap, sym, ◌∙◌, arith}
use Rattle.std.specs.Prelude.{None, Some}
use Rattle.std.proofs.lemmas.List.{append-nil, append_assoc, length-append, map_push}
use Rattle.ax_time.specs.declared.epoch.Closed.{Closed}
use Rattle.ax_time.specs.Epochs.{Book, place_of, count_of, taken, next_action, markers_of, work_in, work_of}
use Rattle.ax_time.specs.EpochRuns.{Call, Enter, Leave, Close, Take, after, Wants, AllWanted, book_after, action_of, taken_by, actions_taken, given_by, actions_given, entered_by, left_by, entered, left}
use Rattle.ax_time.proofs.EpochLemmas.{put_markers, put_work, close_work}

-- what is left by a call that takes the oldest epoch or not
abbrev gone : Bool → Closed → List Closed → ℕ → ℕ → ℕ → Book
gone t c cs one two count = if t then record { oldest = one; closed = cs; count = count } else record { oldest = two; closed = c ∷ cs; count = count }

marked : (t : Bool) (c : Closed) (cs : List Closed) (one two count : ℕ)
    → markers_of (c ∷ cs) ≡ action_of (if t then Some c.marker else None) ++ markers_of ((gone t c cs one two count).closed)
marked false c cs one two count = refl
marked true c cs one two count = refl

take_markers : (closed : List Closed) (oldest count : ℕ)
    → markers_of closed ≡ action_of (next_action closed) ++ markers_of (taken (record { oldest = oldest; closed = closed; count = count })).closed
take_markers [] oldest count = refl
take_markers (c ∷ cs) oldest count = marked (c.count == 0) c cs ((oldest + 1) % 2 ^ 64) oldest count

markers_step : (call : Call) (book : Book) → markers_of book.closed ++ given_by call ≡ taken_by call book ++ markers_of (after call book).closed
markers_step (Enter epoch) book = append-nil (markers_of book.closed) ∙ sym (put_markers book.closed (place_of book epoch) (count_of book epoch + 1))
markers_step (Leave epoch) book = append-nil (markers_of book.closed) ∙ sym (put_markers book.closed (place_of book epoch) (count_of book epoch - 1))
markers_step (Close m) book = sym (map_push (λ c. c.marker) book.closed (record { marker = m; count = book.count }))
markers_step Take book = append-nil (markers_of book.closed) ∙ take_markers book.closed book.oldest book.count

pub run_markers : (calls : List Call) (book : Book) → markers_of book.closed ++ actions_given calls ≡ actions_taken calls book ++ markers_of (book_after calls book).closed
run_markers [] book = append-nil (markers_of book.closed)
run_markers (call ∷ calls) book =
    let next = after call book in
    let before = markers_of book.closed in
    let between = markers_of next.closed in
    let behind = markers_of (book_after calls next).closed in
    sym (append_assoc before (given_by call) (actions_given calls))
    ∙ ap (λ x. x ++ actions_given calls) (markers_step call book)
    ∙ append_assoc (taken_by call book) between (actions_given calls)
    ∙ ap (λ x. taken_by call book ++ x) (run_markers calls next)
    ∙ sym (append_assoc (taken_by call book) (actions_taken calls next) behind)

numbered : (t : Bool) (c : Closed) (cs : List Closed) (oldest count : ℕ) → oldest < 2 ^ 64
    → (gone t c cs ((oldest + 1) % 2 ^ 64) oldest count).oldest
    ≡ (oldest + length (action_of (if t then Some c.marker else None))) % 2 ^ 64
numbered false c cs oldest count h = omega (arith, h)
numbered true c cs oldest count h = omega (arith, h)

take_oldest : (closed : List Closed) (oldest count : ℕ) → oldest < 2 ^ 64
    → (taken (record { oldest = oldest; closed = closed; count = count })).oldest ≡ (oldest + length (action_of (next_action closed))) % 2 ^ 64
take_oldest [] oldest count h = omega (arith, h)
take_oldest (c ∷ cs) oldest count h = numbered (c.count == 0) c cs oldest count h

oldest_step : (call : Call) (book : Book) → book.oldest < 2 ^ 64 → (after call book).oldest ≡ (book.oldest + length (taken_by call book)) % 2 ^ 64
oldest_step (Enter epoch) book h = omega (arith, h)
oldest_step (Leave epoch) book h = omega (arith, h)
oldest_step (Close m) book h = omega (arith, h)
oldest_step Take book h = take_oldest book.closed book.oldest book.count h

pub run_oldest : (calls : List Call) (book : Book) → book.oldest < 2 ^ 64 → (book_after calls book).oldest ≡ (book.oldest + length (actions_taken calls book)) % 2 ^ 64
run_oldest [] book h = omega (arith, h)
run_oldest (call ∷ calls) book h =
    let step = oldest_step call book h in
    let rest = run_oldest calls (after call book) (omega (arith, step)) in
    omega (arith, step, rest, length-append (taken_by call book) (actions_taken calls (after call book)))

worked : (t : Bool) (c : Closed) (cs : List Closed) (one two count : ℕ) → (c.count == 0) ≡ t
    → work_in (c ∷ cs) count ≡ work_of (gone t c cs one two count)
worked false c cs one two count t = refl
worked true c cs one two count t =
    let none : c.count ≡ 0 = grind (arith, t) in
    omega (arith, none)

take_work : (closed : List Closed) (oldest count : ℕ) → work_in closed count ≡ work_of (taken (record { oldest = oldest; closed = closed; count = count }))
take_work [] oldest count = refl
take_work (c ∷ cs) oldest count = worked (c.count == 0) c cs ((oldest + 1) % 2 ^ 64) oldest count refl

work_step : (call : Call) (book : Book) → Wants call book → work_of book + entered_by call ≡ left_by call + work_of (after call book)
work_step (Enter epoch) book w = omega (arith, put_work book.closed book.count (place_of book epoch) (count_of book epoch + 1) w)
work_step (Leave epoch) book w = omega (arith, w.1, put_work book.closed book.count (place_of book epoch) (count_of book epoch - 1) w.0)
work_step (Close m) book w = omega (arith, close_work book.closed book.count m)
work_step Take book w = omega (arith, take_work book.closed book.oldest book.count)

pub run_work : (calls : List Call) (book : Book) → AllWanted calls book → work_of book + entered calls ≡ left calls + work_of (book_after calls book)
run_work [] book w = omega arith
run_work (call ∷ calls) book w = omega (arith, work_step call book w.0, run_work calls (after call book) w.1)
