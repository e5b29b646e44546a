-- What several calls keep of each epoch's work, and the number of the current epoch.
use Rattle.std.proofs.Common.{◌≡◌, ◌+◌, ◌-◌, ◌%◌, ◌^◌, ◌<◌, ◌≤◌, ◌==◌, nat_lt, Bool, true, false, if◌then◌else◌, ℕ, zero, suc, List, [], ◌∷◌, length, Some, None, refl, ap, subst, ◌∙◌, arith, ltb-true, ltb-false}
use Rattle.std.proofs.lemmas.List.{length-append, length-map}
use Rattle.ax_time.specs.declared.epoch.Closed.{Closed}
use Rattle.ax_time.specs.Epochs.{Book, fresh, place_of, current_of, count_at, count_of, with_count, put_closed, put_current, next_action, taken, markers_of}
use Rattle.ax_time.specs.EpochRuns.{Call, Enter, Leave, Close, Take, after, Wants, AllWanted, book_after, action_of, taken_by, actions_taken, actions_given, entered_nth_by, left_nth_by, entered_nth, left_nth}
use Rattle.ax_time.proofs.EpochLemmas.{own_count, other_count, count_at-close}
use Rattle.ax_time.proofs.RunLemmas.{run_markers, run_oldest}

none_fresh : (place : ℕ) → count_at [] 0 place ≡ 0
none_fresh zero = refl
none_fresh (suc place) = refl

-- the work of the epoch that was begun after so many others; none where its action was taken
pick : Bool → ℕ → ℕ
pick true n = 0
pick false n = n

work_nth : ℕ → ℕ → List Closed → ℕ → ℕ
work_nth nth gone closed count = pick (nat_lt nth gone) (count_at closed count (nth - gone))

-- one more piece of work, and one fewer

changing : (t lt : Bool) (nth gone place : ℕ) (closed : List Closed) (count n : ℕ) → (gone + place == nth) ≡ t → nat_lt nth gone ≡ lt → place ≤ length closed
    → pick lt (count_at (put_closed closed place n) (put_current closed count place n) (nth - gone)) + (if t then count_at closed count place else 0)
    ≡ pick lt (count_at closed count (nth - gone)) + (if t then n else 0)
unfolding pick
changing true true nth gone place closed count n t lt is_open =
    let same : gone + place ≡ nth = grind (arith, t) in
    let less : nth < gone = ltb-true nth gone lt in
    absurd (omega (arith, same, less))
changing false true nth gone place closed count n t lt is_open = refl
changing true false nth gone place closed count n t lt is_open =
    let same : gone + place ≡ nth = grind (arith, t) in
    let there : place ≡ nth - gone = omega (arith, same) in
    let now : count_at (put_closed closed place n) (put_current closed count place n) (nth - gone) ≡ n =
    subst (λ (q : ℕ). count_at (put_closed closed place n) (put_current closed count place n) q ≡ n) there (own_count closed count place n is_open) in
    let before : count_at closed count place ≡ count_at closed count (nth - gone) = ap (count_at closed count) there in
    omega (arith, now, before)
changing false false nth gone place closed count n t lt is_open =
    let not_less : gone ≤ nth = ltb-false nth gone lt in
    let stays : count_at (put_closed closed place n) (put_current closed count place n) (nth - gone) ≡ count_at closed count (nth - gone) =
    other_count closed count place (nth - gone) n (λ e. let same : gone + place ≡ nth = omega (arith, e, not_less) in grind (arith, t, same)) in
    omega (arith, stays)

entering : (t : Bool) (x y n : ℕ) → y + (if t then n else 0) ≡ x + (if t then n + 1 else 0) → x + (if t then 1 else 0) ≡ 0 + y
entering true x y n e = omega (arith, e)
entering false x y n e = omega (arith, e)

leaving : (t : Bool) (x y n : ℕ) → 0 < n → y + (if t then n else 0) ≡ x + (if t then n - 1 else 0) → x + 0 ≡ (if t then 1 else 0) + y
leaving true x y n some e = omega (arith, some, e)
leaving false x y n some e = omega (arith, e)

-- the action of the oldest is taken

going : (before now : Bool) (nth gone : ℕ) (c : Closed) (cs : List Closed) (count : ℕ) → nat_lt nth gone ≡ before → nat_lt nth (gone + 1) ≡ now → c.count ≡ 0
    → pick before (count_at (c ∷ cs) count (nth - gone)) ≡ pick now (count_at cs count (nth - (gone + 1)))
unfolding pick
going true true nth gone c cs count b n none = refl
going true false nth gone c cs count b n none = absurd (let less : nth < gone = ltb-true nth gone b in let not_less : gone + 1 ≤ nth = ltb-false nth (gone + 1) n in omega (arith, less, not_less))
going false true nth gone c cs count b n none =
    let not_less : gone ≤ nth = ltb-false nth gone b in
    let less : nth < gone + 1 = ltb-true nth (gone + 1) n in
    let first : nth - gone ≡ 0 = omega (arith, less) in
    ap (count_at (c ∷ cs) count) first ∙ none
going false false nth gone c cs count b n none =
    let not_less : gone + 1 ≤ nth = ltb-false nth (gone + 1) n in
    let next : nth - gone ≡ suc (nth - (gone + 1)) = omega (arith, not_less) in
    ap (count_at (c ∷ cs) count) next

if_taken : Bool → Closed → List Closed → ℕ → Book → Book
if_taken t c cs next book = if t then record { oldest = next; closed = cs; count = book.count } else book

taking : (t : Bool) (nth gone : ℕ) (c : Closed) (cs : List Closed) (oldest next count : ℕ) → (c.count == 0) ≡ t
    → work_nth nth gone (c ∷ cs) count
    ≡ work_nth nth (gone + length (action_of (if t then Some c.marker else None))) (if_taken t c cs next (record { oldest = oldest; closed = c ∷ cs; count = count })).closed (if_taken t c cs next (record { oldest = oldest; closed = c ∷ cs; count = count })).count
unfolding work_nth if_taken
taking true nth gone c cs oldest next count t = going (nat_lt nth gone) (nat_lt nth (gone + 1)) nth gone c cs count refl refl (grind (arith, t))
taking false nth gone c cs oldest next count t = ap (λ (g : ℕ). work_nth nth g (c ∷ cs) count) (omega arith)

take_nth : (nth gone : ℕ) (closed : List Closed) (oldest count : ℕ)
    → work_nth nth gone closed count
    ≡ work_nth nth (gone + length (action_of (next_action closed))) (taken (record { oldest = oldest; closed = closed; count = count })).closed (taken (record { oldest = oldest; closed = closed; count = count })).count
unfolding if_taken
take_nth nth gone [] oldest count = ap (λ (g : ℕ). work_nth nth g [] count) (omega arith)
take_nth nth gone (c ∷ cs) oldest count = taking (c.count == 0) nth gone c cs oldest ((oldest + 1) % 2 ^ 64) count refl

-- each call

stays : (nth gone : ℕ) (closed : List Closed) (count : ℕ) → work_nth nth gone closed count ≡ work_nth nth (gone + 0) closed count
stays nth gone closed count = ap (λ (g : ℕ). work_nth nth g closed count) (omega arith)

nth_step : (call : Call) (book : Book) (nth gone : ℕ) → Wants call book
    → work_nth nth gone book.closed book.count + entered_nth_by nth gone call book
    ≡ left_nth_by nth gone call book + work_nth nth (gone + length (taken_by call book)) (after call book).closed (after call book).count
unfolding work_nth
nth_step (Enter other) book nth gone w =
    let next : Book = with_count book other (count_of book other + 1) in
    omega (
      arith,
      entering (gone + place_of book other == nth) (work_nth nth gone book.closed book.count) (work_nth nth gone next.closed next.count) (count_of book other)
          (changing (gone + place_of book other == nth) (nat_lt nth gone) nth gone (place_of book other) book.closed book.count (count_of book other + 1) refl refl w),
      stays nth gone next.closed next.count,
    )
nth_step (Leave other) book nth gone w =
    let next : Book = with_count book other (count_of book other - 1) in
    omega (
      arith,
      leaving (gone + place_of book other == nth) (work_nth nth gone book.closed book.count) (work_nth nth gone next.closed next.count) (count_of book other) w.1
          (changing (gone + place_of book other == nth) (nat_lt nth gone) nth gone (place_of book other) book.closed book.count (count_of book other - 1) refl refl w.0),
      stays nth gone next.closed next.count,
    )
nth_step (Close m) book nth gone w =
    omega (
      arith,
      ap (pick (nat_lt nth gone)) (count_at-close book.closed book.count (nth - gone) m),
      stays nth gone (after (Close m) book).closed (after (Close m) book).count,
    )
nth_step Take book nth gone w = omega (arith, take_nth nth gone book.closed book.oldest book.count)

run_nth : (calls : List Call) (book : Book) (nth gone : ℕ) → AllWanted calls book
    → work_nth nth gone book.closed book.count + entered_nth nth gone calls book
    ≡ left_nth nth gone calls book + work_nth nth (gone + length (actions_taken calls book)) (book_after calls book).closed (book_after calls book).count
run_nth [] book nth gone w = omega (arith, stays nth gone book.closed book.count)
run_nth (call ∷ calls) book nth gone w =
    let next : Book = after call book in
    let last : Book = book_after calls next in
    let all : (gone + length (taken_by call book)) + length (actions_taken calls next) ≡ gone + length (actions_taken (call ∷ calls) book) =
    omega (arith, length-append (taken_by call book) (actions_taken calls next)) in
    omega (
      arith,
      nth_step call book nth gone w.0,
      run_nth calls next nth (gone + length (taken_by call book)) w.1,
      ap (λ (g : ℕ). work_nth nth g last.closed last.count) all,
    )

-- from no epochs on

fresh_nth : (nth : ℕ) → work_nth nth 0 [] 0 ≡ 0
unfolding work_nth pick
fresh_nth nth = of (nat_lt nth 0)
  where
    of : (b : Bool) → pick b (count_at [] 0 (nth - 0)) ≡ 0
    of true = refl
    of false = none_fresh (nth - 0)

gone_none : (nth gone : ℕ) (closed : List Closed) (count : ℕ) → nth < gone → work_nth nth gone closed count ≡ 0
unfolding work_nth pick
gone_none nth gone closed count h = of (nat_lt nth gone) refl
  where
    of : (b : Bool) → nat_lt nth gone ≡ b → pick b (count_at closed count (nth - gone)) ≡ 0
    of true e = refl
    of false e = absurd (let not_less : gone ≤ nth = ltb-false nth gone e in omega (arith, not_less, h))

rest_some : (gone place : ℕ) (closed : List Closed) (count : ℕ) → work_nth (gone + place) gone closed count ≡ count_at closed count place
unfolding work_nth pick
rest_some gone place closed count = of (nat_lt (gone + place) gone) refl
  where
    of : (b : Bool) → nat_lt (gone + place) gone ≡ b → pick b (count_at closed count ((gone + place) - gone)) ≡ count_at closed count place
    of true e = absurd (let less : gone + place < gone = ltb-true (gone + place) gone e in omega (arith, less))
    of false e = ap (count_at closed count) (omega arith)

pub gone_kept : (calls : List Call) (nth : ℕ) → AllWanted calls fresh → nth < length (actions_taken calls fresh) → entered_nth nth 0 calls fresh ≡ left_nth nth 0 calls fresh
gone_kept calls nth w h =
    let book : Book = book_after calls fresh in
    omega (arith, run_nth calls fresh nth 0 w, fresh_nth nth, gone_none nth (0 + length (actions_taken calls fresh)) book.closed book.count (omega (arith, h)))

pub rest_kept : (calls : List Call) (place : ℕ) → AllWanted calls fresh
    → entered_nth (length (actions_taken calls fresh) + place) 0 calls fresh
    ≡ left_nth (length (actions_taken calls fresh) + place) 0 calls fresh + count_at (book_after calls fresh).closed (book_after calls fresh).count place
rest_kept calls place w =
    let book : Book = book_after calls fresh in
    let none_more : 0 + length (actions_taken calls fresh) ≡ length (actions_taken calls fresh) = omega arith in
    omega (
      arith,
      run_nth calls fresh (length (actions_taken calls fresh) + place) 0 w,
      fresh_nth (length (actions_taken calls fresh) + place),
      ap (λ (g : ℕ). work_nth (length (actions_taken calls fresh) + place) g book.closed book.count) none_more,
      rest_some (length (actions_taken calls fresh)) place book.closed book.count,
    )

pub number_kept : (calls : List Call) (epoch : ℕ) → epoch < 2 ^ 64 → (length (actions_taken calls fresh) + place_of (book_after calls fresh) epoch) % 2 ^ 64 ≡ epoch
number_kept calls epoch e = omega (arith, run_oldest calls fresh (omega arith), e)

pub run_current : (calls : List Call) → current_of (book_after calls fresh) ≡ length (actions_given calls) % 2 ^ 64
run_current calls =
    let book = book_after calls fresh in
    let taken_so_far = actions_taken calls fresh in
    let all : length (actions_given calls) ≡ length taken_so_far + length book.closed =
    ap length (run_markers calls fresh) ∙ length-append taken_so_far (markers_of book.closed) ∙ ap (λ n. length taken_so_far + n) (length-map book.closed (λ c. c.marker)) in
    omega (arith, all, run_oldest calls fresh (omega arith))
