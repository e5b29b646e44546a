-- The epochs whose final action isn't taken, after FLIP-425.
use Rattle.std.specs.Prelude.{ℕ, zero, suc, ◌+◌, ◌-◌, ◌%◌, ◌^◌, ◌<◌, ◌≤◌, ◌==◌, ◌&&◌, Bool, false, if◌then◌else◌, List, [], ◌∷◌, ◌++◌, map, drop, length, Option, None, Some}
use Rattle.ax_time.specs.declared.epoch.Marker.{Marker}
use Rattle.ax_time.specs.declared.epoch.Closed.{Closed}

-- the number of the oldest epoch, the closed epochs from the oldest on, and the work of the current epoch, which comes after them
pub record Book : Type 0 where
  pub oldest : ℕ
  pub closed : List Closed
  pub count : ℕ

-- no epoch is closed, and none has work
abbrev pub fresh : Book
fresh = record { oldest = 0; closed = []; count = 0 }

-- the number of the current epoch; behind 2 ^ 64 - 1 comes 0
abbrev pub current_of : Book → ℕ
current_of book = (book.oldest + length book.closed) % 2 ^ 64

-- the place of an epoch, where the closed ones and the current one stand from the oldest on
abbrev pub place_of : Book → ℕ → ℕ
place_of book epoch = (epoch + (2 ^ 64 - book.oldest)) % 2 ^ 64

-- how far the current epoch is ahead of an epoch
abbrev pub age_of : Book → ℕ → ℕ
age_of book epoch = (current_of book + (2 ^ 64 - epoch)) % 2 ^ 64

-- the epoch is the current one or one of the closed ones
abbrev pub IsOpen : Book → ℕ → Type 0
IsOpen book epoch = place_of book epoch ≤ length book.closed

-- the work of the epoch at a place
abbrev pub count_at : List Closed → ℕ → ℕ → ℕ
count_at [] count zero = count
count_at [] count (suc place) = 0
count_at (c ∷ cs) count zero = c.count
count_at (c ∷ cs) count (suc place) = count_at cs count place

-- the work of an epoch; one that is not open has none
abbrev pub count_of : Book → ℕ → ℕ
count_of book epoch = count_at book.closed book.count (place_of book epoch)

-- the closed epochs where the one at a place has so much work
abbrev pub put_closed : List Closed → ℕ → ℕ → List Closed
put_closed [] place n = []
put_closed (c ∷ cs) zero n = record { marker = c.marker; count = n } ∷ cs
put_closed (c ∷ cs) (suc place) n = c ∷ put_closed cs place n

-- the work of the current epoch where the epoch at a place has so much work; its own place is behind the closed ones
abbrev pub put_current : List Closed → ℕ → ℕ → ℕ → ℕ
put_current [] count zero n = n
put_current [] count (suc place) n = count
put_current (c ∷ cs) count zero n = count
put_current (c ∷ cs) count (suc place) n = put_current cs count place n

-- an epoch has so much work, and all else is as before
abbrev pub with_count : Book → ℕ → ℕ → Book
with_count book epoch n = record {
  oldest = book.oldest;
  closed = put_closed book.closed (place_of book epoch) n;
  count = put_current book.closed book.count (place_of book epoch) n;
}

-- the current epoch is closed with a final action, and the next one begins
abbrev pub closed_by : Marker → Book → Book
closed_by m book = record {
  oldest = book.oldest;
  closed = book.closed ++ record { marker = m; count = book.count } ∷ [];
  count = 0;
}

-- a closed epoch is finished where neither it nor an earlier one has work
abbrev pub is_finished : List Closed → ℕ → Bool
is_finished [] place = false
is_finished (c ∷ cs) zero = c.count == 0
is_finished (c ∷ cs) (suc place) = c.count == 0 && is_finished cs place

-- the final action of the oldest closed epoch, where that is finished
abbrev pub next_action : List Closed → Option Marker
next_action [] = None
next_action (c ∷ cs) = if c.count == 0 then Some c.marker else None

-- the oldest closed epoch is gone where it is finished
abbrev pub taken : Book → Book
taken book =
    if is_finished book.closed 0
    then record { oldest = (book.oldest + 1) % 2 ^ 64; closed = drop 1 book.closed; count = book.count }
    else book

-- the final actions of closed epochs
abbrev pub markers_of : List Closed → List Marker
markers_of closed = map (λ c. c.marker) closed

-- the work of all epochs
abbrev pub work_in : List Closed → ℕ → ℕ
work_in [] count = count
work_in (c ∷ cs) count = c.count + work_in cs count

abbrev pub work_of : Book → ℕ
work_of book = work_in book.closed book.count

-- the numbers of a book are such as fit
pub record Fits64 (book : Book) : Type 0 where
  pub oldest : book.oldest < 2 ^ 64
  pub pending : length book.closed < 2 ^ 64
