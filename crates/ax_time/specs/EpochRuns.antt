-- Several calls on the epochs, one after the other.
use Rattle.std.specs.Prelude.{◌≡◌, ℕ, ◌+◌, ◌-◌, ◌%◌, ◌^◌, ◌<◌, ◌==◌, if◌then◌else◌, List, [], ◌∷◌, ◌++◌, length, Option, None, Some}
use Rattle.ax_time.specs.declared.epoch.Marker.{Marker}
use Rattle.ax_time.specs.Epochs.{Book, fresh, current_of, place_of, IsOpen, count_at, count_of, with_count, closed_by, next_action, taken, markers_of, work_of}

-- a call that went well
pub data Call : Type 0 where
  Enter : ℕ → Call
  Leave : ℕ → Call
  Close : Marker → Call
  Take : Call

abbrev pub after : Call → Book → Book
after (Enter epoch) book = with_count book epoch (count_of book epoch + 1)
after (Leave epoch) book = with_count book epoch (count_of book epoch - 1)
after (Close m) book = closed_by m book
after Take book = taken book

-- what a call wants
abbrev pub Wants : Call → Book → Type 0
Wants (Enter epoch) book = IsOpen book epoch
Wants (Leave epoch) book = IsOpen book epoch × (0 < count_of book epoch)
Wants (Close m) book = Unit {0}
Wants Take book = Unit {0}

abbrev pub book_after : List Call → Book → Book
book_after [] book = book
book_after (call ∷ calls) book = book_after calls (after call book)

abbrev pub AllWanted : List Call → Book → Type 0
AllWanted [] book = Unit {0}
AllWanted (call ∷ calls) book = Wants call book × AllWanted calls (after call book)

-- the final action that a call took
abbrev pub action_of : Option Marker → List Marker
action_of None = []
action_of (Some m) = m ∷ []

abbrev pub taken_by : Call → Book → List Marker
taken_by (Enter epoch) book = []
taken_by (Leave epoch) book = []
taken_by (Close m) book = []
taken_by Take book = action_of (next_action book.closed)

-- the final actions that were taken, in order
abbrev pub actions_taken : List Call → Book → List Marker
actions_taken [] book = []
actions_taken (call ∷ calls) book = taken_by call book ++ actions_taken calls (after call book)

-- the final actions of the epochs that were closed, in order
abbrev pub given_by : Call → List Marker
given_by (Enter epoch) = []
given_by (Leave epoch) = []
given_by (Close m) = m ∷ []
given_by Take = []

abbrev pub actions_given : List Call → List Marker
actions_given [] = []
actions_given (call ∷ calls) = given_by call ++ actions_given calls

-- how much work entered, and how much left
abbrev pub entered_by : Call → ℕ
entered_by (Enter epoch) = 1
entered_by (Leave epoch) = 0
entered_by (Close m) = 0
entered_by Take = 0

abbrev pub left_by : Call → ℕ
left_by (Enter epoch) = 0
left_by (Leave epoch) = 1
left_by (Close m) = 0
left_by Take = 0

abbrev pub entered : List Call → ℕ
entered [] = 0
entered (call ∷ calls) = entered_by call + entered calls

abbrev pub left : List Call → ℕ
left [] = 0
left (call ∷ calls) = left_by call + left calls

-- how much work a call brings into the epoch that was begun after so many others, and how much it takes out, where the final actions of so many epochs are taken
abbrev pub entered_nth_by : ℕ → ℕ → Call → Book → ℕ
entered_nth_by nth gone (Enter epoch) book = if gone + place_of book epoch == nth then 1 else 0
entered_nth_by nth gone (Leave epoch) book = 0
entered_nth_by nth gone (Close m) book = 0
entered_nth_by nth gone Take book = 0

abbrev pub left_nth_by : ℕ → ℕ → Call → Book → ℕ
left_nth_by nth gone (Enter epoch) book = 0
left_nth_by nth gone (Leave epoch) book = if gone + place_of book epoch == nth then 1 else 0
left_nth_by nth gone (Close m) book = 0
left_nth_by nth gone Take book = 0

-- how much entered it, and how much left it
abbrev pub entered_nth : ℕ → ℕ → List Call → Book → ℕ
entered_nth nth gone [] book = 0
entered_nth nth gone (call ∷ calls) book = entered_nth_by nth gone call book + entered_nth nth (gone + length (taken_by call book)) calls (after call book)

abbrev pub left_nth : ℕ → ℕ → List Call → Book → ℕ
left_nth nth gone [] book = 0
left_nth nth gone (call ∷ calls) book = left_nth_by nth gone call book + left_nth nth (gone + length (taken_by call book)) calls (after call book)

-- from no epochs on: actions are taken in the order of the epochs, each once; epochs are numbered from 0; the work is what entered and has not left
pub record Keeps (calls : List Call) (book : Book) : Type 0 where
  pub actions : actions_given calls ≡ actions_taken calls fresh ++ markers_of book.closed
  pub numbers : book.oldest ≡ length (actions_taken calls fresh) % 2 ^ 64
  pub current : current_of book ≡ length (actions_given calls) % 2 ^ 64
  pub work : entered calls ≡ left calls + work_of book

-- what entered an epoch has left it where its final action was taken, and is else what left it and its work; epochs are numbered in the order in which they begin
pub record KeepsEach (calls : List Call) (book : Book) : Type 0 where
  pub gone : (nth : ℕ) → nth < length (actions_taken calls fresh) → entered_nth nth 0 calls fresh ≡ left_nth nth 0 calls fresh
  pub rest : (place : ℕ) → entered_nth (length (actions_taken calls fresh) + place) 0 calls fresh
      ≡ left_nth (length (actions_taken calls fresh) + place) 0 calls fresh + count_at book.closed book.count place
  pub number : (epoch : ℕ) → epoch < 2 ^ 64 → (length (actions_taken calls fresh) + place_of book epoch) % 2 ^ 64 ≡ epoch
