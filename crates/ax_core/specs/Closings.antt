-- What changes where an epoch is closed, and where its marker is sent.
use Rattle.std.specs.Prelude.{◌≡◌, ℕ, ◌+◌, ℤ, Bool, true, false, List, [], ◌∷◌, Option, Some, None}
use Rattle.ax_machine.specs.Entries.{Key}
use Rattle.ax_account.specs.Parts.{Part, waits}
use Rattle.ax_account.specs.Accounts.{Accounts, part_of, Changes, mark, idle_with}
use Rattle.ax_time.specs.declared.epoch.Marker.{Marker}
use Rattle.ax_time.specs.declared.epoch.Marker.TheVariants as marker
use Rattle.ax_time.specs.Epochs.{Book, current_of, count_of, with_count}

-- whether a barrier is still to be sent behind a marker that is sent, if any is
abbrev pub barrier_left : Bool → Option Marker → Bool
barrier_left barrier None = barrier
barrier_left barrier (Some (marker.Mark time)) = barrier
barrier_left barrier (Some (marker.Barrier id)) = false

-- the accounts of keys, and the book of epochs
pub record Books : Type 0 where
  pub accounts : Accounts
  pub epochs : Book

-- a watermark waits at a key as a mark of the current epoch, the last of all
pub record Marks (time : ℤ) (key : Key) (old new : Books) : Type 0 where
  pub part : Changes old.accounts new.accounts key (waits (mark (current_of old.epochs) time) (part_of old.accounts key))
  pub idle : new.accounts.idle ≡ idle_with key (part_of old.accounts key) old.accounts.idle
  pub epochs : new.epochs ≡ with_count old.epochs (current_of old.epochs) (count_of old.epochs (current_of old.epochs) + 1)

-- or stays away
abbrev pub MarksIf : Bool → ℤ → Key → Books → Books → Type 0
MarksIf true time key old new = Marks time key old new
MarksIf false time key old new = new ≡ old

-- it waits at each of these keys whose part is such, one after the other
abbrev pub MarksAll : (Part → Bool) → ℤ → List Key → Books → Books → Type 0
MarksAll such time [] old new = new ≡ old
MarksAll such time (key ∷ keys) old new = (next : Books) × MarksIf (such (part_of old.accounts key)) time key old next × MarksAll such time keys next new

abbrev pub books : Accounts → Book → Books
books accounts epochs = record { accounts = accounts; epochs = epochs }

-- the work of the current epoch
abbrev pub current_count : Book → ℕ
current_count book = count_of book (current_of book)

abbrev pub every : Part → Bool
every part = true
