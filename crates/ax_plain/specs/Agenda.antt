-- The agenda of a watermark: the first timer of each key that may fire, with the firings left of the key.
use Rattle.std.specs.Prelude.{◌≡◌, ◌<◌, ◌↔◌, ℕ, ℤ, List, false, Option, None, Some, if◌then◌else◌}
use Rattle.std.specs.List.{sum_by}
use Rattle.std.specs.Map.{lookup, values_of}
use Rattle.std.specs.BTreeMap.{is_at}
use Rattle.std.specs.Str.{bytes_eq}
use Rattle.std.specs.Ordering.{is_lt}
use Rattle.std.specs.declared.cmp.Ordering.{Ordering}
use Rattle.ax_text.specs.Times.{least_time}
use Rattle.ax_machine.specs.Entries.{Key}
use Rattle.ax_machine.specs.Firings.{due_cmp}
pub use Rattle.ax_machine.specs.Firings.{timer_of}
use Rattle.ax_machine.specs.Firings as machine
use Rattle.ax_plain.specs.declared.agenda.Due.{Due}

-- a due timer, as the plain thread speaks of it
abbrev pub shown_due : Due → machine.Due
shown_due d = record { time = d.time; key = d.key }

-- due timers compared by time, and then by key
abbrev pub order : Due → Due → Ordering
order a b = due_cmp (shown_due a) (shown_due b)

-- the firings left of the key of a timer on the agenda
abbrev pub firings_at : List (Due × ℕ) → Due → Option ℕ
firings_at agenda d = lookup (is_at (order d)) agenda

-- a timer is on the agenda exactly where it is the one with which its key may fire, and it stands there with the firings left of the key
abbrev pub Lists : ℤ → (Key → ℕ) → (Key → List ℤ) → List (Due × ℕ) → Type 0
Lists w more times agenda = (d : Due) (n : ℕ) → (firings_at agenda d ≡ Some n) ↔ ((timer_of w (more d.key) d.key (times d.key) ≡ Some (shown_due d)) × (more d.key ≡ n))

-- the same firings left, but none of this key
abbrev pub without : Key → (Key → ℕ) → Key → ℕ
without key more q = if bytes_eq key q then 0 else more q

-- no key may fire
abbrev pub NoneFires : ℤ → (Key → ℕ) → (Key → List ℤ) → Type 0
NoneFires w more times = (k : Key) → timer_of w (more k) k (times k) ≡ None

-- of the timers with which keys may fire it is the first, and its key may fire so many times more
pub record IsFirstDue (w : ℤ) (more : Key → ℕ) (times : Key → List ℤ) (d : Due) (n : ℕ) : Type 0 where
  pub is : timer_of w (more d.key) d.key (times d.key) ≡ Some (shown_due d)
  pub left : more d.key ≡ n
  pub first : (k : Key) (c : machine.Due) → timer_of w (more k) k (times k) ≡ Some c → is_lt (due_cmp c (shown_due d)) ≡ false

-- the key that was not on the agenda stands there now, where it may fire: it has so many firings left, and this first timer
abbrev pub Puts : ℤ → Key → Option ℤ → ℕ → List (Due × ℕ) → List (Due × ℕ) → Type 0
Puts w key least left old new = (more : Key → ℕ) (times : Key → List ℤ) → Lists w (without key more) times old → more key ≡ left → least_time (times key) ≡ least → Lists w more times new

-- the firings left of all keys on the agenda
abbrev pub firings_left : List (Due × ℕ) → ℕ
firings_left agenda = sum_by (λ n. n) (values_of agenda)

-- some firing is left of each key on the agenda
abbrev pub HasSome : List (Due × ℕ) → Type 0
HasSome agenda = (d : Due) (n : ℕ) → firings_at agenda d ≡ Some n → 0 < n
