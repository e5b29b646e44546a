-- Which timer fires next at a watermark.
use Rattle.std.specs.Prelude.{ℕ, zero, suc, ◌-◌, ℤ, int_le, List, [], ◌∷◌, if◌then◌else◌, Option, Some, None}
use Rattle.std.specs.Str.{bytes_eq}
use Rattle.std.specs.Ordering.{int_cmp, ordering_then, is_lt}
use Rattle.std.specs.declared.cmp.Ordering.{Ordering}
use Rattle.ax_keys.specs.Keys.{key_cmp}
use Rattle.ax_keys.specs.declared.TheConstants.{MOST_FIRINGS}
use Rattle.ax_text.specs.KeyStates.{KeyState}
use Rattle.ax_machine.specs.Entries.{Key}

-- a timer that is due, and its key
pub record Due : Type 0 where
  pub time : ℤ
  pub key : Key

-- by time, and then by the key's bytes
abbrev pub due_cmp : Due → Due → Ordering
due_cmp a b = ordering_then (int_cmp a.time b.time) (key_cmp a.key b.key)

-- how often a key may fire at one watermark
unfoldable pub most_firings : ℕ
most_firings = MOST_FIRINGS

-- the first of a key's times, where it is at or below the watermark
abbrev pub due_of : ℤ → Key → List ℤ → Option Due
due_of w k [] = None
due_of w k (t ∷ ts) = if int_le t w then Some (record { time = t; key = k }) else None

-- the timer with which a key with these times may fire, where it may fire so many times more
abbrev pub timer_of : ℤ → ℕ → Key → List ℤ → Option Due
timer_of w zero k times = None
timer_of w (suc n) k times = due_of w k times

abbrev pub candidate : ℤ → ℕ → Key → KeyState → Option Due
candidate w n k s = timer_of w n k s.times

abbrev pub earlier : Option Due → Option Due → Option Due
earlier None b = b
earlier (Some a) None = Some a
earlier (Some a) (Some b) = if is_lt (due_cmp b a) then Some b else Some a

-- the first of these keys' timers, by time and then by key, where each key may fire so many times more
abbrev pub next_due : ℤ → List Key → (Key → ℕ) → (Key → KeyState) → Option Due
next_due w [] more map = None
next_due w (k ∷ ks) more map = earlier (candidate w (more k) k (map k)) (next_due w ks more map)

-- one time less for a key
abbrev pub one_less : (Key → ℕ) → Key → Key → ℕ
one_less more k q = if bytes_eq k q then more q - 1 else more q
