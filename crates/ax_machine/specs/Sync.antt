-- The plain thread: each event is finished before the next is looked at, on one map.
use Rattle.std.specs.Prelude.{ℕ, zero, suc, ◌*◌, ℤ, neg_ℤ, pos, ◌^◌, int_lt, List, [], ◌∷◌, ◌++◌, length, if◌then◌else◌, Option, Some, None}
use Rattle.std.specs.Str.{bytes_eq}
use Rattle.std.specs.BTreeSet.{insert_key}
use Rattle.ax_keys.specs.Keys.{key_cmp}
use Rattle.ax_text.specs.Times.{later_times}
use Rattle.ax_text.specs.KeyStates.{KeyState, fresh}
use Rattle.ax_text.specs.Run.{World, state_after}
use Rattle.ax_text.specs.Programs.{Program, kinds_of}
use Rattle.ax_text.specs.Jobs.{row_job, firing_job, job_run}
use Rattle.ax_machine.specs.Entries.{Key, Marker, Watermark, Block, Entry, says}
use Rattle.ax_machine.specs.Entries as entry
use Rattle.ax_machine.specs.Events.{Event, Row, Mark, Barrier}
use Rattle.ax_machine.specs.Firings.{Due, most_firings, next_due, one_less}
use Rattle.ax_machine.specs.Blocks.{Part, block_text}

-- what every key has
abbrev pub Map : Type 0
Map = Key → KeyState

abbrev pub put_at : Map → Key → KeyState → Map
put_at map k state q = if bytes_eq k q then state else map q

pub record Plain : Type 0 where
  -- the greatest watermark so far
  pub wm : ℤ
  -- the keys of the rows so far, rising by their bytes, each once
  pub keys : List Key
  pub map : Map
  pub entries : List Entry

-- what a handler's run leaves, where it began with `state`
abbrev pub does : Key → KeyState → World → Plain → Plain
does k state w s = record { wm = s.wm; keys = s.keys; map = put_at s.map k (state_after state w); entries = s.entries ++ says k w.talk.lines }

-- a row of a key came
abbrev pub knows : Key → Plain → Plain
knows k s = record { wm = s.wm; keys = insert_key key_cmp s.keys k; map = s.map; entries = s.entries }

abbrev pub row_step : Program → Key → ℤ → List ℤ → Plain → Plain
row_step p k time values s = does k (s.map k) (job_run p (row_job s.wm time values) (s.map k).cells) (knows k s)

-- what a key has without its first timer
abbrev pub without_least : KeyState → KeyState
without_least s = record { cells = s.cells; times = later_times s.times }

-- a timer is taken off, and its key's handler runs
abbrev pub fire : Program → Due → Plain → Plain
fire p d s = does d.key (without_least (s.map d.key)) (job_run p (firing_job s.wm d.time) (s.map d.key).cells) s

abbrev pub fire_next : Program → ((Key → ℕ) → Plain → Plain) → Option Due → (Key → ℕ) → Plain → Plain
fire_next p go None more s = s
fire_next p go (Some d) more s = go (one_less more d.key) (fire p d s)

-- as long as a timer is due of a key that may still fire, the first one fires; at most so many in all
abbrev pub fire_all : Program → ℕ → (Key → ℕ) → Plain → Plain
fire_all p zero more s = s
fire_all p (suc most) more s = fire_next p (fire_all p most) (next_due s.wm s.keys more s.map) more s

-- all that fires at the watermark: each key may fire 65,536 times, so there is an end
abbrev pub all_fired : Program → Plain → Plain
all_fired p s = fire_all p (most_firings * length s.keys) (λ k. most_firings) s

abbrev pub at_watermark : ℤ → Plain → Plain
at_watermark w s = record { wm = w; keys = s.keys; map = s.map; entries = s.entries }

abbrev pub writes : Marker → Plain → Plain
writes m s = record { wm = s.wm; keys = s.keys; map = s.map; entries = s.entries ++ entry.Mark m ∷ [] }

-- a watermark that isn't greater than the last is skipped
abbrev pub watermark_step : Program → ℤ → Plain → Plain
watermark_step p w s = if int_lt s.wm w then writes (Watermark w) (all_fired p (at_watermark w s)) else s

-- the keys with what they have
abbrev pub parts_of : List Key → Map → List Part
parts_of [] map = []
parts_of (k ∷ ks) map = record { key = k; state = map k } ∷ parts_of ks map

-- the block of a barrier, where there are m key groups
abbrev pub block_of : ℕ → Program → ℤ → Plain → Marker
block_of m p id s = Block (block_text m p.states id s.wm (parts_of s.keys s.map))

abbrev pub plain_step : ℕ → Program → Event → Plain → Plain
plain_step m p (Row k time values) s = row_step p k time values s
plain_step m p (Mark w) s = watermark_step p w s
plain_step m p (Barrier id) s = writes (block_of m p id s) s

abbrev pub plain_steps : ℕ → Program → List Event → Plain → Plain
plain_steps m p [] s = s
plain_steps m p (e ∷ es) s = plain_steps m p es (plain_step m p e s)

-- before the first watermark
abbrev pub first_wm : ℤ
first_wm = neg_ℤ (pos (2 ^ 63))

-- every key is empty, and nothing was written
abbrev pub plain_start : Program → Plain
plain_start p = record { wm = first_wm; keys = []; map = λ k. fresh (kinds_of p.states); entries = [] }

-- what the plain thread does with these events, where there are m key groups
abbrev pub sync : ℕ → Program → List Event → Plain
sync m p es = plain_steps m p es (plain_start p)

-- the same thread, of which what was written before is left aside
abbrev pub silent : Plain → Plain
silent s = record { wm = s.wm; keys = s.keys; map = s.map; entries = [] }

-- the same thread, before which this was written
abbrev pub behind : List Entry → Plain → Plain
behind es s = record { wm = s.wm; keys = s.keys; map = s.map; entries = es ++ s.entries }
