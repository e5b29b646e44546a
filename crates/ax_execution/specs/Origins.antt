-- Where the plain thread and the machine begin: before the first event, or at what a snapshot gave back.
use Rattle.std.specs.Prelude.{◌≡◌, ℕ, ℤ, List, [], false}
use Rattle.std.specs.Str.{bytes_eq}
use Rattle.std.specs.List.{list_any}
use Rattle.std.specs.List.Sorted.{IsStrictlySortedBy}
use Rattle.std.specs.Ordering.{int_cmp}
use Rattle.ax_keys.specs.Keys.{key_cmp}
use Rattle.ax_text.specs.KeyStates.{fresh}
use Rattle.ax_text.specs.Programs.{Program, kinds_of}
use Rattle.ax_machine.specs.Entries.{Key, lines_of}
use Rattle.ax_machine.specs.Events.{Event}
use Rattle.ax_machine.specs.Sync.{Map, Plain, plain_steps, first_wm}
use Rattle.ax_machine.specs.KeySync.{Said, KeyPlain, key_steps}
use Rattle.ax_text.specs.Jobs.{lines_in}

pub record Origin : Type 0 where
  -- the greatest watermark so far
  pub wm : ℤ
  -- the keys that have states or timers, rising by their bytes, each once
  pub keys : List Key
  pub map : Map

-- the keys rise, and the times of each; each key that isn't among them was never touched
pub record IsOrigin (p : Program) (from : Origin) : Type 0 where
  pub keys : IsStrictlySortedBy key_cmp from.keys
  pub times : (k : Key) → IsStrictlySortedBy int_cmp (from.map k).times
  pub others : (k : Key) → list_any (bytes_eq k) from.keys ≡ false → from.map k ≡ fresh (kinds_of p.states)

-- before the first event
abbrev pub first : Program → Origin
first p = record { wm = first_wm; keys = []; map = λ k. fresh (kinds_of p.states) }

abbrev pub plain_from : Origin → Plain
plain_from from = record { wm = from.wm; keys = from.keys; map = from.map; entries = [] }

-- the plain thread from there, where there are m key groups
abbrev pub sync_from : ℕ → Program → Origin → List Event → Plain
sync_from m p from es = plain_steps m p es (plain_from from)

-- what a key has there; it has said nothing yet
abbrev pub said_from : Origin → Key → Said
said_from from k = record { state = from.map k; groups = [] }

-- the thread of one key from there
abbrev pub key_sync_from : Program → Origin → Key → List Event → KeyPlain
key_sync_from p from k es = key_steps p k es (record { wm = from.wm; said = said_from from k })

-- what the plain thread of all keys has and wrote of one key is what the thread of that key alone has and wrote
pub record IsProjectedFrom (m : ℕ) (p : Program) (from : Origin) (k : Key) (es : List Event) : Type 0 where
  pub wm : (sync_from m p from es).wm ≡ (key_sync_from p from k es).wm
  pub state : (sync_from m p from es).map k ≡ (key_sync_from p from k es).said.state
  pub lines : lines_of k (sync_from m p from es).entries ≡ lines_in (key_sync_from p from k es).said.groups
