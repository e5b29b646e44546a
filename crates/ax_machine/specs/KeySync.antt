-- The plain thread of one key, which sees no other key.
use Rattle.std.specs.Prelude.{◌≡◌, ℕ, zero, suc, ℤ, int_lt, int_le, List, [], ◌∷◌, ◌++◌, if◌then◌else◌}
use Rattle.std.specs.Str.{bytes_eq}
use Rattle.ax_text.specs.KeyStates.{KeyState, fresh}
use Rattle.ax_text.specs.Run.{World, state_after}
use Rattle.ax_text.specs.Programs.{Program, kinds_of}
use Rattle.ax_text.specs.Jobs.{Job, Group, row_job, firing_job, job_run, group_of, lines_in}
use Rattle.ax_machine.specs.Entries.{Key, lines_of}
use Rattle.ax_machine.specs.Events.{Event, Row, Mark, Barrier}
use Rattle.ax_machine.specs.Firings.{most_firings}
use Rattle.ax_machine.specs.Sync.{without_least, first_wm, sync}

-- what a key has, and its groups so far: each job that ran on it, with its lines
pub record Said : Type 0 where
  pub state : KeyState
  pub groups : List Group

-- behind a whole run of a job that began with `state`
abbrev pub said_after : Job → KeyState → World → Said → Said
said_after j state w s = record { state = state_after state w; groups = s.groups ++ group_of j w ∷ [] }

-- a job runs on the key, which has `state` as it begins
abbrev pub ran : Program → Job → KeyState → Said → Said
ran p j state s = said_after j state (job_run p j state.cells) s

abbrev pub fire_first : Program → ℤ → (Said → Said) → List ℤ → Said → Said
fire_first p w go [] s = s
fire_first p w go (t ∷ ts) s = if int_le t w then go (ran p (firing_job w t) (without_least s.state) s) else s

-- its due timers fire, the first one each time, at most so many
abbrev pub key_fires : Program → ℤ → ℕ → Said → Said
key_fires p w zero s = s
key_fires p w (suc n) s = fire_first p w (key_fires p w n) s.state.times s

-- the key with the greatest watermark so far
pub record KeyPlain : Type 0 where
  pub wm : ℤ
  pub said : Said

abbrev pub key_row : Program → ℤ → List ℤ → KeyPlain → KeyPlain
key_row p time values s = record { wm = s.wm; said = ran p (row_job s.wm time values) s.said.state s.said }

abbrev pub key_watermark : Program → ℤ → KeyPlain → KeyPlain
key_watermark p w s = if int_lt s.wm w then record { wm = w; said = key_fires p w most_firings s.said } else s

abbrev pub key_step : Program → Key → Event → KeyPlain → KeyPlain
key_step p k (Row j time values) s = if bytes_eq j k then key_row p time values s else s
key_step p k (Mark w) s = key_watermark p w s
key_step p k (Barrier id) s = s

abbrev pub key_steps : Program → Key → List Event → KeyPlain → KeyPlain
key_steps p k [] s = s
key_steps p k (e ∷ es) s = key_steps p k es (key_step p k e s)

-- a key that was never touched
abbrev pub untold : Program → Said
untold p = record { state = fresh (kinds_of p.states); groups = [] }

-- the thread of one key
abbrev pub key_sync : Program → Key → List Event → KeyPlain
key_sync p k es = key_steps p k es (record { wm = first_wm; said = untold p })

-- what the plain thread of all keys has and wrote of one key is what the thread of that key alone has and wrote
pub record IsProjected (m : ℕ) (p : Program) (k : Key) (es : List Event) : Type 0 where
  pub wm : (sync m p es).wm ≡ (key_sync p k es).wm
  pub state : (sync m p es).map k ≡ (key_sync p k es).said.state
  pub lines : lines_of k (sync m p es).entries ≡ lines_in (key_sync p k es).said.groups
