-- The controller with its shards: what it has read and written, and what each thing that it does adds.
use Rattle.std.specs.Prelude.{◌≡◌, ℕ, ◌<◌, ℤ, Bool, List, [], ◌∷◌, ◌++◌, ◌⊎◌, Option}
use Rattle.std.specs.Io.KnownBytes.{Appends}
use Rattle.ax_base.specs.Outside.{AppendsSome}
use Rattle.ax_machine.specs.Entries.{Key, Entry, Watermark, marker_text, text_of}
use Rattle.ax_machine.specs.Blocks.{Part, part_lines, lines_among, block_text}
use Rattle.ax_machine.specs.Events.{Event, Row, Mark, Barrier}
use Rattle.ax_machine.specs.Lawful.{LawfulSoFarFor}
use Rattle.ax_lang.specs.declared.program.Program.{Program}
use Rattle.ax_lang.specs.Shown.{shown_program, shown_kinds}
use Rattle.ax_time.specs.declared.epoch.Marker.{Marker}
use Rattle.ax_time.specs.declared.epoch.Marker.TheVariants as marker
use Rattle.ax_time.specs.Timers.{times_of}
use Rattle.ax_execution.specs.MachineControls.{MachineControl}
use Rattle.ax_execution.specs.ControlsAllowed.{FirstIsFinishedOn}
use Rattle.ax_core.specs.declared.settings.Settings.{Settings}
use Rattle.ax_core.specs.declared.controller.Controller.{Controller}
use Rattle.ax_core.specs.Views.{program_of, wm_of, timers_of}
use Rattle.ax_core.specs.May.{may_admit, may_close}
use Rattle.ax_core.specs.Sound.{StandsFor, IsSound}
use Rattle.ax_core.specs.Events.{MayFireOn}
use Rattle.ax_task.specs.Shards.{shard_count, held, out}
use Rattle.ax_task.specs.Refined.{content_over, Refines}
use Rattle.ax_task.specs.declared.engine.Engine.{Engine}

-- these events were read and this was written, and shards and controller stand for the machine behind that
pub record Stands (s : Settings) (p : Program) (e : Engine) (read : List Event) (written : List Entry) : Type 0 where
  pub sound : IsSound e.core
  pub refines : Refines s p e.core (content_over s (held e.shards)) (out e.shards) read written
  pub settings : e.settings ≡ s
  pub shards : shard_count e.shards ≡ s.shards
  pub kinds : e.shards.kinds ≡ shown_kinds p
  pub some : 0 < s.in_flight
  pub batch : 0 < e.batch

-- how many requests go to a shard at once
abbrev pub batch_of : Engine → ℕ
batch_of e = e.batch

-- the numbers that are left to choose by which batch is served
abbrev pub order_of : Engine → List ℤ
order_of e = e.shards.order

-- the controller alone went on: which batches are out, what the shards hold, and by what it is chosen which batch is served, stay
pub record ShardsStay (old new : Engine) : Type 0 where
  pub settings : new.settings ≡ old.settings
  pub batch : batch_of new ≡ batch_of old
  pub shards : new.shards ≡ old.shards

-- it is somewhere in a run
pub record IsReady (e : Engine) : Type 0 where
  pub settings : Settings
  pub program : Program
  pub read : List Event
  pub written : List Entry
  pub stands : Stands settings program e read written

-- nothing was taken and nothing written
abbrev pub MovesOn : Engine → Engine → Type 0
MovesOn old new = (s : Settings) (p : Program) (read : List Event) (written : List Entry) → Stands s p old read written → Stands s p new read written

-- an event was taken
abbrev pub Takes : Engine → Engine → Event → Type 0
Takes old new event = (s : Settings) (p : Program) (read : List Event) (written : List Entry) → Stands s p old read written → Stands s p new (read ++ event ∷ []) written

-- entries were written
pub record Wrote (s : Settings) (p : Program) (e : Engine) (read : List Event) (written : List Entry) (h h' : Option (List ℕ)) : Type 0 where
  pub entries : List Entry
  pub stands : Stands s p e read (written ++ entries)
  pub grown : Appends h h' (text_of entries)

abbrev pub Writes : Engine → Engine → Option (List ℕ) → Option (List ℕ) → Type 0
Writes old new h h' = (s : Settings) (p : Program) (read : List Event) (written : List Entry) → Stands s p old read written → Wrote s p new read written h h'

-- some of the text of entries was written, which may follow
pub record WroteSome (s : Settings) (p : Program) (read : List Event) (written : List Entry) (h h' : Option (List ℕ)) : Type 0 where
  pub entries : List Entry
  pub so_far : LawfulSoFarFor s.groups s.serial (shown_program p) read (written ++ entries)
  pub part : AppendsSome h h' (text_of entries)

abbrev pub WritesSome : Engine → Option (List ℕ) → Option (List ℕ) → Type 0
WritesSome old h h' = (s : Settings) (p : Program) (read : List Event) (written : List Entry) → Stands s p old read written → WroteSome s p read written h h'

-- no key may fire, and no marker is to be sent
pub record IsQuiet (a : Controller) : Type 0 where
  pub fires : (m : MachineControl) → StandsFor a m → MayFireOn a m → ⊥
  pub sends : (m : MachineControl) → StandsFor a m → FirstIsFinishedOn m.unsent m → ⊥

-- the block of a barrier, where each key has the lines of what the shards hold and of its timers
pub record IsBlockOf (e : Engine) (id : ℤ) (bytes : List ℕ) : Type 0 where
  pub parts : List Part
  pub lines : (k : Key) → lines_among (shown_program (program_of e.core)).states k parts
      ≡ part_lines (shown_program (program_of e.core)).states (record { key = k; state = record { cells = content_over e.settings (held e.shards) k; times = times_of (timers_of e.core) k } })
  pub text : bytes ≡ block_text e.settings.groups (shown_program (program_of e.core)).states id (wm_of e.core) parts

-- what is written as a marker
abbrev pub IsMarkerText : Engine → Marker → List ℕ → Type 0
IsMarkerText e (marker.Mark time) text = text ≡ marker_text (Watermark time)
IsMarkerText e (marker.Barrier id) text = IsBlockOf e id text

-- a marker was written; or nothing, or some of it
pub record WroteMarker (e : Engine) (k : Marker) (h h' : Option (List ℕ)) : Type 0 where
  pub text : List ℕ
  pub is : IsMarkerText e k text
  pub grown : Appends h h' text

pub record WrotePart (e : Engine) (k : Marker) (h h' : Option (List ℕ)) : Type 0 where
  pub text : List ℕ
  pub is : IsMarkerText e k text
  pub part : AppendsSome h h' text

abbrev pub WritesPart : Engine → Marker → Option (List ℕ) → Option (List ℕ) → Type 0
WritesPart e k h h' = (h' ≡ h) ⊎ WrotePart e k h h'

-- an event that can be taken: a row may come in, and an epoch may be closed
abbrev pub may_take : Controller → Event → Bool
may_take a (Row key time values) = may_admit a
may_take a (Mark time) = may_close a
may_take a (Barrier id) = may_close a
