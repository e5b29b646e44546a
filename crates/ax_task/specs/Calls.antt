-- What the controller's own calls leave; the shards, the settings and the size of batches stay.
use Rattle.std.specs.Prelude.{◌≡◌, ℕ, ℤ, int_lt, List, [], ◌∷◌, Bool, true, false}
use Rattle.ax_machine.specs.Entries.{Key}
use Rattle.ax_input.specs.declared.event.Event.{Event as CodeEvent}
use Rattle.ax_input.specs.declared.event.Event.TheVariants as event
use Rattle.ax_time.specs.declared.epoch.Marker.{Marker}
use Rattle.ax_time.specs.declared.epoch.Marker.TheVariants as marker
use Rattle.ax_execution.specs.Machine.{Admit, Close}
use Rattle.ax_execution.specs.MachineControls.{MachineControl}
use Rattle.ax_execution.specs.OwedChanges.{is_free_on}
use Rattle.ax_core.specs.declared.effects.Fired.{Fired}
use Rattle.ax_core.specs.declared.effects.Effects.{Effects}
use Rattle.ax_core.specs.declared.effects.Ran.TheVariants as ran
use Rattle.ax_core.specs.Views.{wm_of}
use Rattle.ax_core.specs.Epochs.{closing_of}
use Rattle.ax_core.specs.Sound.{StandsFor}
use Rattle.ax_core.specs.Events as core
use Rattle.ax_core.specs.Numbers.{IsNumbered, NoneNumbered, NumbersBehind}
use Rattle.ax_core.specs.Order.{Posts, RunsFirst, IdleBehind, begins_where, idle_in}
use Rattle.ax_task.specs.Engines.{ShardsStay}
use Rattle.ax_task.specs.declared.engine.Engine.{Engine}

-- the key that has been idle longest fired its least timer, and its handler is to run last
pub record HasFired (old new : Engine) (f : Fired) : Type 0 where
  pub event : (m : MachineControl) → StandsFor old.core m → core.Fires old.core new.core f m
  pub order : Posts old.core new.core (ran.Start f.context ∷ [])
  pub idle : idle_in old.core ≡ f.key ∷ idle_in new.core
  pub numbers : IsNumbered old.core new.core f.context
  pub shards : ShardsStay old new

-- the first callback ran
pub record HasRun (old new : Engine) (f : Effects) : Type 0 where
  pub event : (m : MachineControl) → StandsFor old.core m → core.Runs old.core new.core f m
  pub order : (m : MachineControl) → StandsFor old.core m → RunsFirst old.core new.core f m
  pub idle : idle_in new.core ≡ idle_in old.core
  pub numbers : NumbersBehind old.core new.core f.fired
  pub shards : ShardsStay old new

-- the marker of the oldest closed epoch was taken, to be written
pub record HasSent (old new : Engine) (k : Marker) : Type 0 where
  pub event : (m : MachineControl) → StandsFor old.core m → core.Sends old.core new.core k m
  pub order : Posts old.core new.core []
  pub idle : idle_in new.core ≡ idle_in old.core
  pub numbers : NoneNumbered old.core new.core
  pub shards : ShardsStay old new

-- a row came in
pub record HasAdmitted (old new : Engine) (key : Key) (time : ℤ) (values : List ℤ) : Type 0 where
  pub number : ℕ
  pub event : (m : MachineControl) → StandsFor old.core m → core.Makes old.core new.core (Admit number key time values) m
  pub order : (m : MachineControl) → StandsFor old.core m → Posts old.core new.core (begins_where (is_free_on (m.controls key)) number)
  pub idle : idle_in new.core ≡ idle_in old.core
  pub numbers : IsNumbered old.core new.core number
  pub shards : ShardsStay old new

-- the epoch ended
pub record HasClosed (old new : Engine) (k : Marker) : Type 0 where
  pub event : (m : MachineControl) → StandsFor old.core m → core.Makes old.core new.core (Close (closing_of k)) m
  pub order : Posts old.core new.core []
  pub idle : (m : MachineControl) → StandsFor old.core m → IdleBehind old.core new.core k m
  pub numbers : NoneNumbered old.core new.core
  pub shards : ShardsStay old new

-- a watermark that is greater than the last ends the epoch, and any other is left out
abbrev pub HasMarked : Bool → Engine → Engine → ℤ → Type 0
HasMarked true old new time = HasClosed old new (marker.Mark time)
HasMarked false old new time = new ≡ old

-- an event was taken
abbrev pub HasTaken : Engine → Engine → CodeEvent → Type 0
HasTaken old new (event.Row key time values) = HasAdmitted old new key time values
HasTaken old new (event.Mark time) = HasMarked (int_lt (wm_of old.core) time) old new time
HasTaken old new (event.Barrier id) = HasClosed old new (marker.Barrier id)
