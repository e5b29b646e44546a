-- Where nothing is on its way in a controller, and where nothing is left to do.
use Rattle.std.specs.Prelude.{◌≡◌, ◌<◌, ℕ, false, []}
use Rattle.ax_buffer.specs.Buffer.{queue_of}
use Rattle.ax_execution.specs.MachineControls.{MachineControl}
use Rattle.ax_execution.specs.ControlsAllowed.{FirstIsFinishedOn}
use Rattle.ax_core.specs.declared.controller.Controller.{Controller}
use Rattle.ax_core.specs.Views.{buffer_of, settings_of}
use Rattle.ax_core.specs.Flow.{out_of}
use Rattle.ax_core.specs.May.{may_fire, has_mail}

-- no callback is to run, no request waits in a queue, and none is out
pub record NothingIsOnTheWay (a : Controller) : Type 0 where
  pub mails : has_mail a ≡ false
  pub queues : (shard : ℕ) → shard < (settings_of a).shards → queue_of (buffer_of a) shard ≡ []
  pub outs : (shard : ℕ) → shard < (settings_of a).shards → out_of a shard ≡ []

-- besides, no key may fire, and no marker is to be sent
pub record NothingIsLeft (a : Controller) (m : MachineControl) : Type 0 where
  pub way : NothingIsOnTheWay a
  pub fires : may_fire a ≡ false
  pub sends : FirstIsFinishedOn m.unsent m → ⊥
