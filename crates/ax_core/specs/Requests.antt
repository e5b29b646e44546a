-- Where the requests stand that the machine may serve: in the queues of shards and in batches that are out, each once.
use Rattle.std.specs.Prelude.{◌≡◌, ℕ, zero, suc, nat_eq, Bool, ◌&&◌, List, [], ◌++◌, map, Option, Some, None}
use Rattle.std.specs.List.{Contains}
use Rattle.ax_machine.specs.Entries.{Key}
use Rattle.ax_execution.specs.Contexts.{Context}
use Rattle.ax_execution.specs.Machine.{Serve}
use Rattle.ax_execution.specs.MachineControls.{MachineControl}
use Rattle.ax_execution.specs.ControlsAllowed.{AllowedOn}
use Rattle.ax_core.specs.declared.record.Name.{Name}
use Rattle.ax_core.specs.declared.controller.Controller.{Controller}
use Rattle.ax_core.specs.Views.{settings_of}
use Rattle.ax_core.specs.Flow.{shard_of, out_of}
use Rattle.ax_core.specs.Sound.{rules_of}
use Rattle.ax_core.specs.Events.{IsOwnedBy}
use Rattle.ax_core.specs.Order.{number_at, Asked, queue_in}

-- what is out of a shard, in order
abbrev pub sent_by : Controller → Name → Asked
sent_by a n = record { context = number_at a n.id; slot = n.slot }

abbrev pub sent_in : Controller → ℕ → List Asked
sent_in a shard = map (sent_by a) (out_of a shard)

-- what waits in a shard's queue, and what is out of it
abbrev pub requests_in : Controller → ℕ → List Asked
requests_in a shard = queue_in a shard ++ sent_in a shard

-- that of so many shards, and of all
abbrev pub requests_below : Controller → ℕ → List Asked
requests_below a zero = []
requests_below a (suc n) = requests_in a n ++ requests_below a n

abbrev pub all_requests : Controller → List Asked
all_requests a = requests_below a (settings_of a).shards

abbrev pub same_asked : Asked → Asked → Bool
same_asked r q = nat_eq r.context q.context && nat_eq r.slot q.slot

-- what a key's owner asked at a slot waits in the queue of the key's shard, or is out of it
abbrev pub IsQueuedOrOut : Controller → Key → ℕ → Option Context → Type 0
IsQueuedOrOut a key slot None = ⊥
IsQueuedOrOut a key slot (Some c) = Contains (requests_in a (shard_of (settings_of a) key)) (record { context = c.number; slot = slot })

-- a request is one of the owner of a key of this shard, and may be served
pub record IsUnserved (a : Controller) (m : MachineControl) (place : ℕ) (r : Asked) : Type 0 where
  pub key : Key
  pub shard : shard_of (settings_of a) key ≡ place
  pub owner : IsOwnedBy r.context (m.controls key).owner
  pub may : AllowedOn (rules_of (settings_of a)) (Serve key r.slot) m

-- that, of any shard
pub record IsToServe (a : Controller) (m : MachineControl) (r : Asked) : Type 0 where
  pub key : Key
  pub owner : IsOwnedBy r.context (m.controls key).owner
  pub may : AllowedOn (rules_of (settings_of a)) (Serve key r.slot) m
