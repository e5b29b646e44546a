-- What is out is of the key that it was of.
use Rattle.std.proofs.Common.{◌≡◌, ℕ, Option, Some, None, ap, ◌∙◌}
use Rattle.ax_context.specs.declared.id.Id.{Id}
use Rattle.ax_context.specs.declared.contexts.Context.{Context as Held}
use Rattle.ax_context.specs.Slots.{at, OthersStay}
use Rattle.ax_core.specs.declared.record.Record.{Record}
use Rattle.ax_core.specs.declared.controller.Controller.{Controller}
use Rattle.ax_core.specs.Flow.{OutStands, IsFlow}
use Rattle.ax_core.specs.Events.{key_in, KeysStay}

-- the contexts are the same
pub keys_same : (a b : Controller) → b.contexts ≡ a.contexts → KeysStay a b
keys_same a b same shard n c = λ j. key_in (at (same j) n.id)

pub out_live : (a : Controller) (shard : ℕ) (o : Option (Held Record)) → OutStands a shard o → o ≡ None → ⊥
out_live a shard None x e = x
out_live a shard (Some h) x e = cc e

-- or one is new
pub keys_made : (a b : Controller) (id : Id) → IsFlow a → at a.contexts id ≡ None → OthersStay a.contexts b.contexts id → KeysStay a b
keys_made a b id flow free others shard n c = ap key_in (others n.id (λ e. out_live a shard (at a.contexts n.id) (flow.out shard n c) (ap (at a.contexts) e ∙ free)))
