-- A number that no live context has is new in the control.
use Rattle.std.proofs.Common.{◌≡◌, ℕ, List, [], ◌∷◌, Option, Some, None, IsSomeAnd, ◌∙◌}
use Rattle.ax_lang.specs.declared.program.Program.{Program}
use Rattle.ax_machine.specs.Entries.{Key}
use Rattle.ax_context.specs.declared.id.Id.{Id}
use Rattle.ax_context.specs.declared.contexts.Context.{Context as Held}
use Rattle.ax_context.specs.Slots.{Slots, at, IsTaken}
use Rattle.ax_account.specs.declared.part.Waiting.{Waiting as Item}
use Rattle.ax_account.specs.declared.part.Waiting.TheVariants as item
use Rattle.ax_account.specs.Accounts.{part_of}
use Rattle.ax_mailbox.specs.declared.mail.Mail.{Mail}
use Rattle.ax_execution.specs.Contexts.{Context, row_context, Waiting, Row, Mark}
use Rattle.ax_execution.specs.Allowed.{NumbersOwner, NotIn}
use Rattle.ax_execution.specs.MachineControls.{MachineControl}
use Rattle.ax_execution.specs.ControlsAllowed.{IsNewOn}
use Rattle.ax_core.specs.declared.record.Record.{Record}
use Rattle.ax_core.specs.declared.controller.Controller.{Controller}
use Rattle.ax_core.specs.Contexts.{ContextStands}
use Rattle.ax_core.specs.Keys.{OwnerStands, ItemsStand}
use Rattle.ax_core.specs.Stands.{Stands}

module _ (p : Program) (ms : List Mail) (s : Slots Record) (n : ℕ) (free : IsTaken s n → ⊥) where
  context_other : (key : Key) (id : Id) (c : Context) → ContextStands p ms key id (at s id) c → c.number ≡ n → ⊥
  context_other key id c h e = free (id, has (at s id) h)
    where
      has : (o : Option (Held Record)) → ContextStands p ms key id o c → IsSomeAnd o (λ x. x.number ≡ n)
      has None x = absurd x
      has (Some x) y = y.number ∙ e

  owner_other : (key : Key) (o : Option Id) (c : Option Context) → OwnerStands p ms s key o c → NumbersOwner n c → ⊥
  owner_other key None None h x = x
  owner_other key None (Some c) h x = h
  owner_other key (Some id) None h x = h
  owner_other key (Some id) (Some c) h x = context_other key id c h x

  items_other : (key : Key) (is : List Item) (ws : List Waiting) → ItemsStand p ms s key is ws → NotIn n ws
  items_other key [] [] h = tt
  items_other key [] (w ∷ ws) h = absurd h
  items_other key (i ∷ is) [] h = absurd h
  items_other key (item.Row id ∷ is) (Row i e f ∷ ws) h = (context_other key id (row_context i e f) h.0, items_other key is ws h.1)
  items_other key (item.Row id ∷ is) (Mark e w more ∷ ws) h = absurd h.0
  items_other key (item.Mark u v fired ∷ is) (Row i e f ∷ ws) h = absurd h.0
  items_other key (item.Mark u v fired ∷ is) (Mark e w more ∷ ws) h = items_other key is ws h.1

pub is_new : (a : Controller) (m : MachineControl) → Stands a m → (n : ℕ) → (IsTaken a.contexts n → ⊥) → IsNewOn n m
is_new a m h n free k = (
  owner_other a.program a.mails.mails a.contexts n free k (part_of a.accounts k).owner (m.controls k).owner (h.keys k).owner,
  items_other a.program a.mails.mails a.contexts n free k (part_of a.accounts k).waiting (m.controls k).waiting (h.keys k).items,
)
