-- What the controller holds of a key, and the control that it stands for.
use Rattle.std.specs.Prelude.{◌≡◌, ℕ, ◌+◌, ℤ, List, [], ◌∷◌, Option, Some, None}
use Rattle.ax_machine.specs.Entries.{Key}
use Rattle.ax_machine.specs.Firings.{most_firings}
use Rattle.ax_lang.specs.declared.program.Program.{Program}
use Rattle.ax_context.specs.declared.id.Id.{Id}
use Rattle.ax_context.specs.Slots.{Slots, at}
use Rattle.ax_account.specs.declared.part.Waiting.{Waiting as Item}
use Rattle.ax_account.specs.declared.part.Waiting.TheVariants as item
use Rattle.ax_account.specs.Parts.{Part}
use Rattle.ax_mailbox.specs.declared.mail.Mail.{Mail}
use Rattle.ax_time.specs.Timers.{times_of}
use Rattle.ax_execution.specs.Contexts.{Context, row_context, Waiting, Row, Mark}
use Rattle.ax_execution.specs.KeyControls.{KeyControl}
use Rattle.ax_core.specs.declared.record.Record.{Record}
use Rattle.ax_core.specs.declared.controller.Controller.{Controller}
use Rattle.ax_core.specs.Contexts.{wrapped, ContextStands}
use Rattle.ax_account.specs.Accounts.{part_of}

abbrev pub OwnerStands : Program → List Mail → Slots Record → Key → Option Id → Option Context → Type 0
OwnerStands p mails s key None None = Unit {0}
OwnerStands p mails s key None (Some c) = ⊥
OwnerStands p mails s key (Some id) None = ⊥
OwnerStands p mails s key (Some id) (Some c) = ContextStands p mails key id (at s id) c

-- a mark with the firings that it has made, and those that it may still make
pub record IsMark (u : ℕ) (v : ℤ) (fired : ℕ) (e : ℕ) (w : ℤ) (more : ℕ) : Type 0 where
  pub epoch : u ≡ wrapped e
  pub time : v ≡ w
  pub firings : fired + more ≡ most_firings

abbrev pub ItemStands : Program → List Mail → Slots Record → Key → Item → Waiting → Type 0
ItemStands p mails s key (item.Row id) (Row n e f) = ContextStands p mails key id (at s id) (row_context n e f)
ItemStands p mails s key (item.Row id) (Mark e w more) = ⊥
ItemStands p mails s key (item.Mark epoch time fired) (Row n e f) = ⊥
ItemStands p mails s key (item.Mark epoch time fired) (Mark e w more) = IsMark epoch time fired e w more

-- one for one, in order
abbrev pub ItemsStand : Program → List Mail → Slots Record → Key → List Item → List Waiting → Type 0
ItemsStand p mails s key [] [] = Unit {0}
ItemsStand p mails s key [] (w ∷ ws) = ⊥
ItemsStand p mails s key (i ∷ is) [] = ⊥
ItemsStand p mails s key (i ∷ is) (w ∷ ws) = ItemStands p mails s key i w × ItemsStand p mails s key is ws

pub record PartStands (p : Program) (mails : List Mail) (s : Slots Record) (key : Key) (part : Part) (due : List ℤ) (c : KeyControl) : Type 0 where
  pub owner : OwnerStands p mails s key part.owner c.owner
  pub items : ItemsStand p mails s key part.waiting c.waiting
  pub times : due ≡ c.times

-- the account of a key with its contexts and mails, and its timers
abbrev pub KeyStands : Controller → Key → KeyControl → Type 0
KeyStands a key c = PartStands a.program a.mails.mails a.contexts key (part_of a.accounts key) (times_of a.timers key) c
