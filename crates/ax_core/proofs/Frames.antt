-- What stands for a key stays where its contexts, and the answers to them, stay.
use Rattle.std.proofs.Common.{◌≡◌, ◌≢◌, ℕ, ℤ, List, [], ◌∷◌, ◌++◌, ◌&&◌, Option, Some, None, refl, sym, ap, ◌∙◌, subst, nat_eq}
use Rattle.ax_lang.specs.declared.program.Program.{Program}
use Rattle.ax_future.specs.declared.machine.Machine.{Machine as CodeMachine}
use Rattle.ax_context.specs.declared.id.Id.{Id}
use Rattle.ax_context.specs.declared.contexts.Context.{Context as Held}
use Rattle.ax_context.specs.Slots.{Slots, at, OthersStay}
use Rattle.ax_account.specs.declared.part.Waiting.{Waiting as Item}
use Rattle.ax_account.specs.declared.part.Waiting.TheVariants as item
use Rattle.ax_account.specs.Parts.{Part}
use Rattle.ax_mailbox.specs.declared.mail.Mail.{Mail}
use Rattle.ax_mailbox.specs.declared.mail.Mail.TheVariants as mail
use Rattle.ax_machine.specs.Entries.{Key}
use Rattle.ax_execution.specs.Contexts.{Stage, Unbegun, Begun, Context, row_context, Waiting, Row, Mark}
use Rattle.ax_execution.specs.KeyControls.{KeyControl}
use Rattle.ax_core.specs.declared.record.Record.{Record}
use Rattle.ax_core.specs.Contexts.{same_id, answer_if, answer_in, StageStands, ContextStands}
use Rattle.ax_core.specs.Keys.{OwnerStands, ItemsStand, PartStands}

-- what is held of an id is of a key
abbrev pub KeyIn : Key → Option (Held Record) → Type 0
KeyIn key None = ⊥
KeyIn key (Some h) = h.payload.facts.key ≡ key

pub key_in : (p : Program) (ms : List Mail) (key : Key) (id : Id) (o : Option (Held Record)) (c : Context) → ContextStands p ms key id o c → KeyIn key o
key_in p ms key id None c h = absurd h
key_in p ms key id (Some x) c h = h.job.key

-- a context, and the answers to it, are as before
pub record Keeps (ms ns : List Mail) (s t : Slots Record) (id : Id) : Type 0 where
  pub context : at t id ≡ at s id
  pub answers : (slot : ℕ) → answer_in ns id slot ≡ answer_in ms id slot

module _ (p : Program) (ms ns : List Mail) (s t : Slots Record) where
  stage_stays : (id : Id) → ((slot : ℕ) → answer_in ns id slot ≡ answer_in ms id slot) → (o : Option CodeMachine) (g : Stage) → StageStands p ms id o g → StageStands p ns id o g
  stage_stays id same None Unbegun h = tt
  stage_stays id same None (Begun r) h = absurd h
  stage_stays id same (Some m) Unbegun h = absurd h
  stage_stays id same (Some m) (Begun r) h = record { control = h.control; names = h.names; answers = λ slot. same slot ∙ h.answers slot; sound = h.sound }

  held_stays : (key : Key) (id : Id) → ((slot : ℕ) → answer_in ns id slot ≡ answer_in ms id slot) → (o : Option (Held Record)) (c : Context)
      → ContextStands p ms key id o c → ContextStands p ns key id o c
  held_stays key id same None c h = absurd h
  held_stays key id same (Some x) c h = record { number = h.number; epoch = h.epoch; count = h.count; job = h.job; stage = stage_stays id same x.payload.machine c.stage h.stage }

  pub context_stays : (key : Key) (id : Id) (c : Context) → Keeps ms ns s t id → ContextStands p ms key id (at s id) c → ContextStands p ns key id (at t id) c
  context_stays key id c k h = subst (λ (o : Option (Held Record)). ContextStands p ns key id o c) (sym k.context) (held_stays key id k.answers (at s id) c h)

  -- each row that waits stays
  abbrev pub KeepAll : List Item → Type 0
  KeepAll [] = Unit {0}
  KeepAll (item.Row id ∷ is) = Keeps ms ns s t id × KeepAll is
  KeepAll (item.Mark e w fired ∷ is) = KeepAll is

  pub items_stay : (key : Key) (is : List Item) (ws : List Waiting) → KeepAll is → ItemsStand p ms s key is ws → ItemsStand p ns t key is ws
  items_stay key [] [] k h = tt
  items_stay key [] (w ∷ ws) k h = absurd h
  items_stay key (i ∷ is) [] k h = absurd h
  items_stay key (item.Row id ∷ is) (Row n e f ∷ ws) k h = (context_stays key id (row_context n e f) k.0 h.0, items_stay key is ws k.1 h.1)
  items_stay key (item.Row id ∷ is) (Mark e w more ∷ ws) k h = absurd h.0
  items_stay key (item.Mark e w fired ∷ is) (Row n d f ∷ ws) k h = absurd h.0
  items_stay key (item.Mark e w fired ∷ is) (Mark d v more ∷ ws) k h = (h.0, items_stay key is ws k h.1)

  pub owner_stays : (key : Key) (o : Option Id) (c : Option Context) → ((id : Id) → o ≡ Some id → Keeps ms ns s t id) → OwnerStands p ms s key o c → OwnerStands p ns t key o c
  owner_stays key None None k h = tt
  owner_stays key None (Some c) k h = absurd h
  owner_stays key (Some id) None k h = absurd h
  owner_stays key (Some id) (Some c) k h = context_stays key id c (k id refl) h

  -- all rows that wait for a key are held as of that key
  pub keep_all : (key : Key) (is : List Item) (ws : List Waiting) → ((id : Id) → KeyIn key (at s id) → Keeps ms ns s t id) → ItemsStand p ms s key is ws → KeepAll is
  keep_all key [] ws k h = tt
  keep_all key (i ∷ is) [] k h = absurd h
  keep_all key (item.Row id ∷ is) (Row n e f ∷ ws) k h = (k id (key_in p ms key id (at s id) (row_context n e f) h.0), keep_all key is ws k h.1)
  keep_all key (item.Row id ∷ is) (Mark e w more ∷ ws) k h = absurd h.0
  keep_all key (item.Mark e w fired ∷ is) (Row n d f ∷ ws) k h = absurd h.0
  keep_all key (item.Mark e w fired ∷ is) (Mark d v more ∷ ws) k h = keep_all key is ws k h.1

  owner_key : (key : Key) (o : Option Id) (c : Option Context) → OwnerStands p ms s key o c → (id : Id) → o ≡ Some id → KeyIn key (at s id)
  owner_key key None None h id e = absurd (cc e)
  owner_key key None (Some c) h id e = absurd h
  owner_key key (Some j) None h id e = absurd h
  owner_key key (Some j) (Some c) h id e = subst (λ (o : Option Id). named o) e (key_in p ms key j (at s j) c h)
    where
      named : Option Id → Type 0
      named None = ⊥
      named (Some i) = KeyIn key (at s i)

  -- what stands for a key stays where each context that is held as of it stays
  pub part_stays : (key : Key) → ((id : Id) → KeyIn key (at s id) → Keeps ms ns s t id) → (part : Part) (times : List ℤ) (c : KeyControl)
      → PartStands p ms s key part times c → PartStands p ns t key part times c
  part_stays key k part times c h = record {
    owner = owner_stays key part.owner c.owner (λ id e. k id (owner_key key part.owner c.owner h.owner id e)) h.owner;
    items = items_stay key part.waiting c.waiting (keep_all key part.waiting c.waiting k h.items) h.items;
    times = h.times;
  }

-- where one context changes that isn't held as of a key, the others stay
pub others_keep : (ms ns : List Mail) (s t : Slots Record) (one : Id) (key : Key) → (KeyIn key (at s one) → ⊥) → OthersStay s t one
    → ((id : Id) → id ≢ one → (slot : ℕ) → answer_in ns id slot ≡ answer_in ms id slot) → (id : Id) → KeyIn key (at s id) → Keeps ms ns s t id
others_keep ms ns s t one key other stay answers id h = record { context = stay id (differ id h); answers = answers id (differ id h) }
  where
    differ : (id : Id) → KeyIn key (at s id) → id ≢ one
    differ id h e = other (subst (λ (j : Id). KeyIn key (at s j)) e h)

-- nothing answers a mail that starts a context
pub started_answers : (ms : List Mail) (one id : Id) (slot : ℕ) → answer_in (ms ++ mail.Start one ∷ []) id slot ≡ answer_in ms id slot
started_answers [] one id slot = refl
started_answers (mail.Start i ∷ ms) one id slot = started_answers ms one id slot
started_answers (mail.Fire i ∷ ms) one id slot = started_answers ms one id slot
started_answers (mail.Reply i s a ∷ ms) one id slot = ap (answer_if (same_id i id && nat_eq s slot) a) (started_answers ms one id slot)

pub fired_answers : (ms : List Mail) (one id : Id) (slot : ℕ) → answer_in (ms ++ mail.Fire one ∷ []) id slot ≡ answer_in ms id slot
fired_answers [] one id slot = refl
fired_answers (mail.Start i ∷ ms) one id slot = fired_answers ms one id slot
fired_answers (mail.Fire i ∷ ms) one id slot = fired_answers ms one id slot
fired_answers (mail.Reply i s a ∷ ms) one id slot = ap (answer_if (same_id i id && nat_eq s slot) a) (fired_answers ms one id slot)
