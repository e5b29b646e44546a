-- What stands for the keys behind a callback of the context that owns one of them.
use Rattle.std.proofs.Common.{◌≡◌, ◌≢◌, ℕ, ◌+◌, ◌≤◌, ℤ, Bool, true, false, cond, List, [], ◌∷◌, ◌++◌, Option, Some, None, refl, sym, ap, ◌∙◌, subst, arith}
use Rattle.std.specs.Str.{bytes_eq}
use Rattle.std.specs.List.{list_any}
use Rattle.std.proofs.lemmas.Bool.{eq-eqb}
use Rattle.ax_text.specs.Exprs.{Facts}
use Rattle.ax_lang.specs.declared.program.Program.{Program}
use Rattle.ax_machine.specs.Entries.{Key}
use Rattle.ax_machine.proofs.FiringLemmas.{key_is, same_key}
use Rattle.ax_context.specs.declared.id.Id.{Id}
use Rattle.ax_context.specs.declared.contexts.Context.{Context as Held}
use Rattle.ax_context.specs.Slots.{Slots, at, OthersStay}
use Rattle.ax_account.specs.declared.part.Waiting.{Waiting as Item}
use Rattle.ax_account.specs.declared.part.Waiting.TheVariants as item
use Rattle.ax_account.specs.Parts.{Part}
use Rattle.ax_account.specs.Accounts.{Accounts, part_of, Changes}
use Rattle.ax_mailbox.specs.declared.mail.Mail.{Mail}
use Rattle.ax_mailbox.specs.declared.mail.Mail.TheVariants as mail
use Rattle.ax_time.specs.declared.timer.Timer.{Timer}
use Rattle.ax_time.specs.Timers.{times_of, PutsTimes}
use Rattle.ax_execution.specs.Contexts.{Context, row_context, Waiting, Row, Mark}
use Rattle.ax_execution.specs.Counts.{one_at, rows_numbered, owner_numbered}
use Rattle.ax_execution.specs.KeyControls.{KeyControl}
use Rattle.ax_execution.specs.MachineControls.{MachineControl, control_at, control_numbered, number_count_on}
use Rattle.ax_execution.proofs.KeySums.{in_total}
use Rattle.ax_execution.proofs.SingleKeys.{own_control, other_control}
use Rattle.ax_execution.proofs.Upto.{by_cases}
use Rattle.ax_core.specs.declared.record.Record.{Record}
use Rattle.ax_core.specs.Contexts.{answer_in, ContextStands}
use Rattle.ax_core.specs.Keys.{ItemsStand, PartStands}
use Rattle.ax_core.proofs.Frames.{KeyIn, key_in, Keeps, KeepAll, items_stay, part_stays, others_keep, started_answers}
use Rattle.ax_core.proofs.TimerLemmas.{puts_at, puts_elsewhere}

-- what is held of a context has one number and one key
number_is : (p : Program) (ms : List Mail) (key other : Key) (id : Id) (o : Option (Held Record)) (c d : Context) → ContextStands p ms key id o c → ContextStands p ms other id o d → c.number ≡ d.number
number_is p ms key other id None c d x y = absurd x
number_is p ms key other id (Some h) c d x y = sym x.number ∙ y.number

one_key : (key other : Key) (o : Option (Held Record)) → KeyIn key o → KeyIn other o → key ≡ other
one_key key other None x y = absurd x
one_key key other (Some h) x y = sym x ∙ y

true_false : true ≡ false → ⊥
true_false e = cc e

-- no row that waits for the key of an owner has the owner's number
pub no_row_numbered : (m : MachineControl) (key : Key) (c : Context) → ((n : ℕ) → number_count_on n m ≤ 1) → list_any (bytes_eq key) m.keys ≡ true → (m.controls key).owner ≡ Some c
    → rows_numbered c.number (m.controls key).waiting ≡ 0
no_row_numbered m key c numbers known owner =
    let most : number_count_on c.number m ≤ 1 = numbers c.number in
    let here : control_numbered c.number (m.controls key) ≤ number_count_on c.number m = in_total m.keys (λ k. control_numbered c.number (m.controls k)) key known in
    let own : owner_numbered c.number (m.controls key).owner ≡ 1 = ap (owner_numbered c.number) owner ∙ ap (λ (b : Bool). cond b 1 0) (eq-eqb c.number c.number refl) in
    let sum : control_numbered c.number (m.controls key) ≡ owner_numbered c.number (m.controls key).owner + rows_numbered c.number (m.controls key).waiting = refl in
    omega arith

module _ (p : Program) (ms ns : List Mail) (s t : Slots Record) (id : Id) (key : Key) (c : Context) (own : ContextStands p ms key id (at s id) c)
    (others : OthersStay s t id) (answers : (i : Id) → i ≢ id → (slot : ℕ) → answer_in ns i slot ≡ answer_in ms i slot) where
  apart : (j : Id) (n e : ℕ) (f : Facts) → ContextStands p ms key j (at s j) (row_context n e f) → one_at c.number n ≡ 0 → j ≢ id
  apart j n e f x none same =
      let there : ContextStands p ms key id (at s id) (row_context n e f) = subst (λ (i : Id). ContextStands p ms key i (at s i) (row_context n e f)) same x in
      let number : c.number ≡ n = number_is p ms key key id (at s id) c (row_context n e f) own there in
      let one : one_at c.number n ≡ 1 = ap (λ (b : Bool). cond b 1 0) (eq-eqb n c.number (sym number)) in
      absurd (omega (arith, none, one))

  rows_keep : (is : List Item) (ws : List Waiting) → rows_numbered c.number ws ≡ 0 → ItemsStand p ms s key is ws → KeepAll p ms ns s t is
  rows_keep [] ws none h = tt
  rows_keep (i ∷ is) [] none h = absurd h
  rows_keep (item.Row j ∷ is) (Row n e f ∷ ws) none h =
      let sum : one_at c.number n + rows_numbered c.number ws ≡ 0 = none in
      let first : one_at c.number n ≡ 0 = omega (arith, sum) in
      let rest : rows_numbered c.number ws ≡ 0 = omega (arith, sum) in
      (record { context = others j (apart j n e f h.0 first); answers = answers j (apart j n e f h.0 first) }, rows_keep is ws rest h.1)
  rows_keep (item.Row j ∷ is) (Mark e w more ∷ ws) none h = absurd h.0
  rows_keep (item.Mark e w fired ∷ is) (Row n d f ∷ ws) none h = absurd h.0
  rows_keep (item.Mark e w fired ∷ is) (Mark d v more ∷ ws) none h = rows_keep is ws none h.1

  -- the rows that wait behind the owner stay
  pub own_items : (is : List Item) (ws : List Waiting) → rows_numbered c.number ws ≡ 0 → ItemsStand p ms s key is ws → ItemsStand p ns t key is ws
  own_items is ws none h = items_stay p ms ns s t key is ws (rows_keep is ws none h) h

  other_keeps : (q : Key) → bytes_eq key q ≡ false → (i : Id) → KeyIn q (at s i) → Keeps ms ns s t i
  other_keeps q differ = others_keep ms ns s t id q
      (λ h. true_false (sym (same_key key) ∙ ap (bytes_eq key) (one_key key q (at s id) (key_in p ms key id (at s id) c own) h) ∙ differ)) others answers

  -- the owner's key goes on, and each other key stays
  pub keys_called : (a b : Accounts) (ts us : List Timer) (times : List ℤ) (part : Part) (r : KeyControl) (controls : Key → KeyControl)
      → Changes a b key part → PutsTimes ts us key times → PartStands p ns t key part times r → ((k : Key) → PartStands p ms s k (part_of a k) (times_of ts k) (controls k))
      → (q : Key) → PartStands p ns t q (part_of b q) (times_of us q) (control_at controls key r q)
  keys_called a b ts us times part r controls ch puts there stand q = by_cases (bytes_eq key q)
      (λ x. subst (λ (k : Key). PartStands p ns t k (part_of b k) (times_of us k) (control_at controls key r k)) (key_is key q x)
      (subst (λ (y : KeyControl). PartStands p ns t key (part_of b key) (times_of us key) y) (sym (own_control controls key r))
      (subst (λ (l : List ℤ). PartStands p ns t key (part_of b key) l r) (sym (puts_at ts us key times puts))
      (subst (λ (y : Part). PartStands p ns t key y times r) (sym ch.own) there))))
      (λ x. subst (λ (y : KeyControl). PartStands p ns t q (part_of b q) (times_of us q) y) (sym (other_control controls key r q x))
      (subst (λ (l : List ℤ). PartStands p ns t q (part_of b q) l (controls q)) (sym (puts_elsewhere ts us key q times puts x))
      (subst (λ (y : Part). PartStands p ns t q y (times_of ts q) (controls q)) (sym (ch.others q (λ same. true_false (sym (same_key key) ∙ ap (bytes_eq key) (sym same) ∙ x))))
      (part_stays p ms ns s t q (other_keeps q x) (part_of a q) (times_of ts q) (controls q) (stand q)))))

-- nothing that stands for a key changes where the start of a context is posted
pub posted : (p : Program) (ms : List Mail) (s : Slots Record) (one : Id) (key : Key) (part : Part) (times : List ℤ) (c : KeyControl) → PartStands p ms s key part times c
    → PartStands p (ms ++ mail.Start one ∷ []) s key part times c
posted p ms s one key part times c h = part_stays p ms (ms ++ mail.Start one ∷ []) s s key (λ id named. record { context = refl; answers = started_answers ms one id }) part times c h
