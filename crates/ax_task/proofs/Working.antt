-- The work left, as the controller has it, is that of the machine for which it stands.
use Rattle.std.proofs.Common.{◌≡◌, ℕ, ◌+◌, ◌-◌, ℤ, List, [], ◌∷◌, length, Bool, true, false, cond, Option, Some, None, refl, sym, ap, ap₂, ◌∙◌, inl, inr, arith}
use Rattle.std.proofs.lemmas.Bool.{both_ways}
use Rattle.std.proofs.lemmas.Cmp.{nat_list_cmp_total}
use Rattle.std.specs.BTreeMap.{is_at}
use Rattle.std.specs.List.{list_any}
use Rattle.std.specs.List.Sorted.{IsStrictlySortedBy}
use Rattle.std.specs.Map.{lookup, keys_of}
use Rattle.std.specs.Str.{bytes_eq}
use Rattle.std.specs.Prelude.{unwrap_or}
use Rattle.ax_keys.specs.Keys.{key_cmp}
use Rattle.ax_text.specs.Cells.{Cells}
use Rattle.ax_text.specs.Exprs.{Facts}
use Rattle.ax_text.specs.Programs.{Program as AnyProgram}
use Rattle.ax_machine.specs.Entries.{Key}
use Rattle.ax_machine.specs.Firings.{most_firings}
use Rattle.ax_machine.specs.KeySync.{Said}
use Rattle.ax_machine.proofs.FiringLemmas.{key_is, has_inserted}
use Rattle.ax_machine.proofs.RisingLemmas.{rising_put}
use Rattle.ax_lang.specs.declared.program.Program.{Program}
use Rattle.ax_lang.specs.Shown.{shown_program}
use Rattle.ax_future.specs.declared.machine.Machine.{Machine as CodeMachine}
use Rattle.ax_context.specs.declared.id.Id.{Id}
use Rattle.ax_context.specs.declared.contexts.Context.{Context as Held}
use Rattle.ax_context.specs.Slots.{Slots, at}
use Rattle.ax_account.specs.declared.part.Waiting.{Waiting as Item}
use Rattle.ax_account.specs.declared.part.Waiting.TheVariants as item
use Rattle.ax_account.specs.Parts.{Part, free}
use Rattle.ax_account.specs.Accounts.{part_of, busy_keys}
use Rattle.ax_mailbox.specs.declared.mail.Mail.{Mail}
use Rattle.ax_time.specs.Timers.{times_of}
use Rattle.ax_time.proofs.KeptLemmas as kept
use Rattle.ax_execution.specs.Contexts.{Stage, Unbegun, Begun, Context, row_context, Waiting, Row, Mark, part_groups, rows_in}
use Rattle.ax_execution.specs.Groups.{weight}
use Rattle.ax_execution.specs.Rest.{silent, silent_stage, rest_owner, rest_items, owner_work, part_work}
use Rattle.ax_execution.specs.KeyControls.{KeyControl, control_of}
use Rattle.ax_execution.specs.Machine.{Machine, work}
use Rattle.ax_execution.specs.MachineControls.{MachineControl, control_of_machine, control_work, work_on}
use Rattle.ax_execution.specs.ControlsAllowed.{HoldBusy}
use Rattle.ax_execution.specs.ControlOrder.{IsInOrder}
use Rattle.ax_execution.proofs.Handlers.{Good, handles}
use Rattle.ax_execution.proofs.KeySums.{total_same}
use Rattle.ax_execution.proofs.Measure.{silent_work}
use Rattle.ax_execution.proofs.ControlSums.{busy_work}
use Rattle.ax_execution.proofs.ReachedOrderly.{reached_in_order}
use Rattle.ax_execution.proofs.Upto.{by_cases}
use Rattle.ax_core.specs.declared.record.Record.{Record}
use Rattle.ax_core.specs.declared.controller.Controller.{Controller}
use Rattle.ax_core.specs.Contexts.{StageStands, ContextStands}
use Rattle.ax_core.specs.Keys.{OwnerStands, ItemsStand, PartStands}
use Rattle.ax_core.specs.Sound.{rules_of, StandsFor}
use Rattle.ax_core.proofs.Sends.{accepted, markers_length}
use Rattle.ax_task.specs.Serving.{Content}
use Rattle.ax_task.specs.Work.{stage_in, context_in, owner_in, row_before, items_in, control_in, rising, work_in}

-- the same where each epoch counts as 0, and the owner has said nothing

abbrev owner_alike : Option Context → Option Context
owner_alike None = None
owner_alike (Some c) = Some (record { number = c.number; epoch = 0; job = c.job; stage = silent_stage c.stage })

abbrev items_alike : List Waiting → List Waiting
items_alike [] = []
items_alike (Row n e f ∷ is) = Row n 0 f ∷ items_alike is
items_alike (Mark e w more ∷ is) = Mark 0 w more ∷ items_alike is

abbrev alike : KeyControl → KeyControl
alike c = record { owner = owner_alike c.owner; waiting = items_alike c.waiting; times = c.times }

rest_alike : (p : AnyProgram) (is : List Waiting) (s : Said) → rest_items p (items_alike is) s ≡ rest_items p is s
rest_alike p [] s = refl
rest_alike p (Row n e f ∷ is) s = rest_alike p is _
rest_alike p (Mark e w more ∷ is) s = rest_alike p is _

rows_alike : (is : List Waiting) → rows_in (items_alike is) ≡ rows_in is
rows_alike [] = refl
rows_alike (Row n e f ∷ is) = ap (λ (n : ℕ). 1 + n) (rows_alike is)
rows_alike (Mark e w more ∷ is) = rows_alike is

abbrev said_by : Cells → List ℤ → Said
said_by cells times = record { state = record { cells = cells; times = times }; groups = [] }

abbrev with_parts : Option Context → List Waiting → List ℤ → KeyControl
with_parts o is times = record { owner = o; waiting = is; times = times }

work_alike : (p : AnyProgram) (o : Option Context) (is : List Waiting) (times : List ℤ) (cells : Cells) → control_work p (alike (with_parts o is times)) cells ≡ control_work p (with_parts (silent o) is times) cells
work_alike p None is times cells = ap₂ (λ (t : Said) (n : ℕ). (weight t.groups - weight (part_groups (record { owner = None; waiting = is; said = said_by cells times }))) + (owner_work None + n))
    (rest_alike p is (rest_owner p None (said_by cells times))) (rows_alike is)
work_alike p (Some c) is times cells = ap₂ (λ (t : Said) (n : ℕ). (weight t.groups - weight (part_groups (record { owner = silent (Some c); waiting = is; said = said_by cells times }))) + (owner_work (silent (Some c)) + n))
    (rest_alike p is (rest_owner p (silent (Some c)) (said_by cells times))) (rows_alike is)

-- what the controller holds of a key is what its control has

stage_is : (p : Program) (mails : List Mail) (id : Id) (m : Option CodeMachine) (st : Stage) → StageStands p mails id m st → stage_in p mails id m ≡ silent_stage st
stage_is p mails id None Unbegun x = refl
stage_is p mails id None (Begun r) x = absurd x
stage_is p mails id (Some m) Unbegun x = absurd x
stage_is p mails id (Some m) (Begun r) x = λ i. Begun (record { control = x.control i; names = x.names i; answers = λ slot. x.answers slot i; lines = []; served = 0 })

context_is : (p : Program) (mails : List Mail) (key : Key) (id : Id) (o : Option (Held Record)) (c : Context) → ContextStands p mails key id o c → context_in p mails id o ≡ owner_alike (Some c)
context_is p mails key id None c x = absurd x
context_is p mails key id (Some h) c x =
    λ i. Some (record { number = x.number i; epoch = 0; job = record { handler = x.job.handler i; facts = x.job.facts i }; stage = stage_is p mails id h.payload.machine c.stage x.stage i })

owner_is : (p : Program) (mails : List Mail) (s : Slots Record) (key : Key) (o : Option Id) (c : Option Context) → OwnerStands p mails s key o c → owner_in p mails s o ≡ owner_alike c
owner_is p mails s key None None x = refl
owner_is p mails s key None (Some c) x = absurd x
owner_is p mails s key (Some id) None x = absurd x
owner_is p mails s key (Some id) (Some c) x = context_is p mails key id (at s id) c x

row_is : (p : Program) (mails : List Mail) (key : Key) (id : Id) (o : Option (Held Record)) (n e : ℕ) (f : Facts) (is js : List Waiting) → ContextStands p mails key id o (row_context n e f) → is ≡ js → row_before o is ≡ Row n 0 f ∷ js
row_is p mails key id None n e f is js x rest = absurd x
row_is p mails key id (Some h) n e f is js x rest = λ i. Row (x.number i) 0 (x.job.facts i) ∷ rest i

items_are : (p : Program) (mails : List Mail) (s : Slots Record) (key : Key) (is : List Item) (ws : List Waiting) → ItemsStand p mails s key is ws → items_in s is ≡ items_alike ws
items_are p mails s key [] [] x = refl
items_are p mails s key [] (w ∷ ws) x = absurd x
items_are p mails s key (i ∷ is) [] x = absurd x
items_are p mails s key (item.Row id ∷ is) (Row n e f ∷ ws) x = row_is p mails key id (at s id) n e f (items_in s is) (items_alike ws) x.0 (items_are p mails s key is ws x.1)
items_are p mails s key (item.Row id ∷ is) (Mark e w more ∷ ws) x = absurd x.0
items_are p mails s key (item.Mark e w fired ∷ is) (Row n f facts ∷ ws) x = absurd x.0
items_are p mails s key (item.Mark u v fired ∷ is) (Mark e w more ∷ ws) x =
    let left : most_firings - fired ≡ more = omega (arith, x.0.firings) in
    let rest : items_in s is ≡ items_alike ws = items_are p mails s key is ws x.1 in
    λ i. Mark 0 (x.0.time i) (left i) ∷ rest i

control_is : (a : Controller) (k : Key) (c : KeyControl) → PartStands a.program a.mails.mails a.contexts k (part_of a.accounts k) (times_of a.timers k) c → control_in a k ≡ alike c
control_is a k c x =
    let o : owner_in a.program a.mails.mails a.contexts (part_of a.accounts k).owner ≡ owner_alike c.owner = owner_is a.program a.mails.mails a.contexts k (part_of a.accounts k).owner c.owner x.owner in
    let w : items_in a.contexts (part_of a.accounts k).waiting ≡ items_alike c.waiting = items_are a.program a.mails.mails a.contexts k (part_of a.accounts k).waiting c.waiting x.items in
    λ i. record { owner = o i; waiting = w i; times = x.times i }

-- the keys that aren't free

rising_rise : (ks : List Key) → IsStrictlySortedBy key_cmp (rising ks)
unfolding IsStrictlySortedBy
rising_rise [] = tt
rising_rise (k ∷ ks) = rising_put nat_list_cmp_total k (rising ks) (rising_rise ks)

absent_parts : (k : Key) (es : List (Key × Part)) → list_any (bytes_eq k) (rising (keys_of es)) ≡ false → unwrap_or (lookup (is_at (key_cmp k)) es) free ≡ free
absent_parts k [] h = refl
absent_parts k (e ∷ es) h = of (is_at (key_cmp k) e.0) refl (absent_parts k es (by_cases (list_any (bytes_eq k) (rising (keys_of es))) (λ x. absurd (both_ways _ h (has_inserted k e.0 (rising (keys_of es)) (inr x)))) (λ x. x)))
  where
    of : (b : Bool) → is_at (key_cmp k) e.0 ≡ b → unwrap_or (lookup (is_at (key_cmp k)) es) free ≡ free → unwrap_or (cond b (Some e.1) (lookup (is_at (key_cmp k)) es)) free ≡ free
    of true x rest = absurd (both_ways _ h (has_inserted k e.0 (rising (keys_of es)) (inl (key_is k e.0 (sym (kept.same_key k e.0) ∙ x)))))
    of false x rest = rest

owner_free : (p : Program) (mails : List Mail) (s : Slots Record) (key : Key) (o : Option Id) (c : Option Context) → o ≡ None → OwnerStands p mails s key o c → c ≡ None
owner_free p mails s key None None e x = refl
owner_free p mails s key None (Some c) e x = absurd x
owner_free p mails s key (Some id) c e x = absurd (cc e)

items_free : (p : Program) (mails : List Mail) (s : Slots Record) (key : Key) (is : List Item) (ws : List Waiting) → is ≡ [] → ItemsStand p mails s key is ws → ws ≡ []
items_free p mails s key [] [] e x = refl
items_free p mails s key [] (w ∷ ws) e x = absurd x
items_free p mails s key (i ∷ is) ws e x = absurd (cc e)

module _ (a : Controller) (content : Content) (c : MachineControl) (x : StandsFor a c) where
  order : IsInOrder (rules_of a.settings) c
  order = reached_in_order (rules_of a.settings) (shown_program a.program) c (accepted a.program) x.reached

  holds_busy : HoldBusy (rising (busy_keys a.accounts)) c
  holds_busy = record {
    rise = rising_rise (busy_keys a.accounts);
    others = λ k h.
        let none : part_of a.accounts k ≡ free = absent_parts k a.accounts.parts h in
        record {
          owner = owner_free a.program a.mails.mails a.contexts k (part_of a.accounts k).owner (c.controls k).owner (ap (λ (t : Part). t.owner) none) (x.stands.keys k).owner;
          waiting = items_free a.program a.mails.mails a.contexts k (part_of a.accounts k).waiting (c.controls k).waiting (ap (λ (t : Part). t.waiting) none) (x.stands.keys k).items;
        };
  }

  key_work : (k : Key) → control_work (shown_program a.program) (control_in a k) (content k) ≡ control_work (shown_program a.program) (c.controls k) (content k)
  key_work k =
      ap (λ (d : KeyControl). control_work (shown_program a.program) d (content k)) (control_is a k (c.controls k) (x.stands.keys k))
      ∙ (work_alike (shown_program a.program) (c.controls k).owner (c.controls k).waiting (c.controls k).times (content k)
      ∙ ap (λ (o : Option Context). control_work (shown_program a.program) (with_parts o (c.controls k).waiting (c.controls k).times) (content k)) (order.silent k))

  pub work_stands : work_in a content ≡ work_on (shown_program a.program) content c
  work_stands =
      ap₂ (λ (m n : ℕ). m + n)
      (total_same (λ k. control_work (shown_program a.program) (c.controls k) (content k)) (λ k. control_work (shown_program a.program) (control_in a k) (content k)) (rising (busy_keys a.accounts)) key_work)
      (markers_length a.epochs.closed c.unsent x.stands.epochs.markers)
      ∙ busy_work (shown_program a.program) content c (rising (busy_keys a.accounts)) holds_busy (record { rise = order.keys.rise; others = order.keys.others })

-- and that of the machine
pub work_machine : (a : Controller) (content : Content) (m : Machine) → StandsFor a (control_of_machine m) → ((k : Key) → (m.parts k).said.state.cells ≡ content k) → work_in a content ≡ work (shown_program a.program) m
work_machine a content m x holds =
    work_stands a content (control_of_machine m) x
    ∙ ((λ i. work_on (shown_program a.program) (λ k. sym (holds k) i) (control_of_machine m))
    ∙ ap (λ (n : ℕ). n + length m.unsent)
    (total_same (λ k. part_work (shown_program a.program) (m.parts k)) (λ k. control_work (shown_program a.program) (control_of (m.parts k)) (m.parts k).said.state.cells) m.keys
    (λ k. sym (silent_work (shown_program a.program) Good (handles (shown_program a.program) (accepted a.program)) (m.parts k)))))
