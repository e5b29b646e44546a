-- Replies that become mails: each serves what it names.
use Rattle.std.proofs.Common.{◌≡◌, ◌⊎◌, ℕ, ◌+◌, ◌≤◌, Bool, true, false, nat_eq, ◌&&◌, List, [], ◌∷◌, ◌++◌, append_assoc, append-nil, refl, sym, ap, ◌∙◌, subst, inl, inr, Option, Some, None, eqb-true, arith}
use Rattle.std.specs.Str.{bytes_eq}
use Rattle.std.proofs.lemmas.Bool.{cond-true, cond-false}
use Rattle.ax_text.specs.declared.vocabulary.Request.{Request}
use Rattle.ax_text.specs.declared.vocabulary.Answer.{Answer}
use Rattle.ax_text.specs.Prints.{has}
use Rattle.ax_text.specs.Exprs.{Facts}
use Rattle.ax_text.specs.Programs.{Program as AnyProgram}
use Rattle.ax_text.specs.Functions.{upd}
use Rattle.ax_text.specs.Controls.{Control, Done, Wait, Arms, slots, request_at}
use Rattle.ax_text.proofs.Asked.{slots_waiting}
use Rattle.ax_text.proofs.Steps.{mem_either}
use Rattle.ax_lang.specs.declared.program.Program.{Program}
use Rattle.ax_lang.specs.Shown.{shown_program}
use Rattle.ax_future.specs.declared.machine.Machine.{Machine as CodeMachine}
use Rattle.ax_future.specs.Machines as machine
use Rattle.ax_machine.specs.Entries.{Key}
use Rattle.ax_machine.proofs.FiringLemmas.{key_is, same_key}
use Rattle.ax_buffer.specs.declared.items.Reply.{Reply}
use Rattle.ax_context.specs.declared.id.Id.{Id}
use Rattle.ax_context.specs.declared.contexts.Context.{Context as Held}
use Rattle.ax_context.specs.Slots.{Slots, at}
use Rattle.ax_account.specs.declared.part.Waiting.{Waiting as Item}
use Rattle.ax_account.specs.declared.part.Waiting.TheVariants as item
use Rattle.ax_account.specs.Accounts.{owner_of, part_of}
use Rattle.ax_mailbox.specs.declared.mail.Mail.{Mail}
use Rattle.ax_mailbox.specs.declared.mail.Mail.TheVariants as mail
use Rattle.ax_time.specs.Timers.{times_of}
use Rattle.ax_execution.specs.Sums.{total}
use Rattle.ax_execution.specs.Contexts.{Running, Stage, Unbegun, Begun, Context, row_context, Waiting, Row, Mark, owners, rows_in, is_idle_with}
use Rattle.ax_execution.specs.Counts.{references, owner_of_epoch, waiting_of_epoch}
use Rattle.ax_execution.specs.Rest.{silent, silent_stage}
use Rattle.ax_execution.specs.KeyControls.{KeyControl, owner_keeps, stage_keeps, keeps_answer}
use Rattle.ax_execution.specs.ControlTurns.{is_idle_on, contexts_on}
use Rattle.ax_execution.specs.Allowed.{StageAsks, OfOwner}
use Rattle.ax_execution.specs.Machine.{Rules, Serve}
use Rattle.ax_execution.specs.MachineControls.{MachineControl, control_at, happens_on, in_flight_on, control_of_epoch, epoch_count_on}
use Rattle.ax_execution.specs.ControlsAllowed.{AllowedOn, IsRunOn, after_all_on}
use Rattle.ax_execution.specs.Reached.{owed_to, owed_in}
use Rattle.ax_core.specs.declared.record.Record.{Record}
use Rattle.ax_core.specs.declared.controller.Controller.{Controller}
use Rattle.ax_core.specs.Contexts.{same_id, answer_if, answer_in, IsRunning, StageStands, IsContext, ContextStands, waits_in, waits_at}
use Rattle.ax_core.specs.Keys.{OwnerStands, ItemsStand, PartStands}
use Rattle.ax_core.specs.Flow.{one_if, names_request, named_as, answered_as, waits_for, OwnsBegun, OwnsOnceBegun, IsFlow}
use Rattle.ax_core.specs.Batches.{mails_in}
use Rattle.ax_core.specs.Events.{key_in, names_of, serves}
use Rattle.ax_core.proofs.Counting.{answered_append}
use Rattle.ax_core.proofs.Owners.{RunsAt, runs_at, unanswered, names_itself}

pub by_cases : {A : Type 0} (b : Bool) → (b ≡ true → A) → (b ≡ false → A) → A
by_cases true p q = p refl
by_cases false p q = q refl

true_false : true ≡ false → ⊥
true_false e = cc e

-- a slot that waits has a request
pub has_request : (c : Control) (s : ℕ) → has s (slots c) ≡ true → (q : Request) × (request_at c s ≡ Some q)
has_request Done s h = absurd (true_false (sym h))
has_request (Wait t r n k) s h = by_cases (nat_eq s t) (λ x. (r, cond-true (nat_eq s t) (Some r) None x)) (λ x. absurd (true_false (sym h ∙ rw x refl)))
has_request (Arms one two k) s h = by_cases (has s (slots one))
    (λ x. let it : (q : Request) × (request_at one s ≡ Some q) = has_request one s x in (it.0, cond-true (has s (slots one)) (request_at one s) (request_at two s) x ∙ it.1))
    (λ x. let it : (q : Request) × (request_at two s ≡ Some q) = has_request two s (in_two x (mem_either s (slots one) (slots two) h)) in (it.0, cond-false (has s (slots one)) (request_at one s) (request_at two s) x ∙ it.1))
  where
    in_two : has s (slots one) ≡ false → (has s (slots one) ≡ true) ⊎ (has s (slots two) ≡ true) → has s (slots two) ≡ true
    in_two x (inl y) = absurd (true_false (sym y ∙ x))
    in_two x (inr y) = y

-- an answer that comes last
module _ (i : Id) (s : ℕ) (a : Answer) where
  pub answer_other : (ms : List Mail) (id : Id) (slot : ℕ) → names_request id slot i s ≡ false → answer_in (ms ++ mail.Reply i s a ∷ []) id slot ≡ answer_in ms id slot
  answer_other [] id slot e = ap (λ (b : Bool). answer_if b a None) e
  answer_other (mail.Start j ∷ ms) id slot e = answer_other ms id slot e
  answer_other (mail.Fire j ∷ ms) id slot e = answer_other ms id slot e
  answer_other (mail.Reply j t b ∷ ms) id slot e = ap (answer_if (names_request id slot j t) b) (answer_other ms id slot e)

  pub answer_last : (ms : List Mail) (id : Id) (slot : ℕ) → names_request id slot i s ≡ true → answered_as id slot ms ≡ 0 → answer_in (ms ++ mail.Reply i s a ∷ []) id slot ≡ Some a
  answer_last [] id slot e z = ap (λ (b : Bool). answer_if b a None) e
  answer_last (mail.Start j ∷ ms) id slot e z = answer_last ms id slot e (omega arith)
  answer_last (mail.Fire j ∷ ms) id slot e z = answer_last ms id slot e (omega arith)
  answer_last (mail.Reply j t b ∷ ms) id slot e z = of (names_request id slot j t) (answer_last ms id slot e (omega arith)) (omega arith)
    where
      of : (c : Bool) → answer_in (ms ++ mail.Reply i s a ∷ []) id slot ≡ Some a → one_if c ≡ 0 → answer_if c b (answer_in (ms ++ mail.Reply i s a ∷ []) id slot) ≡ Some a
      of true h z = absurd (omega arith)
      of false h z = h

-- what of a key looks at no mail
module _ (p : Program) (old new : List Mail) (s : Slots Record) (k : Key) where
  unbegun_stays : (id : Id) (o : Option CodeMachine) → StageStands p old id o Unbegun → StageStands p new id o Unbegun
  unbegun_stays id None x = tt
  unbegun_stays id (Some m) x = absurd x

  row_stays : (id : Id) (o : Option (Held Record)) (n e : ℕ) (f : Facts) → ContextStands p old k id o (row_context n e f) → ContextStands p new k id o (row_context n e f)
  row_stays id None n e f x = absurd x
  row_stays id (Some h) n e f x = record { number = x.number; epoch = x.epoch; count = x.count; job = x.job; stage = unbegun_stays id h.payload.machine x.stage }

  pub items_stay : (is : List Item) (ws : List Waiting) → ItemsStand p old s k is ws → ItemsStand p new s k is ws
  items_stay [] [] x = tt
  items_stay [] (w ∷ ws) x = absurd x
  items_stay (i ∷ is) [] x = absurd x
  items_stay (item.Row id ∷ is) (Row n e f ∷ ws) x = (row_stays id (at s id) n e f x.0, items_stay is ws x.1)
  items_stay (item.Row id ∷ is) (Mark e w more ∷ ws) x = absurd x.0
  items_stay (item.Mark e w fired ∷ is) (Row n f facts ∷ ws) x = absurd x.0
  items_stay (item.Mark e w fired ∷ is) (Mark f v more ∷ ws) x = (x.0, items_stay is ws x.1)

  -- the owner too, where no slot of it is answered anew
  module _ (id : Id) (same : (slot : ℕ) → answer_in new id slot ≡ answer_in old id slot) where
    running_stays : (m : CodeMachine) (r : Running) → IsRunning p old id m r → IsRunning p new id m r
    running_stays m r x = record { control = x.control; names = x.names; answers = λ slot. same slot ∙ x.answers slot; sound = x.sound }

    stage_stays : (o : Option CodeMachine) (stage : Stage) → StageStands p old id o stage → StageStands p new id o stage
    stage_stays None Unbegun x = tt
    stage_stays None (Begun r) x = absurd x
    stage_stays (Some m) Unbegun x = absurd x
    stage_stays (Some m) (Begun r) x = running_stays m r x

    pub held_stays : (h : Held Record) (c : Context) → IsContext p old k id h c → IsContext p new k id h c
    held_stays h c x = record { number = x.number; epoch = x.epoch; count = x.count; job = x.job; stage = stage_stays h.payload.machine c.stage x.stage }

    pub context_stays : (o : Option (Held Record)) (c : Context) → ContextStands p old k id o c → ContextStands p new k id o c
    context_stays None c x = absurd x
    context_stays (Some h) c x = held_stays h c x

-- a sum over the keys, of what an answer leaves alone
sum_kept : (f : KeyControl → ℕ) (controls : Key → KeyControl) (key : Key) (c : KeyControl) → f c ≡ f (controls key) → (ks : List Key) → total ks (λ k. f (control_at controls key c k)) ≡ total ks (λ k. f (controls k))
sum_kept f controls key c e [] = refl
sum_kept f controls key c e (k ∷ ks) =
    let here : f (control_at controls key c k) ≡ f (controls k) = by_cases (bytes_eq key k)
    (λ x. ap f (cond-true (bytes_eq key k) c (controls k) x) ∙ (e ∙ ap (λ (j : Key). f (controls j)) (key_is key k x)))
    (λ x. ap f (cond-false (bytes_eq key k) c (controls k) x)) in
    omega (arith, sum_kept f controls key c e ks)

module _ (slot : ℕ) (a : Answer) where
  references_kept : (stage : Stage) → references (silent_stage (stage_keeps slot (Some a) stage)) ≡ references stage
  references_kept Unbegun = refl
  references_kept (Begun r) = refl

  contexts_kept : (o : Option Context) → owners (silent (owner_keeps slot (Some a) o)) ≡ owners o
  contexts_kept None = refl
  contexts_kept (Some c) = refl

  owed_kept : (o : Option Context) → owed_to (silent (owner_keeps slot (Some a) o)) ≡ owed_to o
  owed_kept None = refl
  owed_kept (Some c) = references_kept c.stage

  epoch_kept : (e : ℕ) (o : Option Context) → owner_of_epoch e (silent (owner_keeps slot (Some a) o)) ≡ owner_of_epoch e o
  epoch_kept e None = refl
  epoch_kept e (Some c) = refl

  idle_kept : (o : Option Context) (ws : List Waiting) → is_idle_with (silent (owner_keeps slot (Some a) o)) ws ≡ is_idle_with o ws
  idle_kept None ws = refl
  idle_kept (Some c) ws = refl

id_is : (i j : Id) → same_id i j ≡ true → i ≡ j
id_is i j e = ap (λ (n : ℕ). record { slot = n }) (eqb-true i.slot j.slot e)

-- the context that waits at a slot
pub record WaitsAt (a : Controller) (id : Id) (slot : ℕ) : Type 0 where
  pub held : Held Record
  pub code : CodeMachine
  pub there : at a.contexts id ≡ Some held
  pub begun : held.payload.machine ≡ Some code
  pub owns : owner_of a.accounts held.payload.facts.key ≡ Some id
  pub waits : has slot (slots (machine.control_of a.program code)) ≡ true

module _ (a : Controller) (id : Id) (slot : ℕ) where
  with_code : (h : Held Record) (o : Option CodeMachine) → at a.contexts id ≡ Some h → h.payload.machine ≡ o → waits_for (waits_in a.program o) slot ≡ true → OwnsBegun a id o h.payload.facts.key → WaitsAt a id slot
  with_code h None e f x own = absurd (true_false (sym x))
  with_code h (Some code) e f x own = record { held = h; code = code; there = e; begun = f; owns = own; waits = ap (has slot) (slots_waiting (machine.control_of a.program code)) ∙ x }

  with_held : (o : Option (Held Record)) → at a.contexts id ≡ o → waits_for (waits_at a.program o) slot ≡ true → OwnsOnceBegun a id o → WaitsAt a id slot
  with_held None e x own = absurd (true_false (sym x))
  with_held (Some h) e x own = with_code h h.payload.machine e refl x own

  pub waits_there : IsFlow a → waits_for (waits_at a.program (at a.contexts id)) slot ≡ true → WaitsAt a id slot
  waits_there flow x = with_held (at a.contexts id) refl x (flow.begun id)

abbrev pub Keys : Controller → List Mail → MachineControl → Type 0
Keys a mails m = (k : Key) → PartStands a.program mails a.contexts k (part_of a.accounts k) (times_of a.timers k) (m.controls k)

-- one reply
module _ (a : Controller) (mails : List Mail) (m : MachineControl) (id : Id) (slot : ℕ) (answer : Answer) (w : WaitsAt a id slot) (key : Key) (is_key : w.held.payload.facts.key ≡ key)
    (keys : Keys a mails m) (fresh : answered_as id slot mails ≡ 0) (settled : m.must ≡ None) where
  more : List Mail
  more = mails ++ mail.Reply id slot answer ∷ []

  owns : (part_of a.accounts key).owner ≡ Some id
  owns = ap (owner_of a.accounts) (sym is_key) ∙ w.owns

  runs : RunsAt a.program mails key id w.held w.code (m.controls key).owner
  runs = runs_at a.program mails a.contexts key id w.held w.code w.begun (part_of a.accounts key).owner (m.controls key).owner owns w.there (keys key).owner

  pub serve_allowed : (rules : Rules) → AllowedOn rules (Serve key slot) m
  serve_allowed rules =
      let it : (q : Request) × (request_at (machine.control_of a.program w.code) slot ≡ Some q) = has_request (machine.control_of a.program w.code) slot w.waits in
      let asked : (q : Request) × (request_at runs.running.control slot ≡ Some q) = (it.0, ap (λ (k : Control). request_at k slot) (sym runs.runs.control) ∙ it.1) in
      let none : runs.running.answers slot ≡ None = sym (runs.runs.answers slot) ∙ unanswered mails id slot fresh in
      (settled, subst (OfOwner (StageAsks slot)) (sym runs.owner) (subst (StageAsks slot) (sym runs.stage) (asked, none)))

  answers_after : (t : ℕ) → answer_in (mails ++ mail.Reply id slot answer ∷ []) id t ≡ upd runs.running.answers slot (Some answer) t
  answers_after t = by_cases (nat_eq slot t)
      (λ x.
      let same : slot ≡ t = eqb-true slot t x in
      let named : names_request id t id slot ≡ true = subst (λ (u : ℕ). names_request id u id slot ≡ true) same (names_itself id slot) in
      answer_last id slot answer mails id t named (subst (λ (u : ℕ). answered_as id u mails ≡ 0) same fresh) ∙ sym (cond-true (nat_eq slot t) (Some answer) (runs.running.answers t) x))
      (λ x.
      answer_other id slot answer mails id t (of (same_id id id) x) ∙ (runs.runs.answers t ∙ sym (cond-false (nat_eq slot t) (Some answer) (runs.running.answers t) x)))
    where
      of : (b : Bool) → nat_eq slot t ≡ false → (b && nat_eq slot t) ≡ false
      of true x = x
      of false x = refl

  running_after : IsRunning a.program (mails ++ mail.Reply id slot answer ∷ []) id w.code (record { control = runs.running.control; names = runs.running.names; answers = upd runs.running.answers slot (Some answer); lines = []; served = 0 })
  running_after = record { control = runs.runs.control; names = runs.runs.names; answers = answers_after; sound = runs.runs.sound }

  context_after : Context
  context_after = record { number = runs.context.number; epoch = runs.context.epoch; job = runs.context.job; stage = silent_stage (stage_keeps slot (Some answer) runs.context.stage) }

  stands_after : IsContext a.program (mails ++ mail.Reply id slot answer ∷ []) key id w.held context_after
  unfolding context_after
  stands_after = record {
    number = runs.stands.number;
    epoch = runs.stands.epoch;
    count = runs.stands.count ∙ sym (references_kept slot answer runs.context.stage);
    job = runs.stands.job;
    stage = subst (λ (o : Option CodeMachine). StageStands a.program (mails ++ mail.Reply id slot answer ∷ []) id o (silent_stage (stage_keeps slot (Some answer) runs.context.stage))) (sym w.begun)
        (subst (λ (x : Stage). StageStands a.program (mails ++ mail.Reply id slot answer ∷ []) id (Some w.code) (silent_stage (stage_keeps slot (Some answer) x))) (sym runs.stage) running_after);
  }

  owner_after : OwnerStands a.program (mails ++ mail.Reply id slot answer ∷ []) a.contexts key (part_of a.accounts key).owner (keeps_answer slot (Some answer) (m.controls key)).owner
  unfolding context_after
  owner_after =
      subst (λ (o : Option Context). OwnerStands a.program (mails ++ mail.Reply id slot answer ∷ []) a.contexts key (part_of a.accounts key).owner (silent (owner_keeps slot (Some answer) o))) (sym runs.owner)
      (subst (λ (o : Option Id). OwnerStands a.program (mails ++ mail.Reply id slot answer ∷ []) a.contexts key o (Some context_after)) (sym owns)
      (subst (λ (o : Option (Held Record)). ContextStands a.program (mails ++ mail.Reply id slot answer ∷ []) key id o context_after) (sym w.there) stands_after))

  other_slot : (k : Key) → (key ≡ k → ⊥) → (j : Id) (h : Held Record) → at a.contexts j ≡ Some h → h.payload.facts.key ≡ k → (t : ℕ) → names_request j t id slot ≡ false
  other_slot k differs j h e f t = by_cases (same_id id j)
      (λ x.
      let same : at a.contexts id ≡ at a.contexts j = ap (at a.contexts) (id_is id j x) in
      let both : Some w.held ≡ Some h = sym w.there ∙ (same ∙ e) in
      let held : w.held ≡ h = cc in
      absurd (differs (sym is_key ∙ (ap (λ (h : Held Record). h.payload.facts.key) held ∙ f))))
      (λ x. ap (λ (b : Bool). b && nat_eq slot t) x)

  owner_beside : (k : Key) → (key ≡ k → ⊥) → (o : Option Id) (c : Option Context) → OwnerStands a.program mails a.contexts k o c → OwnerStands a.program (mails ++ mail.Reply id slot answer ∷ []) a.contexts k o c
  owner_beside k differs None None x = tt
  owner_beside k differs None (Some c) x = absurd x
  owner_beside k differs (Some j) None x = absurd x
  owner_beside k differs (Some j) (Some c) x = of (at a.contexts j) refl x
    where
      of : (o : Option (Held Record)) → at a.contexts j ≡ o → ContextStands a.program mails k j o c → ContextStands a.program (mails ++ mail.Reply id slot answer ∷ []) k j o c
      of None e x = absurd x
      of (Some h) e x = held_stays a.program mails (mails ++ mail.Reply id slot answer ∷ []) a.contexts k j (λ t. answer_other id slot answer mails j t (other_slot k differs j h e x.job.key t)) h c x

  pub keys_after : (p : AnyProgram) → Keys a (mails ++ mail.Reply id slot answer ∷ []) (happens_on p (Serve key slot) (Some answer) m)
  keys_after p k = by_cases (bytes_eq key k)
      (λ x. subst (λ (j : Key). PartStands a.program (mails ++ mail.Reply id slot answer ∷ []) a.contexts j (part_of a.accounts j) (times_of a.timers j) (control_at m.controls key (keeps_answer slot (Some answer) (m.controls key)) j)) (key_is key k x)
      (subst (λ (c : KeyControl). PartStands a.program (mails ++ mail.Reply id slot answer ∷ []) a.contexts key (part_of a.accounts key) (times_of a.timers key) c)
      (sym (cond-true (bytes_eq key key) (keeps_answer slot (Some answer) (m.controls key)) (m.controls key) (same_key key)))
      (record { owner = owner_after; items = items_stay a.program mails (mails ++ mail.Reply id slot answer ∷ []) a.contexts key (part_of a.accounts key).waiting (m.controls key).waiting (keys key).items; times = (keys key).times })))
      (λ x. subst (λ (c : KeyControl). PartStands a.program (mails ++ mail.Reply id slot answer ∷ []) a.contexts k (part_of a.accounts k) (times_of a.timers k) c)
      (sym (cond-false (bytes_eq key k) (keeps_answer slot (Some answer) (m.controls key)) (m.controls k) x))
      (record {
        owner = owner_beside k (λ e. true_false (sym (same_key key) ∙ (ap (bytes_eq key) e ∙ x))) (part_of a.accounts k).owner (m.controls k).owner (keys k).owner;
        items = items_stay a.program mails (mails ++ mail.Reply id slot answer ∷ []) a.contexts k (part_of a.accounts k).waiting (m.controls k).waiting (keys k).items;
        times = (keys k).times;
      }))

-- what a serve leaves of a control
module _ (p : AnyProgram) (m : MachineControl) (key : Key) (slot : ℕ) (answer : Answer) where
  after : MachineControl
  after = happens_on p (Serve key slot) (Some answer) m

  pub flight_served : in_flight_on (happens_on p (Serve key slot) (Some answer) m) ≡ in_flight_on m
  flight_served = sum_kept contexts_on m.controls key (keeps_answer slot (Some answer) (m.controls key)) (ap (λ n. n + rows_in (m.controls key).waiting) (contexts_kept slot answer (m.controls key).owner)) m.keys

  pub owed_served : owed_in (happens_on p (Serve key slot) (Some answer) m) ≡ owed_in m
  owed_served = sum_kept (λ (c : KeyControl). owed_to c.owner) m.controls key (keeps_answer slot (Some answer) (m.controls key)) (owed_kept slot answer (m.controls key).owner) m.keys

  pub count_served : (e : ℕ) → epoch_count_on e (happens_on p (Serve key slot) (Some answer) m) ≡ epoch_count_on e m
  count_served e = sum_kept (control_of_epoch e) m.controls key (keeps_answer slot (Some answer) (m.controls key)) (ap (λ n. n + waiting_of_epoch e (m.controls key).waiting) (epoch_kept slot answer e (m.controls key).owner)) m.keys

  pub idle_served : (k : Key) → is_idle_on (control_at m.controls key (keeps_answer slot (Some answer) (m.controls key)) k) ≡ is_idle_on (m.controls k)
  idle_served k = by_cases (bytes_eq key k)
      (λ x. ap is_idle_on (cond-true (bytes_eq key k) (keeps_answer slot (Some answer) (m.controls key)) (m.controls k) x) ∙ (idle_kept slot answer (m.controls key).owner (m.controls key).waiting ∙ ap (λ (j : Key). is_idle_on (m.controls j)) (key_is key k x)))
      (λ x. ap is_idle_on (cond-false (bytes_eq key k) (keeps_answer slot (Some answer) (m.controls key)) (m.controls k) x))

-- all replies
pub record Served (a : Controller) (rules : Rules) (mails : List Mail) (rs : List Reply) (m : MachineControl) : Type 0 where
  pub run : IsRunOn rules (shown_program a.program) (serves a rs) m
  pub keys : Keys a (mails ++ mails_in rs) (after_all_on (shown_program a.program) (serves a rs) m)
  pub must : (after_all_on (shown_program a.program) (serves a rs) m).must ≡ m.must
  pub wm : (after_all_on (shown_program a.program) (serves a rs) m).wm ≡ m.wm
  pub epoch : (after_all_on (shown_program a.program) (serves a rs) m).epoch ≡ m.epoch
  pub unsent : (after_all_on (shown_program a.program) (serves a rs) m).unsent ≡ m.unsent
  pub idle : (k : Key) → is_idle_on ((after_all_on (shown_program a.program) (serves a rs) m).controls k) ≡ is_idle_on (m.controls k)
  pub flight : in_flight_on (after_all_on (shown_program a.program) (serves a rs) m) ≡ in_flight_on m
  pub owed : owed_in (after_all_on (shown_program a.program) (serves a rs) m) ≡ owed_in m
  pub counts : (e : ℕ) → epoch_count_on e (after_all_on (shown_program a.program) (serves a rs) m) ≡ epoch_count_on e m

abbrev pub IsOpenFor : Controller → List Mail → List Reply → Type 0
IsOpenFor a mails rs = (id : Id) (slot : ℕ) → named_as id slot (names_of rs) + answered_as id slot mails ≤ one_if (waits_for (waits_at a.program (at a.contexts id)) slot)

at_least : (b : Bool) → 1 ≤ one_if b → b ≡ true
at_least true h = refl
at_least false h = absurd (omega arith)

at_most_one : (b : Bool) → one_if b ≤ 1
at_most_one true = omega arith
at_most_one false = omega arith

module _ (a : Controller) (flow : IsFlow a) (rules : Rules) where
  pub serve_all : (mails : List Mail) (rs : List Reply) (m : MachineControl) → Keys a mails m → IsOpenFor a mails rs → m.must ≡ None → Served a rules mails rs m
  serve_all mails [] m keys may settled = record {
    run = tt;
    keys = subst (λ (ms : List Mail). Keys a ms m) (sym (append-nil mails)) keys;
    must = refl;
    wm = refl;
    epoch = refl;
    unsent = refl;
    idle = λ k. refl;
    flight = refl;
    owed = refl;
    counts = λ e. refl;
  }
  serve_all mails (r ∷ rs) m keys may settled =
      let itself : one_if (names_request r.id r.slot r.id r.slot) ≡ 1 = ap one_if (names_itself r.id r.slot) in
      let here : one_if (names_request r.id r.slot r.id r.slot) + named_as r.id r.slot (names_of rs) + answered_as r.id r.slot mails ≤ one_if (waits_for (waits_at a.program (at a.contexts r.id)) r.slot) = may r.id r.slot in
      let w : WaitsAt a r.id r.slot = waits_there a r.id r.slot flow (at_least (waits_for (waits_at a.program (at a.contexts r.id)) r.slot) (omega arith)) in
      let fresh : answered_as r.id r.slot mails ≡ 0 = omega (arith, at_most_one (waits_for (waits_at a.program (at a.contexts r.id)) r.slot)) in
      let key : Key = key_in (at a.contexts r.id) in
      let is_key : w.held.payload.facts.key ≡ key = sym (ap key_in w.there) in
      let next : MachineControl = happens_on (shown_program a.program) (Serve key r.slot) (Some r.answer) m in
      let x : Mail = mail.Reply r.id r.slot r.answer in
      let rest : Served a rules (mails ++ x ∷ []) rs next = serve_all (mails ++ x ∷ []) rs next
      (keys_after a mails m r.id r.slot r.answer w key is_key keys fresh settled (shown_program a.program))
      (λ id slot. omega (arith, may id slot, answered_append id slot mails (x ∷ [])))
      settled in
      record {
        run = (serve_allowed a mails m r.id r.slot r.answer w key is_key keys fresh settled rules, (r.answer, refl), rest.run);
        keys = subst (λ (ms : List Mail). Keys a ms (after_all_on (shown_program a.program) (serves a rs) next)) (append_assoc mails (x ∷ []) (mails_in rs)) rest.keys;
        must = rest.must;
        wm = rest.wm;
        epoch = rest.epoch;
        unsent = rest.unsent;
        idle = λ k. rest.idle k ∙ idle_served (shown_program a.program) m key r.slot r.answer k;
        flight = rest.flight ∙ flight_served (shown_program a.program) m key r.slot r.answer;
        owed = rest.owed ∙ owed_served (shown_program a.program) m key r.slot r.answer;
        counts = λ e. rest.counts e ∙ count_served (shown_program a.program) m key r.slot r.answer e;
      }
