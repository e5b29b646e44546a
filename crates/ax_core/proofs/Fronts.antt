-- The mail in front, and the context that it is for.
use Rattle.std.proofs.Common.{◌≡◌, ℕ, ◌+◌, nat_eq, Bool, true, false, ◌&&◌, List, ◌∷◌, Option, Some, None, is_none, refl, sym, ap, ◌∙◌, subst, arith}
use Rattle.ax_text.specs.declared.vocabulary.Answer.{Answer}
use Rattle.ax_text.specs.Controls.{slots}
use Rattle.ax_text.specs.Prints.{has}
use Rattle.ax_lang.specs.declared.program.Program.{Program}
use Rattle.ax_future.specs.declared.machine.Machine.{Machine}
use Rattle.ax_future.specs.Machines as machine
use Rattle.ax_machine.specs.Entries.{Key}
use Rattle.ax_context.specs.declared.id.Id.{Id}
use Rattle.ax_context.specs.declared.contexts.Context.{Context as Held}
use Rattle.ax_context.specs.Slots.{Slots, at}
use Rattle.ax_account.specs.Accounts.{owner_of}
use Rattle.ax_mailbox.specs.declared.mail.Mail.{Mail}
use Rattle.ax_mailbox.specs.declared.mail.Mail.TheVariants as mail
use Rattle.ax_execution.specs.Contexts.{Context}
use Rattle.ax_core.specs.declared.record.Record.{Record}
use Rattle.ax_core.specs.declared.controller.Controller.{Controller}
use Rattle.ax_core.specs.Contexts.{same_id, answer_in, IsContext, ContextStands, waits_in, waits_at}
use Rattle.ax_core.specs.Keys.{OwnerStands}
use Rattle.ax_core.specs.Flow.{one_if, starts_as, started_as, answered_as, in_queues, in_outs, waits_for, is_owner, is_to_start, IsFlow}
use Rattle.ax_core.proofs.CalledLemmas.{AnswersNothing, none_taken}
use Rattle.ax_core.proofs.Flows.{same_self, same_is}
use Rattle.ax_core.proofs.Open.{and_parts}
use Rattle.ax_core.proofs.Owners.{names_itself}
use Rattle.ax_core.proofs.Serves.{WaitsAt, waits_there}

-- the controller behind the mail that was taken
abbrev pub behind_mail : Controller → List Mail → Controller
behind_mail a ns = record a { mails = record { mails = ns; room = a.mails.room } }

-- what is held of the owner of a key, as the control has it
pub record HeldAs (p : Program) (ms : List Mail) (key : Key) (id : Id) (h : Held Record) (o : Option Context) : Type 0 where
  pub context : Context
  pub owner : o ≡ Some context
  pub stands : IsContext p ms key id h context

pub held_as : (p : Program) (ms : List Mail) (s : Slots Record) (key : Key) (id : Id) (h : Held Record) → at s id ≡ Some h → (o : Option Id) (c : Option Context) → o ≡ Some id
    → OwnerStands p ms s key o c → HeldAs p ms key id h c
held_as p ms s key id h there None c e x = absurd (cc e)
held_as p ms s key id h there (Some j) None e x = absurd x
held_as p ms s key id h there (Some j) (Some c) e x =
    let same : j ≡ id = cc in
    record { context = c; owner = refl; stands = subst (λ (o : Option (Held Record)). ContextStands p ms key id o c) there (subst (λ (i : Id). ContextStands p ms key i (at s i) c) same x) }

true_false : true ≡ false → ⊥
true_false e = cc e

pub none_is : {X : Type 0} (o : Option X) → is_none o ≡ true → o ≡ None
none_is None e = refl
none_is (Some x) e = absurd (true_false (sym e))

some_is : {X : Type 0} (x y : X) → Some x ≡ Some y → x ≡ y
some_is x y e = cc

pub owner_is : (id : Id) (o : Option Id) → is_owner id o ≡ true → o ≡ Some id
owner_is id None e = absurd (true_false (sym e))
owner_is id (Some j) e = ap (λ (i : Id). Some i) (same_is j id e)

one_is : (b : Bool) (n : ℕ) → 1 + n ≡ one_if b → (b ≡ true) × (n ≡ 0)
one_is true n e = (refl, omega (arith, e))
one_is false n e = absurd (omega (arith, e))

-- ---- a handler begins

-- a mail that starts a context
abbrev pub IsStartOf : Id → Mail → Type 0
IsStartOf id (mail.Start i) = i ≡ id
IsStartOf id (mail.Fire i) = i ≡ id
IsStartOf id (mail.Reply i s answer) = ⊥

pub start_quiet : (id : Id) (m : Mail) → IsStartOf id m → AnswersNothing m
start_quiet id (mail.Start i) e j slot = refl
start_quiet id (mail.Fire i) e j slot = refl
start_quiet id (mail.Reply i s answer) e j slot = absurd e

pub start_as : (id : Id) (m : Mail) → IsStartOf id m → (j : Id) → starts_as j m ≡ one_if (same_id id j)
start_as id (mail.Start i) e j = ap (λ (k : Id). one_if (same_id k j)) e
start_as id (mail.Fire i) e j = ap (λ (k : Id). one_if (same_id k j)) e
start_as id (mail.Reply i s answer) e j = absurd e

pub start_counts : (id : Id) (m : Mail) → IsStartOf id m → starts_as id m ≡ 1
start_counts id m starts = start_as id m starts id ∙ ap (λ (b : Bool). one_if b) (same_self id)

pub start_answers : (id : Id) (m : Mail) (ns : List Mail) → IsStartOf id m → (i : Id) (slot : ℕ) → answer_in ns i slot ≡ answer_in (m ∷ ns) i slot
start_answers id (mail.Start j) ns e i slot = refl
start_answers id (mail.Fire j) ns e i slot = refl
start_answers id (mail.Reply j s answer) ns e i slot = absurd e

-- a context whose start mail is in front: it owns its key and hasn't begun, and no other mail starts it
pub record IsToStart (a : Controller) (ns : List Mail) (id : Id) (h : Held Record) : Type 0 where
  pub unbegun : h.payload.machine ≡ None
  pub owns : owner_of a.accounts h.payload.facts.key ≡ Some id
  pub once : started_as id ns ≡ 0

pub is_to_start_there : (a : Controller) (first : Mail) (ns : List Mail) (id : Id) (h : Held Record) → IsFlow a → a.mails.mails ≡ first ∷ ns → IsStartOf id first → at a.contexts id ≡ Some h → IsToStart a ns id h
is_to_start_there a first ns id h flow taken starts here =
    let counted : starts_as id first + started_as id ns ≡ one_if (is_to_start a id (Some h)) =
    sym (ap (started_as id) taken) ∙ flow.starts id ∙ ap (λ (o : Option (Held Record)). one_if (is_to_start a id o)) here in
    let one : (is_to_start a id (Some h) ≡ true) × (started_as id ns ≡ 0) =
    one_is (is_to_start a id (Some h)) (started_as id ns) (ap (λ (n : ℕ). n + started_as id ns) (sym (start_counts id first starts)) ∙ counted) in
    let both : (is_none h.payload.machine ≡ true) × (is_owner id (owner_of a.accounts h.payload.facts.key) ≡ true) =
    and_parts (is_none h.payload.machine) (is_owner id (owner_of a.accounts h.payload.facts.key)) one.0 in
    record { unbegun = none_is h.payload.machine both.0; owns = owner_is id (owner_of a.accounts h.payload.facts.key) both.1; once = one.1 }

nothing_left : (q o n : ℕ) → q + (o + n) ≡ 0 → n ≡ 0
nothing_left q o n e = omega (arith, e)

-- nothing that it asked is answered
pub start_unanswered : (a : Controller) (first : Mail) (ns : List Mail) (id : Id) (h : Held Record) → IsFlow a → a.mails.mails ≡ first ∷ ns → IsStartOf id first → at a.contexts id ≡ Some h → h.payload.machine ≡ None
    → (slot : ℕ) → answered_as id slot ns ≡ 0
start_unanswered a first ns id h flow taken starts here unbegun slot =
    none_taken first ns id slot (start_quiet id first starts) ∙ sym (ap (answered_as id slot) taken)
    ∙ nothing_left (in_queues a id slot) (in_outs a id slot) (answered_as id slot a.mails.mails)
    (flow.once id slot ∙ ap (λ (o : Option (Held Record)). one_if (waits_for (waits_at a.program o) slot)) here ∙ ap (λ (o : Option Machine). one_if (waits_for (waits_in a.program o) slot)) unbegun)

-- ---- it is given an answer

-- a context whose answer is in front: it has begun, owns its key and waits at the slot, and no other mail answers that
pub record IsToGive (a : Controller) (ns : List Mail) (id : Id) (slot : ℕ) (h : Held Record) (code : Machine) : Type 0 where
  pub begun : h.payload.machine ≡ Some code
  pub owns : owner_of a.accounts h.payload.facts.key ≡ Some id
  pub waits : has slot (slots (machine.control_of a.program code)) ≡ true
  pub once : answered_as id slot ns ≡ 0
  pub unqueued : in_queues a id slot ≡ 0

pub is_to_give_there : (a : Controller) (ns : List Mail) (id : Id) (slot : ℕ) (answer : Answer) (h : Held Record) (code : Machine) → IsFlow a → a.mails.mails ≡ mail.Reply id slot answer ∷ ns
    → at a.contexts id ≡ Some h → h.payload.machine ≡ Some code → IsToGive a ns id slot h code
is_to_give_there a ns id slot answer h code flow taken here begun =
    let named : one_if (same_id id id && nat_eq slot slot) ≡ 1 = ap one_if (names_itself id slot) in
    let gone : answered_as id slot a.mails.mails ≡ 1 + answered_as id slot ns = ap (answered_as id slot) taken ∙ ap (λ (n : ℕ). n + answered_as id slot ns) named in
    let counted : in_queues a id slot + (in_outs a id slot + answered_as id slot a.mails.mails) ≡ one_if (waits_for (waits_at a.program (at a.contexts id)) slot) = flow.once id slot in
    let one : (waits_for (waits_at a.program (at a.contexts id)) slot ≡ true) × (in_queues a id slot + (in_outs a id slot + answered_as id slot ns) ≡ 0) =
    one_is (waits_for (waits_at a.program (at a.contexts id)) slot) (in_queues a id slot + (in_outs a id slot + answered_as id slot ns))
    (summed (in_queues a id slot) (in_outs a id slot) (answered_as id slot ns) (answered_as id slot a.mails.mails) gone ∙ counted) in
    let w : WaitsAt a id slot = waits_there a id slot flow one.0 in
    let held : w.held ≡ h = some_is w.held h (sym w.there ∙ here) in
    let same : w.code ≡ code = some_is w.code code (sym w.begun ∙ ap (λ (g : Held Record). g.payload.machine) held ∙ begun) in
    record {
      begun = begun;
      owns = subst (λ (g : Held Record). owner_of a.accounts g.payload.facts.key ≡ Some id) held w.owns;
      waits = subst (λ (c : Machine). has slot (slots (machine.control_of a.program c)) ≡ true) same w.waits;
      once = nothing_left (in_queues a id slot) (in_outs a id slot) (answered_as id slot ns) one.1;
      unqueued = omega (arith, one.1);
    }
  where
    summed : (q o n all : ℕ) → all ≡ 1 + n → 1 + (q + (o + n)) ≡ q + (o + all)
    summed q o n all e = omega (arith, e)
