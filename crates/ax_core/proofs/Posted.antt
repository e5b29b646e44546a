-- The callbacks in the mailbox are those that may run, each once.
use Rattle.std.proofs.Common.{◌≡◌, ℕ, zero, suc, ◌+◌, ◌≤◌, nat_eq, Bool, true, false, ◌&&◌, is_none, List, [], ◌∷◌, map, Option, Some, None, refl, sym, ap, ap₂, ◌∙◌, subst, Contains, eq-eqb, eqb-true, arith}
use Rattle.std.specs.List.{IsDistinct}
use Rattle.ax_text.specs.declared.vocabulary.Answer.{Answer}
use Rattle.ax_future.specs.declared.machine.Machine.{Machine}
use Rattle.ax_machine.specs.Entries.{Key}
use Rattle.ax_context.specs.declared.id.Id.{Id}
use Rattle.ax_context.specs.declared.contexts.Context.{Context as Held}
use Rattle.ax_context.specs.Slots.{at, NumbersDiffer}
use Rattle.ax_account.specs.Accounts.{owner_of}
use Rattle.ax_mailbox.specs.declared.mail.Mail.{Mail}
use Rattle.ax_mailbox.specs.declared.mail.Mail.TheVariants as mail
use Rattle.ax_execution.specs.Contexts.{Stage, Unbegun, Begun, Context}
use Rattle.ax_execution.specs.Allowed.{StageUnbegun, StageHas, OfOwner}
use Rattle.ax_execution.specs.Machine.{Start, Deliver}
use Rattle.ax_execution.specs.MachineControls.{MachineControl}
use Rattle.ax_execution.specs.ControlsAllowed.{AllowedOn}
use Rattle.ax_core.specs.declared.record.Record.{Record}
use Rattle.ax_core.specs.declared.effects.Ran.{Ran}
use Rattle.ax_core.specs.declared.effects.Ran.TheVariants as ran
use Rattle.ax_core.specs.declared.controller.Controller.{Controller}
use Rattle.ax_core.specs.Contexts.{same_id, answer_if, answer_in, StageStands, IsContext, ContextStands, waits_at}
use Rattle.ax_core.specs.Keys.{OwnerStands}
use Rattle.ax_core.specs.Flow.{one_if, names_request, answers_as, answered_as, starts_as, started_as, in_queues, in_outs, waits_for, is_owner, is_to_start, IsFlow}
use Rattle.ax_core.specs.Sound.{rules_of, StandsFor}
use Rattle.ax_core.specs.Events.{event_of, number_of, IsOwnedBy}
use Rattle.ax_core.specs.Order.{number_in, number_at, callback_by, callbacks_in}
use Rattle.ax_core.specs.Posted.{IsPosted, IsToRun, same_callback}
use Rattle.ax_core.proofs.Called.{is_unbegun}
use Rattle.ax_core.proofs.CalledLemmas.{may_start, may_deliver}
use Rattle.ax_core.proofs.Conditions.{at_least}
use Rattle.ax_core.proofs.Flows.{same_self, same_is}
use Rattle.ax_core.proofs.Fronts.{HeldAs, held_as, IsStartOf, none_is, owner_is}
use Rattle.ax_core.proofs.Once.{at_most, times, distinct_where, times_there}
use Rattle.ax_core.proofs.Open.{and_parts}
use Rattle.ax_core.proofs.Orders.{id_of, Counts, counts_there, mail_live}
use Rattle.ax_core.proofs.Owners.{RunsAt, runs_at, names_itself}
use Rattle.ax_core.proofs.Replaced.{contains_behind, contains_map, IsMapped, is_mapped}
use Rattle.ax_core.proofs.Serves.{by_cases, WaitsAt, waits_there}
use Rattle.ax_core.proofs.Unserved.{names_both, one_key}

true_false : true ≡ false → ⊥
true_false e = cc e

none_some : {X : Type 0} {x : X} → None ≡ Some x → ⊥
none_some e = cc e

-- ---- mails that are counted

pub record IsStarted (id : Id) (ms : List Mail) : Type 0 where
  pub mail : Mail
  pub there : Contains ms mail
  pub starts : IsStartOf id mail

start_behind : (m : Mail) (id : Id) (ms : List Mail) → IsStarted id ms → IsStarted id (m ∷ ms)
start_behind m id ms x = record { mail = x.mail; there = contains_behind m ms x.mail x.there; starts = x.starts }

started_is : (id : Id) (ms : List Mail) → 1 ≤ started_as id ms → IsStarted id ms
started_is id [] some = absurd (omega (arith, some))
started_is id (mail.Start i ∷ ms) some = by_cases (same_id i id)
    (λ e. record { mail = mail.Start i; there = (0, omega arith, refl); starts = same_is i id e })
    (λ e. let none : one_if (same_id i id) ≡ 0 = ap one_if e in start_behind (mail.Start i) id ms (started_is id ms (omega (arith, some, none))))
started_is id (mail.Fire i ∷ ms) some = by_cases (same_id i id)
    (λ e. record { mail = mail.Fire i; there = (0, omega arith, refl); starts = same_is i id e })
    (λ e. let none : one_if (same_id i id) ≡ 0 = ap one_if e in start_behind (mail.Fire i) id ms (started_is id ms (omega (arith, some, none))))
started_is id (mail.Reply i s answer ∷ ms) some = start_behind (mail.Reply i s answer) id ms (started_is id ms (omega (arith, some)))

answered_some : (ms : List Mail) (id : Id) (slot : ℕ) → 1 ≤ answered_as id slot ms → (answer : Answer) × (answer_in ms id slot ≡ Some answer)
answered_some [] id slot some = absurd (omega (arith, some))
answered_some (mail.Start i ∷ ms) id slot some = answered_some ms id slot (omega (arith, some))
answered_some (mail.Fire i ∷ ms) id slot some = answered_some ms id slot (omega (arith, some))
answered_some (mail.Reply i s answer ∷ ms) id slot some = by_cases (names_request id slot i s)
    (λ e. (answer, ap (λ (b : Bool). answer_if b answer (answer_in ms id slot)) e))
    (λ e.
    let none : one_if (names_request id slot i s) ≡ 0 = ap one_if e in
    let rest : (b : Answer) × (answer_in ms id slot ≡ Some b) = answered_some ms id slot (omega (arith, some, none)) in
    (rest.0, ap (λ (b : Bool). answer_if b answer (answer_in ms id slot)) e ∙ rest.1))

some_is : (a b : Answer) → Some a ≡ Some b → a ≡ b
some_is a b e = cc e

answer_there : (ms : List Mail) (id : Id) (slot : ℕ) (answer : Answer) → answer_in ms id slot ≡ Some answer → Contains ms (mail.Reply id slot answer)
answer_there [] id slot answer e = absurd (none_some e)
answer_there (mail.Start i ∷ ms) id slot answer e = contains_behind (mail.Start i) ms (mail.Reply id slot answer) (answer_there ms id slot answer e)
answer_there (mail.Fire i ∷ ms) id slot answer e = contains_behind (mail.Fire i) ms (mail.Reply id slot answer) (answer_there ms id slot answer e)
answer_there (mail.Reply i s b ∷ ms) id slot answer e = by_cases (names_request id slot i s)
    (λ x.
    let both : (i ≡ id) × (s ≡ slot) = names_both id slot i s x in
    let same : b ≡ answer = some_is b answer (sym (ap (λ (c : Bool). answer_if c b (answer_in ms id slot)) x) ∙ e) in
    (0, omega arith, λ j. mail.Reply (both.0 j) (both.1 j) (same j)))
    (λ x. contains_behind (mail.Reply i s b) ms (mail.Reply id slot answer) (answer_there ms id slot answer (sym (ap (λ (c : Bool). answer_if c b (answer_in ms id slot)) x) ∙ e)))

start_runs : (a : Controller) (id : Id) (m : Mail) → IsStartOf id m → callback_by a m ≡ ran.Start (number_at a id)
start_runs a id (mail.Start i) e = ap (λ (j : Id). ran.Start (number_at a j)) e
start_runs a id (mail.Fire i) e = ap (λ (j : Id). ran.Start (number_at a j)) e
start_runs a id (mail.Reply i s answer) e = absurd e

module _ (a : Controller) (m : MachineControl) (flow : IsFlow a) (x : StandsFor a m) where
  -- ---- what is posted may run

  -- the owner of the key of the context that an id names
  record Runs (id : Id) (r : Ran) : Type 0 where
    held : Held Record
    there : at a.contexts id ≡ Some held
    owner : IsOwnedBy held.number (m.controls held.payload.facts.key).owner
    may : AllowedOn (rules_of a.settings) (event_of held.payload.facts.key r) m

  starts : (id : Id) (n : ℕ) → 1 ≤ started_as id a.mails.mails → Runs id (ran.Start n)
  starts id n some = of (at a.contexts id) refl (at_least (is_to_start a id (at a.contexts id)) (omega (arith, some, flow.starts id)))
    where
      of : (o : Option (Held Record)) → at a.contexts id ≡ o → is_to_start a id o ≡ true → Runs id (ran.Start n)
      of None here e = absurd (true_false (sym e))
      of (Some h) here e =
          let key : Key = h.payload.facts.key in
          let both : (is_none h.payload.machine ≡ true) × (is_owner id (owner_of a.accounts key) ≡ true) = and_parts (is_none h.payload.machine) (is_owner id (owner_of a.accounts key)) e in
          let own : HeldAs a.program a.mails.mails key id h (m.controls key).owner =
          held_as a.program a.mails.mails a.contexts key id h here (owner_of a.accounts key) (m.controls key).owner (owner_is id (owner_of a.accounts key) both.1) (x.stands.keys key).owner in
          let stage : own.context.stage ≡ Unbegun = is_unbegun a id h.payload.machine own.context.stage (none_is h.payload.machine both.0) own.stands.stage in
          record {
            held = h;
            there = here;
            owner = subst (IsOwnedBy h.number) (sym own.owner) (sym own.stands.number);
            may = (x.settled, may_start (m.controls key) own.context own.owner stage);
          }

  gives : (id : Id) (slot n : ℕ) → 1 ≤ answered_as id slot a.mails.mails → Runs id (ran.Reply n slot)
  gives id slot n some =
      let waits : Bool = waits_for (waits_at a.program (at a.contexts id)) slot in
      let once : in_queues a id slot + (in_outs a id slot + answered_as id slot a.mails.mails) ≡ one_if waits = flow.once id slot in
      let w : WaitsAt a id slot = waits_there a id slot flow (at_least waits (omega (arith, some, once))) in
      let key : Key = w.held.payload.facts.key in
      let runs : RunsAt a.program a.mails.mails key id w.held w.code (m.controls key).owner =
      runs_at a.program a.mails.mails a.contexts key id w.held w.code w.begun (owner_of a.accounts key) (m.controls key).owner w.owns w.there (x.stands.keys key).owner in
      let given : (answer : Answer) × (answer_in a.mails.mails id slot ≡ Some answer) = answered_some a.mails.mails id slot some in
      record {
        held = w.held;
        there = w.there;
        owner = subst (IsOwnedBy w.held.number) (sym runs.owner) (sym runs.stands.number);
        may = (x.settled, may_deliver (m.controls key) runs.context runs.owner runs.running slot given.0 runs.stage (sym (runs.runs.answers slot) ∙ given.1));
      }

  to_run_as : (id : Id) (r : Ran) → number_of r ≡ number_at a id → Runs id r → IsToRun a m r
  to_run_as id r e s = record {
    key = s.held.payload.facts.key;
    owner = subst (λ (n : ℕ). IsOwnedBy n (m.controls s.held.payload.facts.key).owner) (sym (e ∙ ap number_in s.there)) s.owner;
    may = s.may;
  }

  mail_runs : (k : Mail) → Contains a.mails.mails k → IsToRun a m (callback_by a k)
  mail_runs k c = of k (counts_there k a.mails.mails c)
    where
      of : (k : Mail) → Counts k a.mails.mails → IsToRun a m (callback_by a k)
      of (mail.Start id) some = to_run_as id (ran.Start (number_at a id)) refl (starts id (number_at a id) some)
      of (mail.Fire id) some = to_run_as id (ran.Start (number_at a id)) refl (starts id (number_at a id) some)
      of (mail.Reply id slot answer) some = to_run_as id (ran.Reply (number_at a id) slot) refl (gives id slot (number_at a id) some)

  pub to_run : (r : Ran) → Contains (callbacks_in a) r → IsToRun a m r
  to_run r c =
      let from : IsMapped (callback_by a) a.mails.mails r = is_mapped (callback_by a) a.mails.mails r c in
      subst (IsToRun a m) from.gives (mail_runs from.from from.there)

  -- ---- what may run is posted

  posted_as : (k : Mail) (r : Ran) → callback_by a k ≡ r → Contains a.mails.mails k → Contains (callbacks_in a) r
  posted_as k r e c = subst (Contains (callbacks_in a)) e (contains_map (callback_by a) a.mails.mails k c)

  unbegun_none : (p : Option Machine) (stage : Stage) (id : Id) → StageUnbegun stage → StageStands a.program a.mails.mails id p stage → p ≡ None
  unbegun_none None stage id u s = refl
  unbegun_none (Some code) Unbegun id u s = absurd s
  unbegun_none (Some code) (Begun r) id u s = absurd u

  start_posted : (key : Key) (id : Id) (h : Held Record) (c : Context) → owner_of a.accounts key ≡ Some id → at a.contexts id ≡ Some h → IsContext a.program a.mails.mails key id h c → StageUnbegun c.stage
      → IsPosted a (λ n. ran.Start n) (Some c)
  start_posted key id h c owns here s u =
      let unbegun : h.payload.machine ≡ None = unbegun_none h.payload.machine c.stage id u s.stage in
      let owner : is_owner id (owner_of a.accounts h.payload.facts.key) ≡ true = ap (λ (k : Key). is_owner id (owner_of a.accounts k)) s.job.key ∙ ap (is_owner id) owns ∙ same_self id in
      let one : started_as id a.mails.mails ≡ 1 = flow.starts id ∙ ap (λ (o : Option (Held Record)). one_if (is_to_start a id o)) here
      ∙ ap (λ (p : Option Machine). one_if (is_none p && is_owner id (owner_of a.accounts h.payload.facts.key))) unbegun ∙ ap one_if owner in
      let it : IsStarted id a.mails.mails = started_is id a.mails.mails (omega (arith, one)) in
      posted_as it.mail (ran.Start c.number) (start_runs a id it.mail it.starts ∙ ap (λ (n : ℕ). ran.Start n) (ap number_in here ∙ s.number)) it.there

  starts_owned : (key : Key) (o : Option Id) (c : Option Context) → owner_of a.accounts key ≡ o → OwnerStands a.program a.mails.mails a.contexts key o c → OfOwner StageUnbegun c → IsPosted a (λ n. ran.Start n) c
  starts_owned key None None owns s u = absurd u
  starts_owned key None (Some c) owns s u = absurd s
  starts_owned key (Some id) None owns s u = absurd u
  starts_owned key (Some id) (Some c) owns s u = of (at a.contexts id) refl s
    where
      of : (o : Option (Held Record)) → at a.contexts id ≡ o → ContextStands a.program a.mails.mails key id o c → IsPosted a (λ n. ran.Start n) (Some c)
      of None here s = absurd s
      of (Some h) here s = start_posted key id h c owns here s u

  pub starts_posted : (key : Key) → AllowedOn (rules_of a.settings) (Start key) m → IsPosted a (λ n. ran.Start n) (m.controls key).owner
  starts_posted key may = starts_owned key (owner_of a.accounts key) (m.controls key).owner refl (x.stands.keys key).owner may.1

  stage_answered : (id : Id) (slot : ℕ) (p : Option Machine) (stage : Stage) → StageHas slot stage → StageStands a.program a.mails.mails id p stage → (answer : Answer) × (answer_in a.mails.mails id slot ≡ Some answer)
  stage_answered id slot p Unbegun u s = absurd u
  stage_answered id slot None (Begun r) u s = absurd s
  stage_answered id slot (Some code) (Begun r) u s = (u.0, s.answers slot ∙ u.1)

  reply_posted : (key : Key) (slot : ℕ) (id : Id) (h : Held Record) (c : Context) → at a.contexts id ≡ Some h → IsContext a.program a.mails.mails key id h c → StageHas slot c.stage → IsPosted a (λ n. ran.Reply n slot) (Some c)
  reply_posted key slot id h c here s u =
      let given : (answer : Answer) × (answer_in a.mails.mails id slot ≡ Some answer) = stage_answered id slot h.payload.machine c.stage u s.stage in
      posted_as (mail.Reply id slot given.0) (ran.Reply c.number slot) (ap (λ (n : ℕ). ran.Reply n slot) (ap number_in here ∙ s.number)) (answer_there a.mails.mails id slot given.0 given.1)

  replies_owned : (key : Key) (slot : ℕ) (o : Option Id) (c : Option Context) → OwnerStands a.program a.mails.mails a.contexts key o c → OfOwner (StageHas slot) c → IsPosted a (λ n. ran.Reply n slot) c
  replies_owned key slot None None s u = absurd u
  replies_owned key slot None (Some c) s u = absurd s
  replies_owned key slot (Some id) None s u = absurd u
  replies_owned key slot (Some id) (Some c) s u = of (at a.contexts id) refl s
    where
      of : (o : Option (Held Record)) → at a.contexts id ≡ o → ContextStands a.program a.mails.mails key id o c → IsPosted a (λ n. ran.Reply n slot) (Some c)
      of None here s = absurd s
      of (Some h) here s = reply_posted key slot id h c here s u

  pub replies_posted : (key : Key) (slot : ℕ) → AllowedOn (rules_of a.settings) (Deliver key slot) m → IsPosted a (λ n. ran.Reply n slot) (m.controls key).owner
  replies_posted key slot may = replies_owned key slot (owner_of a.accounts key) (m.controls key).owner (x.stands.keys key).owner may.1

  owned_posted : (run : ℕ → Ran) (n : ℕ) (c : Option Context) → IsOwnedBy n c → IsPosted a run c → Contains (callbacks_in a) (run n)
  owned_posted run n None e p = absurd e
  owned_posted run n (Some c) e p = subst (λ (k : ℕ). Contains (callbacks_in a) (run k)) e p

  pub stands_posted : (r : Ran) → IsToRun a m r → Contains (callbacks_in a) r
  stands_posted (ran.Start n) u = owned_posted (λ k. ran.Start k) n (m.controls u.key).owner u.owner (starts_posted u.key u.may)
  stands_posted (ran.Reply n slot) u = owned_posted (λ k. ran.Reply k slot) n (m.controls u.key).owner u.owner (replies_posted u.key slot u.may)

  -- ---- so it may run where it's posted

  module _ (differ : NumbersDiffer a.contexts) where
    allowed_as : (run : ℕ → Ran) → ((n : ℕ) → number_of (run n) ≡ n) → (key : Key) (c : Option Context) → (m.controls key).owner ≡ c → IsPosted a run c
        → (n : ℕ) × AllowedOn (rules_of a.settings) (event_of key (run n)) m
    allowed_as run named key None e p = absurd p
    allowed_as run named key (Some c) e p =
        let u : IsToRun a m (run c.number) = to_run (run c.number) p in
        let same : u.key ≡ key = one_key a m flow x differ u.key key c.number (subst (λ (n : ℕ). IsOwnedBy n (m.controls u.key).owner) (named c.number) u.owner) (subst (IsOwnedBy c.number) (sym e) refl) in
        (c.number, subst (λ (k : Key). AllowedOn (rules_of a.settings) (event_of k (run c.number)) m) same u.may)

    pub start_allowed : (key : Key) → IsPosted a (λ n. ran.Start n) (m.controls key).owner → AllowedOn (rules_of a.settings) (Start key) m
    start_allowed key p = (allowed_as (λ n. ran.Start n) (λ n. refl) key (m.controls key).owner refl p).1

    pub reply_allowed : (key : Key) (slot : ℕ) → IsPosted a (λ n. ran.Reply n slot) (m.controls key).owner → AllowedOn (rules_of a.settings) (Deliver key slot) m
    reply_allowed key slot p = (allowed_as (λ n. ran.Reply n slot) (λ n. refl) key (m.controls key).owner refl p).1

-- ---- each stands once

pub callback_itself : (r : Ran) → same_callback r r ≡ true
callback_itself (ran.Start n) = eq-eqb n n refl
callback_itself (ran.Reply n slot) = rw (eq-eqb n n refl) (eq-eqb slot slot refl)

pub callback_is : (r q : Ran) → same_callback r q ≡ true → r ≡ q
callback_is (ran.Start n) (ran.Start k) e = ap (λ (i : ℕ). ran.Start i) (eqb-true n k e)
callback_is (ran.Start n) (ran.Reply k slot) e = absurd (true_false (sym e))
callback_is (ran.Reply n slot) (ran.Start k) e = absurd (true_false (sym e))
callback_is (ran.Reply n slot) (ran.Reply k other) e =
    let both : (nat_eq n k ≡ true) × (nat_eq slot other ≡ true) = and_parts (nat_eq n k) (nat_eq slot other) e in
    ap₂ (λ (i s : ℕ). ran.Reply i s) (eqb-true n k both.0) (eqb-true slot other both.1)

-- how often mails run a callback of a context
abbrev runs_as : Ran → Id → Mail → ℕ
runs_as (ran.Start n) id m = starts_as id m
runs_as (ran.Reply n slot) id m = answers_as id slot m

abbrev all_as : Ran → Id → List Mail → ℕ
all_as (ran.Start n) id ms = started_as id ms
all_as (ran.Reply n slot) id ms = answered_as id slot ms

all_more : (r : Ran) (id : Id) (m : Mail) (ms : List Mail) → all_as r id (m ∷ ms) ≡ runs_as r id m + all_as r id ms
all_more (ran.Start n) id m ms = refl
all_more (ran.Reply n slot) id m ms = refl

module _ (a : Controller) (flow : IsFlow a) (differ : NumbersDiffer a.contexts) where
  module _ (id : Id) (held : Held Record) (there : at a.contexts id ≡ Some held) where
    itself : (i : Id) (n : ℕ) → held.number ≡ n → (at a.contexts i ≡ None → ⊥) → n ≡ number_at a i → i ≡ id
    itself i n number live e = of (at a.contexts i) refl e
      where
        of : (o : Option (Held Record)) → at a.contexts i ≡ o → n ≡ number_in o → i ≡ id
        of None f e = absurd (live f)
        of (Some h) f e = differ i id h held f there (sym e ∙ sym number)

    one_start : (i : Id) (n : ℕ) → held.number ≡ n → (at a.contexts i ≡ None → ⊥) → one_if (nat_eq n (number_at a i)) ≤ one_if (same_id i id)
    one_start i n number live = by_cases (nat_eq n (number_at a i))
        (λ e.
        let same : i ≡ id = itself i n number live (eqb-true n (number_at a i) e) in
        let one : same_id i id ≡ true = subst (λ (j : Id). same_id j id ≡ true) (sym same) (same_self id) in
        omega (arith, ap one_if e, ap one_if one))
        (λ e. omega (arith, ap one_if e))

    one_reply : (i : Id) (n slot s : ℕ) → held.number ≡ n → (at a.contexts i ≡ None → ⊥) → one_if (nat_eq n (number_at a i) && nat_eq slot s) ≤ one_if (names_request id slot i s)
    one_reply i n slot s number live = by_cases (nat_eq n (number_at a i) && nat_eq slot s)
        (λ e.
        let both : (nat_eq n (number_at a i) ≡ true) × (nat_eq slot s ≡ true) = and_parts (nat_eq n (number_at a i)) (nat_eq slot s) e in
        let same : i ≡ id = itself i n number live (eqb-true n (number_at a i) both.0) in
        let one : names_request id slot i s ≡ true = subst (λ (j : Id). names_request id slot j s ≡ true) (sym same) (subst (λ (t : ℕ). names_request id slot id t ≡ true) (eqb-true slot s both.1) (names_itself id slot)) in
        omega (arith, ap one_if e, ap one_if one))
        (λ e. omega (arith, ap one_if e))

    one_runs : (r : Ran) (k : Mail) → held.number ≡ number_of r → (at a.contexts (id_of k) ≡ None → ⊥) → one_if (same_callback r (callback_by a k)) ≤ runs_as r id k
    one_runs (ran.Start n) (mail.Start i) number live = one_start i n number live
    one_runs (ran.Start n) (mail.Fire i) number live = one_start i n number live
    one_runs (ran.Start n) (mail.Reply i s answer) number live = omega arith
    one_runs (ran.Reply n slot) (mail.Start i) number live = omega arith
    one_runs (ran.Reply n slot) (mail.Fire i) number live = omega arith
    one_runs (ran.Reply n slot) (mail.Reply i s answer) number live = one_reply i n slot s number live

    times_run : (r : Ran) (ms : List Mail) → held.number ≡ number_of r → ((k : Mail) → Contains ms k → at a.contexts (id_of k) ≡ None → ⊥) → times same_callback r (map (callback_by a) ms) ≤ all_as r id ms
    times_run (ran.Start n) [] number live = omega arith
    times_run (ran.Reply n slot) [] number live = omega arith
    times_run r (k ∷ ms) number live = omega (
      arith,
      all_more r id k ms,
      one_runs r k number (live k (0, omega arith, refl)),
      times_run r ms number (λ j c. live j (contains_behind k ms j c)),
    )

    at_most_once : (r : Ran) → all_as r id a.mails.mails ≤ 1
    at_most_once (ran.Start n) = omega (arith, flow.starts id, at_most (is_to_start a id (at a.contexts id)))
    at_most_once (ran.Reply n slot) = omega (arith, flow.once id slot, at_most (waits_for (waits_at a.program (at a.contexts id)) slot))

    times_all : (r : Ran) → held.number ≡ number_of r → times same_callback r (callbacks_in a) ≤ 1
    times_all r number = omega (arith, times_run r a.mails.mails number (λ k c. mail_live a k flow c), at_most_once r)

  number_run : (k : Mail) → number_of (callback_by a k) ≡ number_at a (id_of k)
  number_run (mail.Start id) = refl
  number_run (mail.Fire id) = refl
  number_run (mail.Reply id slot answer) = refl

  of_one : (r : Ran) → Contains (callbacks_in a) r → times same_callback r (callbacks_in a) ≤ 1
  of_one r c =
      let from : IsMapped (callback_by a) a.mails.mails r = is_mapped (callback_by a) a.mails.mails r c in
      of from.from (at a.contexts (id_of from.from)) refl (mail_live a from.from flow from.there) (sym (number_run from.from) ∙ ap number_of from.gives)
    where
      of : (k : Mail) (o : Option (Held Record)) → at a.contexts (id_of k) ≡ o → (at a.contexts (id_of k) ≡ None → ⊥) → number_at a (id_of k) ≡ number_of r → times same_callback r (callbacks_in a) ≤ 1
      of k None here live e = absurd (live here)
      of k (Some h) here live e = times_all (id_of k) h here r (sym (ap number_in here) ∙ e)

  times_once : (r : Ran) → times same_callback r (callbacks_in a) ≤ 1
  times_once r = of (times same_callback r (callbacks_in a)) refl
    where
      of : (n : ℕ) → times same_callback r (callbacks_in a) ≡ n → times same_callback r (callbacks_in a) ≤ 1
      of zero e = omega (arith, e)
      of (suc n) e = of_one r (times_there same_callback callback_is r (callbacks_in a) (omega (arith, e)))

  pub posted_once : IsDistinct same_callback (callbacks_in a)
  posted_once = distinct_where same_callback callback_itself (callbacks_in a) times_once
