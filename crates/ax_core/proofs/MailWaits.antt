-- A mail waits exactly where a handler may begin or be given an answer.
use Rattle.std.proofs.Common.{◌≡◌, ◌↔◌, ℕ, ◌+◌, Bool, true, not, ◌&&◌, is_none, List, [], ◌∷◌, Option, Some, None, refl, sym, ap, ◌∙◌, inl, inr, arith}
use Rattle.ax_text.specs.declared.vocabulary.Answer.{Answer}
use Rattle.ax_future.specs.declared.machine.Machine.{Machine}
use Rattle.ax_machine.specs.Entries.{Key}
use Rattle.ax_context.specs.declared.id.Id.{Id}
use Rattle.ax_context.specs.declared.contexts.Context.{Context as Held}
use Rattle.ax_context.specs.Slots.{at}
use Rattle.ax_account.specs.Accounts.{owner_of}
use Rattle.ax_mailbox.specs.declared.mail.Mail.{Mail}
use Rattle.ax_mailbox.specs.declared.mail.Mail.TheVariants as mail
use Rattle.ax_execution.specs.Contexts.{Stage, Unbegun, Begun, Context}
use Rattle.ax_execution.specs.Allowed.{StageUnbegun, StageHas, OfOwner}
use Rattle.ax_execution.specs.MachineControls.{MachineControl}
use Rattle.ax_core.specs.declared.record.Record.{Record}
use Rattle.ax_core.specs.declared.controller.Controller.{Controller}
use Rattle.ax_core.specs.Contexts.{answer_if, answer_in, StageStands, ContextStands, waits_at}
use Rattle.ax_core.specs.Keys.{OwnerStands}
use Rattle.ax_core.specs.Flow.{one_if, answered_as, started_as, is_owner, is_to_start, in_queues, in_outs, waits_for, IsFlow}
use Rattle.ax_core.specs.May.{is_empty, has_mail}
use Rattle.ax_core.specs.Sound.{StandsFor}
use Rattle.ax_core.specs.Events.{MayCall, MayCallOn}
use Rattle.ax_core.proofs.Called.{is_unbegun}
use Rattle.ax_core.proofs.CalledLemmas.{may_start, may_deliver}
use Rattle.ax_core.proofs.Conditions.{at_least}
use Rattle.ax_core.proofs.Flows.{same_self}
use Rattle.ax_core.proofs.Fronts.{HeldAs, held_as, IsStartOf, start_counts, IsToStart, is_to_start_there}
use Rattle.ax_core.proofs.Owners.{RunsAt, runs_at, names_itself}
use Rattle.ax_core.proofs.Serves.{WaitsAt, waits_there}

none_one : (n : ℕ) → 1 + n ≡ 0 → ⊥
none_one n e = omega (arith, e)

no_one : (n : ℕ) → n ≡ 0 → n ≡ 1 → ⊥
no_one n e f = omega (arith, e, f)

module _ (a : Controller) (m : MachineControl) (flow : IsFlow a) (x : StandsFor a m) where
  -- ---- what the first mail calls is allowed

  starts_first : (first : Mail) (ns : List Mail) (id : Id) → a.mails.mails ≡ first ∷ ns → IsStartOf id first → MayCallOn a m
  starts_first first ns id taken starts = of (at a.contexts id) refl
    where
      counted : 1 + started_as id ns ≡ one_if (is_to_start a id (at a.contexts id))
      counted = ap (λ (n : ℕ). n + started_as id ns) (sym (start_counts id first starts)) ∙ sym (ap (started_as id) taken) ∙ flow.starts id

      of : (o : Option (Held Record)) → at a.contexts id ≡ o → MayCallOn a m
      of None here = absurd (none_one (started_as id ns) (counted ∙ ap (λ (o : Option (Held Record)). one_if (is_to_start a id o)) here))
      of (Some h) here =
          let key : Key = h.payload.facts.key in
          let it : IsToStart a ns id h = is_to_start_there a first ns id h flow taken starts here in
          let own : HeldAs a.program a.mails.mails key id h (m.controls key).owner =
          held_as a.program a.mails.mails a.contexts key id h here (owner_of a.accounts key) (m.controls key).owner it.owns (x.stands.keys key).owner in
          let stage : own.context.stage ≡ Unbegun = is_unbegun a id h.payload.machine own.context.stage it.unbegun own.stands.stage in
          record { key = key; call = inl (x.settled, may_start (m.controls key) own.context own.owner stage) }

  gives_first : (ns : List Mail) (id : Id) (slot : ℕ) (answer : Answer) → a.mails.mails ≡ mail.Reply id slot answer ∷ ns → MayCallOn a m
  gives_first ns id slot answer taken =
      let all : answered_as id slot a.mails.mails ≡ 1 + answered_as id slot ns = ap (answered_as id slot) taken ∙ ap (λ (b : Bool). one_if b + answered_as id slot ns) (names_itself id slot) in
      let once : in_queues a id slot + (in_outs a id slot + answered_as id slot a.mails.mails) ≡ one_if (waits_for (waits_at a.program (at a.contexts id)) slot) = flow.once id slot in
      let w : WaitsAt a id slot = waits_there a id slot flow (at_least (waits_for (waits_at a.program (at a.contexts id)) slot) (omega (arith, all, once))) in
      let key : Key = w.held.payload.facts.key in
      let runs : RunsAt a.program a.mails.mails key id w.held w.code (m.controls key).owner =
      runs_at a.program a.mails.mails a.contexts key id w.held w.code w.begun (owner_of a.accounts key) (m.controls key).owner w.owns w.there (x.stands.keys key).owner in
      let there : runs.running.answers slot ≡ Some answer =
      sym (runs.runs.answers slot) ∙ ap (λ (ms : List Mail). answer_in ms id slot) taken ∙ ap (λ (b : Bool). answer_if b answer (answer_in ns id slot)) (names_itself id slot) in
      record { key = key; call = inr (slot, (x.settled, may_deliver (m.controls key) runs.context runs.owner runs.running slot answer runs.stage there)) }

  calls_first : (ms : List Mail) → a.mails.mails ≡ ms → has_mail a ≡ true → MayCallOn a m
  calls_first [] e some = absurd (cc (sym some ∙ ap (λ (ms : List Mail). not (is_empty ms)) e))
  calls_first (mail.Start id ∷ ns) e some = starts_first (mail.Start id) ns id e refl
  calls_first (mail.Fire id ∷ ns) e some = starts_first (mail.Fire id) ns id e refl
  calls_first (mail.Reply id slot answer ∷ ns) e some = gives_first ns id slot answer e

  -- ---- where no mail waits, nothing may be called

  module _ (none : a.mails.mails ≡ []) (key : Key) where
    unbegun_none : (p : Option Machine) (stage : Stage) (id : Id) → StageUnbegun stage → StageStands a.program a.mails.mails id p stage → p ≡ None
    unbegun_none None stage id u s = refl
    unbegun_none (Some code) Unbegun id u s = absurd s
    unbegun_none (Some code) (Begun r) id u s = absurd u

    start_held : (id : Id) (c : Context) → owner_of a.accounts key ≡ Some id → StageUnbegun c.stage → (o : Option (Held Record)) → at a.contexts id ≡ o → ContextStands a.program a.mails.mails key id o c → ⊥
    start_held id c owns u None here s = s
    start_held id c owns u (Some h) here s =
        let unbegun : h.payload.machine ≡ None = unbegun_none h.payload.machine c.stage id u s.stage in
        let owner : is_owner id (owner_of a.accounts h.payload.facts.key) ≡ true = ap (λ (k : Key). is_owner id (owner_of a.accounts k)) s.job.key ∙ ap (is_owner id) owns ∙ same_self id in
        no_one (started_as id a.mails.mails) (ap (started_as id) none)
        (flow.starts id ∙ ap (λ (o : Option (Held Record)). one_if (is_to_start a id o)) here
        ∙ ap (λ (p : Option Machine). one_if (is_none p && is_owner id (owner_of a.accounts h.payload.facts.key))) unbegun ∙ ap one_if owner)

    start_owned : (o : Option Id) (c : Option Context) → owner_of a.accounts key ≡ o → OwnerStands a.program a.mails.mails a.contexts key o c → OfOwner StageUnbegun c → ⊥
    start_owned None None owns s u = u
    start_owned None (Some c) owns s u = s
    start_owned (Some id) None owns s u = s
    start_owned (Some id) (Some c) owns s u = start_held id c owns u (at a.contexts id) refl s

    give_stage : (id : Id) (slot : ℕ) (p : Option Machine) (stage : Stage) → StageHas slot stage → StageStands a.program a.mails.mails id p stage → ⊥
    give_stage id slot p Unbegun u s = u
    give_stage id slot None (Begun r) u s = s
    give_stage id slot (Some code) (Begun r) u s =
        let e : None ≡ Some u.0 = sym (ap (λ (ms : List Mail). answer_in ms id slot) none) ∙ s.answers slot ∙ u.1 in
        absurd (cc e)

    give_held : (id : Id) (slot : ℕ) (c : Context) → StageHas slot c.stage → (o : Option (Held Record)) → ContextStands a.program a.mails.mails key id o c → ⊥
    give_held id slot c u None s = s
    give_held id slot c u (Some h) s = give_stage id slot h.payload.machine c.stage u s.stage

    give_owned : (slot : ℕ) (o : Option Id) (c : Option Context) → OwnerStands a.program a.mails.mails a.contexts key o c → OfOwner (StageHas slot) c → ⊥
    give_owned slot None None s u = u
    give_owned slot None (Some c) s u = s
    give_owned slot (Some id) None s u = s
    give_owned slot (Some id) (Some c) s u = give_held id slot c u (at a.contexts id) s

  no_call : a.mails.mails ≡ [] → MayCallOn a m → ⊥
  no_call none may = of may.call
    where
      of : MayCall a m may.key → ⊥
      of (inl y) = start_owned none may.key (owner_of a.accounts may.key) (m.controls may.key).owner refl (x.stands.keys may.key).owner y.1
      of (inr y) = give_owned none may.key y.0 (owner_of a.accounts may.key) (m.controls may.key).owner (x.stands.keys may.key).owner y.1.1

  calls_some : (ms : List Mail) → a.mails.mails ≡ ms → MayCallOn a m → has_mail a ≡ true
  calls_some [] e may = absurd (no_call e may)
  calls_some (n ∷ ns) e may = ap (λ (ms : List Mail). not (is_empty ms)) e

pub mail_is : (a : Controller) (m : MachineControl) → IsFlow a → StandsFor a m → (has_mail a ≡ true) ↔ MayCallOn a m
mail_is a m flow x = (λ e. calls_first a m flow x a.mails.mails refl e, λ may. calls_some a m flow x a.mails.mails refl may)
