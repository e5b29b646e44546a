-- The flow of the requests where a timer fires.
use Rattle.std.proofs.Common.{◌≡◌, ℕ, ◌+◌, List, [], ◌∷◌, ◌++◌, Bool, true, false, ◌&&◌, Option, Some, None, is_none, refl, sym, ap, ◌∙◌, subst, arith}
use Rattle.std.specs.Str.{bytes_eq}
use Rattle.ax_text.specs.Controls.{Ask'}
use Rattle.ax_future.specs.declared.machine.Machine.{Machine as CodeMachine}
use Rattle.ax_machine.specs.Entries.{Key}
use Rattle.ax_machine.proofs.FiringLemmas.{key_is, same_key}
use Rattle.ax_buffer.specs.declared.items.Item.{Item as Request}
use Rattle.ax_context.specs.declared.id.Id.{Id}
use Rattle.ax_context.specs.declared.contexts.Context.{Context as Held}
use Rattle.ax_context.specs.Slots.{at}
use Rattle.ax_account.specs.Parts.{Part}
use Rattle.ax_account.specs.Accounts.{owner_of}
use Rattle.ax_mailbox.specs.declared.mail.Mail.{Mail}
use Rattle.ax_mailbox.specs.declared.mail.Mail.TheVariants as mail
use Rattle.ax_execution.proofs.Upto.{by_cases}
use Rattle.ax_core.specs.declared.record.Record.{Record}
use Rattle.ax_core.specs.declared.effects.Fired.{Fired}
use Rattle.ax_core.specs.declared.controller.Controller.{Controller}
use Rattle.ax_core.specs.Contexts.{same_id, waits_at}
use Rattle.ax_core.specs.Flow.{one_if, answers_as, answered_as, started_as, in_queues, in_outs, waits_for, is_owner, is_to_start, OwnsBegun, OwnsOnceBegun, QueuedStands, OutStands, IsFlow}
use Rattle.ax_core.specs.Firings.{FiresAt}
use Rattle.ax_core.proofs.Flows.{same_is, other_ids}
use Rattle.ax_core.proofs.Owners.{none_some}

fire_answered : (ms : List Mail) (one id : Id) (slot : ℕ) → answered_as id slot (ms ++ mail.Fire one ∷ []) ≡ answered_as id slot ms
fire_answered [] one id slot = refl
fire_answered (m ∷ ms) one id slot = ap (λ (n : ℕ). answers_as id slot m + n) (fire_answered ms one id slot)

fire_more : (ms : List Mail) (one id : Id) → started_as id (ms ++ mail.Fire one ∷ []) ≡ started_as id ms + one_if (same_id one id)
fire_more [] one id = omega arith
fire_more (m ∷ ms) one id = let e : started_as id (ms ++ mail.Fire one ∷ []) ≡ started_as id ms + one_if (same_id one id) = fire_more ms one id in omega arith

differs : true ≡ false → ⊥
differs x = cc x

module _ (a b : Controller) (key : Key) (f : Fired) (h : FiresAt a b key f) (none : owner_of a.accounts key ≡ None) where
  -- what the controller becomes
  abbrev pub fired_one : Controller
  fired_one = record a { contexts = b.contexts; accounts = b.accounts; timers = b.timers; mails = b.mails }

  owner_now : owner_of b.accounts key ≡ Some h.id
  owner_now = ap (λ (x : Part). x.owner) h.part.own

  owner_as : (k : Key) → (k ≡ key → ⊥) → owner_of b.accounts k ≡ owner_of a.accounts k
  owner_as k differ = ap (λ (x : Part). x.owner) (h.part.others k differ)

  other_key : (k : Key) → bytes_eq key k ≡ false → k ≡ key → ⊥
  other_key k e d = differs (sym (ap (bytes_eq key) d ∙ same_key key) ∙ e)

  -- nothing waits at the new context
  waits_as : (id : Id) → waits_at a.program (at b.contexts id) ≡ waits_at a.program (at a.contexts id)
  waits_as id = by_cases (same_id h.id id)
      (λ x. subst (λ (i : Id). waits_at a.program (at b.contexts i) ≡ waits_at a.program (at a.contexts i)) (same_is h.id id x) (ap (waits_at a.program) h.made ∙ sym (ap (waits_at a.program) h.free)))
      (λ x. ap (waits_at a.program) (h.others id (other_ids h.id id x)))

  owns_as : (id : Id) → same_id h.id id ≡ false → (k : Key) → is_owner id (owner_of b.accounts k) ≡ is_owner id (owner_of a.accounts k)
  owns_as id x k = by_cases (bytes_eq key k)
      (λ e. subst (λ (j : Key). is_owner id (owner_of b.accounts j) ≡ is_owner id (owner_of a.accounts j)) (key_is key k e) (ap (is_owner id) owner_now ∙ (x ∙ sym (ap (is_owner id) none))))
      (λ e. ap (is_owner id) (owner_as k (other_key k e)))

  start_as : (id : Id) → same_id h.id id ≡ false → (o : Option (Held Record)) → is_to_start fired_one id o ≡ is_to_start a id o
  start_as id x None = refl
  start_as id x (Some y) = ap (λ (b : Bool). is_none y.payload.machine && b) (owns_as id x y.payload.facts.key)

  -- the new context is to start, and each other as before
  starts : IsFlow a → (id : Id) → started_as id b.mails.mails ≡ one_if (is_to_start fired_one id (at b.contexts id))
  starts flow id =
      let more : started_as id b.mails.mails ≡ started_as id a.mails.mails + one_if (same_id h.id id) = ap (started_as id) h.mails ∙ fire_more a.mails.mails h.id id in
      let was : started_as id a.mails.mails ≡ one_if (is_to_start a id (at a.contexts id)) = flow.starts id in
      by_cases (same_id h.id id)
      (λ x.
      let it : h.id ≡ id = same_is h.id id x in
      let here : one_if (is_to_start fired_one id (at b.contexts id)) ≡ one_if (same_id h.id id) =
      subst (λ (i : Id). one_if (is_to_start fired_one i (at b.contexts i)) ≡ one_if (same_id h.id i)) it
      (ap (λ (o : Option (Held Record)). one_if (is_to_start fired_one h.id o)) h.made ∙ ap (λ (o : Option Id). one_if (is_owner h.id o)) owner_now) in
      let gone : one_if (is_to_start a id (at a.contexts id)) ≡ 0 =
      subst (λ (i : Id). one_if (is_to_start a i (at a.contexts i)) ≡ 0) it (ap (λ (o : Option (Held Record)). one_if (is_to_start a h.id o)) h.free) in
      omega (arith, more, was, here, gone))
      (λ x.
      let there : one_if (is_to_start fired_one id (at b.contexts id)) ≡ one_if (is_to_start a id (at a.contexts id)) =
      ap (λ (o : Option (Held Record)). one_if (is_to_start fired_one id o)) (h.others id (other_ids h.id id x)) ∙ ap one_if (start_as id x (at a.contexts id)) in
      let none_more : one_if (same_id h.id id) ≡ 0 = ap one_if x in
      omega (arith, more, was, there, none_more))

  begun_as : (id : Id) (o : Option (Held Record)) → OwnsOnceBegun a id o → OwnsOnceBegun fired_one id o
  begun_as id None x = tt
  begun_as id (Some y) x = of y.payload.machine y.payload.facts.key x
    where
      of : (m : Option CodeMachine) (k : Key) → OwnsBegun a id m k → OwnsBegun fired_one id m k
      of None k x = tt
      of (Some m) k x = owner_as k (λ e. none_some (sym none ∙ (ap (owner_of a.accounts) (sym e) ∙ x))) ∙ x

  queued_as : (shard : ℕ) (i : Request) (o : Option (Held Record)) → QueuedStands a shard i o → QueuedStands fired_one shard i o
  queued_as shard i None x = x
  queued_as shard i (Some y) x = x

  out_as : (shard : ℕ) (o : Option (Held Record)) → OutStands a shard o → OutStands fired_one shard o
  out_as shard None x = x
  out_as shard (Some y) x = x

  pub flow_fires : IsFlow a → IsFlow fired_one
  flow_fires flow = record {
    once = λ id slot.
        let one : answered_as id slot b.mails.mails ≡ answered_as id slot a.mails.mails = ap (answered_as id slot) h.mails ∙ fire_answered a.mails.mails h.id id slot in
        ap (λ (n : ℕ). in_queues a id slot + (in_outs a id slot + n)) one ∙ (flow.once id slot ∙ ap (λ (ws : List Ask'). one_if (waits_for ws slot)) (sym (waits_as id)));
    starts = starts flow;
    begun = λ id. by_cases (same_id h.id id)
        (λ x. subst (λ (i : Id). OwnsOnceBegun fired_one i (at b.contexts i)) (same_is h.id id x) (subst (λ (o : Option (Held Record)). OwnsOnceBegun fired_one h.id o) (sym h.made) tt))
        (λ x. subst (λ (o : Option (Held Record)). OwnsOnceBegun fired_one id o) (sym (h.others id (other_ids h.id id x))) (begun_as id (at a.contexts id) (flow.begun id)));
    queued = λ shard i c. by_cases (same_id h.id i.id)
        (λ x. absurd (subst (λ (o : Option (Held Record)). QueuedStands a shard i o) (ap (at a.contexts) (sym (same_is h.id i.id x)) ∙ h.free) (flow.queued shard i c)))
        (λ x. subst (λ (o : Option (Held Record)). QueuedStands fired_one shard i o) (sym (h.others i.id (other_ids h.id i.id x))) (queued_as shard i (at a.contexts i.id) (flow.queued shard i c)));
    out = λ shard n c. by_cases (same_id h.id n.id)
        (λ x. absurd (subst (λ (o : Option (Held Record)). OutStands a shard o) (ap (at a.contexts) (sym (same_is h.id n.id x)) ∙ h.free) (flow.out shard n c)))
        (λ x. subst (λ (o : Option (Held Record)). OutStands fired_one shard o) (sym (h.others n.id (other_ids h.id n.id x))) (out_as shard (at a.contexts n.id) (flow.out shard n c)));
    shards = flow.shards;
  }
