-- The requests in queues and out of shards are those that may be served, each once.
use Rattle.std.proofs.Common.{◌≡◌, ℕ, zero, suc, ◌+◌, ◌≤◌, nat_eq, Bool, true, false, ◌&&◌, List, [], ◌∷◌, ◌++◌, map, get_or, Option, Some, None, refl, sym, ap, ap₂, ◌∙◌, subst, inl, inr, Contains, eq-eqb, eqb-true, arith}
use Rattle.std.specs.List.{IsDistinct}
use Rattle.std.proofs.lemmas.Bool.{cond-false}
use Rattle.std.proofs.lemmas.List.Elements.{Contains-append_left, Contains-append_right, Contains-append_cases}
use Rattle.ax_text.specs.declared.vocabulary.Request.{Request}
use Rattle.ax_text.specs.Prints.{has}
use Rattle.ax_text.specs.Controls.{Control, Done, Wait, Arms, slots, request_at}
use Rattle.ax_text.proofs.Asked.{slots_waiting}
use Rattle.ax_text.proofs.Steps.{mem_append}
use Rattle.ax_future.specs.declared.machine.Machine.{Machine as CodeMachine}
use Rattle.ax_future.specs.Machines as machine
use Rattle.ax_machine.specs.Entries.{Key}
use Rattle.ax_buffer.specs.declared.items.Item.{Item}
use Rattle.ax_buffer.specs.Buffer.{queue_of, total}
use Rattle.ax_context.specs.declared.id.Id.{Id}
use Rattle.ax_context.specs.declared.contexts.Context.{Context as Held}
use Rattle.ax_context.specs.Slots.{at, NumbersDiffer}
use Rattle.ax_account.specs.Accounts.{owner_of}
use Rattle.ax_mailbox.specs.declared.mail.Mail.{Mail}
use Rattle.ax_mailbox.specs.declared.mail.Mail.TheVariants as mail
use Rattle.ax_execution.specs.Contexts.{Running, Stage, Unbegun, Begun, Context}
use Rattle.ax_execution.specs.Allowed.{StageAsks, OfOwner}
use Rattle.ax_execution.specs.Machine.{Serve}
use Rattle.ax_execution.specs.MachineControls.{MachineControl}
use Rattle.ax_execution.specs.ControlsAllowed.{AllowedOn}
use Rattle.ax_core.specs.declared.record.Record.{Record}
use Rattle.ax_core.specs.declared.record.Name.{Name}
use Rattle.ax_core.specs.declared.controller.Controller.{Controller}
use Rattle.ax_core.specs.Contexts.{same_id, answer_if, answer_in, IsRunning, StageStands, IsContext, ContextStands, waits_in, waits_at}
use Rattle.ax_core.specs.Keys.{OwnerStands}
use Rattle.ax_core.specs.Flow.{shard_of, one_if, names_request, queued_as, named_as, answered_as, in_queues, in_outs, waits_for, QueuedStands, OutStands, out_of, IsFlow}
use Rattle.ax_core.specs.Sound.{rules_of, StandsFor}
use Rattle.ax_core.specs.Events.{IsOwnedBy}
use Rattle.ax_core.specs.Order.{number_in, number_at, Asked, asked_by, queue_in}
use Rattle.ax_core.specs.Requests.{sent_by, sent_in, requests_in, requests_below, all_requests, same_asked, IsQueuedOrOut, IsUnserved}
use Rattle.ax_core.proofs.Conditions.{at_least}
use Rattle.ax_core.proofs.Flows.{same_is}
use Rattle.ax_core.proofs.Forgotten.{in_outs_there}
use Rattle.ax_core.proofs.Orders.{item_live}
use Rattle.ax_core.proofs.KeysStay.{out_live}
use Rattle.ax_core.proofs.Once.{at_most, times, distinct_where, times_there}
use Rattle.ax_core.proofs.Owners.{RunsAt, runs_at, unanswered, names_itself, in_queues_there}
use Rattle.ax_core.proofs.Replaced.{contains_none, contains_behind, contains_map, IsMapped, is_mapped}
use Rattle.ax_core.proofs.Serves.{by_cases, has_request, WaitsAt, waits_there}

true_false : true ≡ false → ⊥
true_false e = cc e

none_some : {X : Type 0} {x : X} → None ≡ Some x → ⊥
none_some e = cc e

-- ---- a slot that has a request, and one that has no answer

slot_asked : (c : Control) (s : ℕ) (q : Request) → request_at c s ≡ Some q → has s (slots c) ≡ true
slot_asked Done s q e = absurd (none_some e)
slot_asked (Wait t r n k) s q e = by_cases (nat_eq s t) (λ x. rw x refl) (λ x. absurd (none_some (sym (cond-false (nat_eq s t) (Some r) None x) ∙ e)))
slot_asked (Arms one two k) s q e = by_cases (has s (slots one))
    (λ x. mem_append s (slots one) (slots two) ∙ rw x refl)
    (λ x. mem_append s (slots one) (slots two) ∙ (rw x (slot_asked two s q (sym (cond-false (has s (slots one)) (request_at one s) (request_at two s) x) ∙ e))))

no_reply : (ms : List Mail) (id : Id) (slot : ℕ) → answer_in ms id slot ≡ None → answered_as id slot ms ≡ 0
no_reply [] id slot e = refl
no_reply (mail.Start i ∷ ms) id slot e = omega (arith, no_reply ms id slot e)
no_reply (mail.Fire i ∷ ms) id slot e = omega (arith, no_reply ms id slot e)
no_reply (mail.Reply i s a ∷ ms) id slot e = by_cases (names_request id slot i s)
    (λ x. absurd (none_some (sym e ∙ ap (λ (b : Bool). answer_if b a (answer_in ms id slot)) x)))
    (λ x. ap₂ (λ (b : Bool) (n : ℕ). one_if b + n) x (no_reply ms id slot (sym (ap (λ (b : Bool). answer_if b a (answer_in ms id slot)) x) ∙ e)))

-- ---- what is counted in lists stands in one of them

pub record IsSomewhere {X : Type 0} (f : List X → ℕ) (xss : List (List X)) : Type 0 where
  pub place : ℕ
  pub some : 1 ≤ f (get_or xss place [])

some_at : {X : Type 0} (f : List X → ℕ) (xss : List (List X)) → 1 ≤ total f xss → IsSomewhere f xss
some_at f [] some = absurd (omega (arith, some))
some_at f (xs ∷ xss) some = of (f xs) refl (λ more. some_at f xss more)
  where
    of : (n : ℕ) → f xs ≡ n → (1 ≤ total f xss → IsSomewhere f xss) → IsSomewhere f (xs ∷ xss)
    of zero e go = let rest : IsSomewhere f xss = go (omega (arith, some, e)) in record { place = suc rest.place; some = rest.some }
    of (suc n) e go = record { place = 0; some = omega (arith, e) }

pub names_both : (id : Id) (slot : ℕ) (i : Id) (s : ℕ) → names_request id slot i s ≡ true → (i ≡ id) × (s ≡ slot)
names_both id slot i s e = of (same_id i id) (nat_eq s slot) refl refl e
  where
    of : (b c : Bool) → same_id i id ≡ b → nat_eq s slot ≡ c → (b && c) ≡ true → (i ≡ id) × (s ≡ slot)
    of true true x y e = (same_is i id x, eqb-true s slot y)
    of true false x y e = absurd (true_false (sym e))
    of false c x y e = absurd (true_false (sym e))

pub record IsQueued (id : Id) (slot : ℕ) (is : List Item) : Type 0 where
  pub item : Item
  pub there : Contains is item
  pub of_id : item.id ≡ id
  pub of_slot : item.slot ≡ slot

queued_is : (id : Id) (slot : ℕ) (is : List Item) → 1 ≤ queued_as id slot is → IsQueued id slot is
queued_is id slot [] some = absurd (omega (arith, some))
queued_is id slot (i ∷ is) some = by_cases (names_request id slot i.id i.slot)
    (λ x. record { item = i; there = (0, omega arith, refl); of_id = (names_both id slot i.id i.slot x).0; of_slot = (names_both id slot i.id i.slot x).1 })
    (λ x.
    let none : one_if (names_request id slot i.id i.slot) ≡ 0 = ap one_if x in
    let rest : IsQueued id slot is = queued_is id slot is (omega (arith, some, none)) in
    record { item = rest.item; there = contains_behind i is rest.item rest.there; of_id = rest.of_id; of_slot = rest.of_slot })

pub record IsNamed (id : Id) (slot : ℕ) (ns : List Name) : Type 0 where
  pub name : Name
  pub there : Contains ns name
  pub of_id : name.id ≡ id
  pub of_slot : name.slot ≡ slot

named_is : (id : Id) (slot : ℕ) (ns : List Name) → 1 ≤ named_as id slot ns → IsNamed id slot ns
named_is id slot [] some = absurd (omega (arith, some))
named_is id slot (n ∷ ns) some = by_cases (names_request id slot n.id n.slot)
    (λ x. record { name = n; there = (0, omega arith, refl); of_id = (names_both id slot n.id n.slot x).0; of_slot = (names_both id slot n.id n.slot x).1 })
    (λ x.
    let none : one_if (names_request id slot n.id n.slot) ≡ 0 = ap one_if x in
    let rest : IsNamed id slot ns = named_is id slot ns (omega (arith, some, none)) in
    record { name = rest.name; there = contains_behind n ns rest.name rest.there; of_id = rest.of_id; of_slot = rest.of_slot })

asked : ℕ → ℕ → Asked
asked n s = record { context = n; slot = s }

module _ (a : Controller) (m : MachineControl) (flow : IsFlow a) (x : StandsFor a m) where
  -- ---- what stands in a queue or is out may be served

  -- the owner of the key of the context that an id names
  pub record MayServe (id : Id) (slot : ℕ) : Type 0 where
    pub held : Held Record
    pub there : at a.contexts id ≡ Some held
    pub owner : IsOwnedBy held.number (m.controls held.payload.facts.key).owner
    pub may : AllowedOn (rules_of a.settings) (Serve held.payload.facts.key slot) m

  may_serve : (id : Id) (slot : ℕ) → 1 ≤ in_queues a id slot + in_outs a id slot → MayServe id slot
  may_serve id slot some =
      let waits : Bool = waits_for (waits_at a.program (at a.contexts id)) slot in
      let once : in_queues a id slot + (in_outs a id slot + answered_as id slot a.mails.mails) ≡ one_if waits = flow.once id slot in
      let fresh : answered_as id slot a.mails.mails ≡ 0 = omega (arith, some, once, at_most waits) in
      let w : WaitsAt a id slot = waits_there a id slot flow (at_least waits (omega (arith, some, once))) in
      let key : Key = w.held.payload.facts.key in
      let runs : RunsAt a.program a.mails.mails key id w.held w.code (m.controls key).owner =
      runs_at a.program a.mails.mails a.contexts key id w.held w.code w.begun (owner_of a.accounts key) (m.controls key).owner w.owns w.there (x.stands.keys key).owner in
      let it : (q : Request) × (request_at (machine.control_of a.program w.code) slot ≡ Some q) = has_request (machine.control_of a.program w.code) slot w.waits in
      let asks : (q : Request) × (request_at runs.running.control slot ≡ Some q) = (it.0, ap (λ (k : Control). request_at k slot) (sym runs.runs.control) ∙ it.1) in
      let none : runs.running.answers slot ≡ None = sym (runs.runs.answers slot) ∙ unanswered a.mails.mails id slot fresh in
      record {
        held = w.held;
        there = w.there;
        owner = subst (IsOwnedBy w.held.number) (sym runs.owner) (sym runs.stands.number);
        may = (x.settled, subst (OfOwner (StageAsks slot)) (sym runs.owner) (subst (StageAsks slot) (sym runs.stage) (asks, none)));
      }

  unserved_as : (id : Id) (slot shard : ℕ) (s : MayServe id slot) → shard_of a.settings s.held.payload.facts.key ≡ shard → IsUnserved a m shard (asked (number_at a id) slot)
  unfolding asked
  unserved_as id slot shard s e = record {
    key = s.held.payload.facts.key;
    shard = e;
    owner = subst (λ (n : ℕ). IsOwnedBy n (m.controls s.held.payload.facts.key).owner) (sym (ap number_in s.there)) s.owner;
    may = s.may;
  }

  shard_queued : (shard : ℕ) (i : Item) (h : Held Record) (o : Option (Held Record)) → o ≡ Some h → QueuedStands a shard i o → (i.key ≡ h.payload.facts.key) × (shard_of a.settings h.payload.facts.key ≡ shard)
  shard_queued shard i h None e q = absurd q
  shard_queued shard i h (Some g) e q =
      let same : g ≡ h = cc in
      let key : i.key ≡ h.payload.facts.key = q.key ∙ ap (λ (g : Held Record). g.payload.facts.key) same in
      (key, ap (shard_of a.settings) (sym key) ∙ q.shard)

  shard_out : (shard : ℕ) (h : Held Record) (o : Option (Held Record)) → o ≡ Some h → OutStands a shard o → shard_of a.settings h.payload.facts.key ≡ shard
  shard_out shard h None e q = absurd q
  shard_out shard h (Some g) e q = subst (λ (g : Held Record). shard_of a.settings g.payload.facts.key ≡ shard) (some_is g h e) q
    where
      some_is : (g h : Held Record) → Some g ≡ Some h → g ≡ h
      some_is g h e = cc

  pub unserved : (shard : ℕ) (r : Asked) → Contains (requests_in a shard) r → IsUnserved a m shard r
  unfolding asked
  unserved shard r c = elim (Contains-append_cases (queue_in a shard) (sent_in a shard) r c) [
    | inl q ↦
        (let from : IsMapped (asked_by a) (queue_of a.buffer shard) r = is_mapped (asked_by a) (queue_of a.buffer shard) r q in
        let i : Item = from.from in
        let s : MayServe i.id i.slot = may_serve i.id i.slot (omega (arith, in_queues_there a shard i from.there)) in
        subst (IsUnserved a m shard) from.gives (unserved_as i.id i.slot shard s (shard_queued shard i s.held (at a.contexts i.id) s.there (flow.queued shard i from.there)).1))
    | inr o ↦
        (let from : IsMapped (sent_by a) (out_of a shard) r = is_mapped (sent_by a) (out_of a shard) r o in
        let n : Name = from.from in
        let s : MayServe n.id n.slot = may_serve n.id n.slot (omega (arith, in_outs_there a shard n from.there)) in
        subst (IsUnserved a m shard) from.gives (unserved_as n.id n.slot shard s (shard_out shard s.held (at a.contexts n.id) s.there (flow.out shard n from.there))))
  ]

  -- ---- what may be served stands in a queue or is out

  module _ (id : Id) (h : Held Record) (there : at a.contexts id ≡ Some h) (slot : ℕ) where
    -- of the shard of its context's key
    in_shard : 1 ≤ in_queues a id slot + in_outs a id slot → Contains (requests_in a (shard_of a.settings h.payload.facts.key)) (record { context = h.number; slot = slot })
    in_shard some = of (in_queues a id slot) refl
      where
        queued : IsSomewhere (queued_as id slot) a.buffer.queues → Contains (requests_in a (shard_of a.settings h.payload.facts.key)) (record { context = h.number; slot = slot })
        queued p =
            let q : IsQueued id slot (queue_of a.buffer p.place) = queued_is id slot (queue_of a.buffer p.place) p.some in
            let i : Item = q.item in
            let live : at a.contexts i.id ≡ Some h = ap (at a.contexts) q.of_id ∙ there in
            let shard : shard_of a.settings h.payload.facts.key ≡ p.place = (shard_queued p.place i h (at a.contexts i.id) live (flow.queued p.place i q.there)).1 in
            let same : asked_by a i ≡ record { context = h.number; slot = slot } = ap₂ (λ (n s : ℕ). record { context = n; slot = s }) (ap number_in live) q.of_slot in
            subst (λ (s : ℕ). Contains (requests_in a s) (record { context = h.number; slot = slot })) (sym shard)
            (subst (Contains (requests_in a p.place)) same
            (Contains-append_left (queue_in a p.place) (sent_in a p.place) (asked_by a i) (contains_map (asked_by a) (queue_of a.buffer p.place) i q.there)))

        sent : IsSomewhere (named_as id slot) a.outs.items → Contains (requests_in a (shard_of a.settings h.payload.facts.key)) (record { context = h.number; slot = slot })
        sent p =
            let q : IsNamed id slot (out_of a p.place) = named_is id slot (out_of a p.place) p.some in
            let n : Name = q.name in
            let live : at a.contexts n.id ≡ Some h = ap (at a.contexts) q.of_id ∙ there in
            let shard : shard_of a.settings h.payload.facts.key ≡ p.place = shard_out p.place h (at a.contexts n.id) live (flow.out p.place n q.there) in
            let same : sent_by a n ≡ record { context = h.number; slot = slot } = ap₂ (λ (n s : ℕ). record { context = n; slot = s }) (ap number_in live) q.of_slot in
            subst (λ (s : ℕ). Contains (requests_in a s) (record { context = h.number; slot = slot })) (sym shard)
            (subst (Contains (requests_in a p.place)) same
            (Contains-append_right (queue_in a p.place) (sent_in a p.place) (sent_by a n) (contains_map (sent_by a) (out_of a p.place) n q.there)))

        of : (k : ℕ) → in_queues a id slot ≡ k → Contains (requests_in a (shard_of a.settings h.payload.facts.key)) (record { context = h.number; slot = slot })
        of zero e = sent (some_at (named_as id slot) a.outs.items (omega (arith, some, e)))
        of (suc k) e = queued (some_at (queued_as id slot) a.buffer.queues (omega (arith, e)))

    -- a handler that waits for an answer that it wasn't given
    runs_queued : (code : CodeMachine) (r : Running) → h.payload.machine ≡ Some code → IsRunning a.program a.mails.mails id code r → StageAsks slot (Begun r) → 1 ≤ in_queues a id slot + in_outs a id slot
    runs_queued code r begun runs asks =
        let slotted : has slot (slots r.control) ≡ true = slot_asked r.control slot asks.0.0 asks.0.1 in
        let waits : waits_for (waits_at a.program (at a.contexts id)) slot ≡ true =
        ap (λ (o : Option (Held Record)). waits_for (waits_at a.program o) slot) there
        ∙ (ap (λ (o : Option CodeMachine). waits_for (waits_in a.program o) slot) begun
        ∙ (sym (ap (has slot) (slots_waiting (machine.control_of a.program code)))
        ∙ (ap (λ (c : Control). has slot (slots c)) runs.control ∙ slotted))) in
        let none : answered_as id slot a.mails.mails ≡ 0 = no_reply a.mails.mails id slot (runs.answers slot ∙ asks.1) in
        let once : in_queues a id slot + (in_outs a id slot + answered_as id slot a.mails.mails) ≡ 1 = flow.once id slot ∙ ap one_if waits in
        omega (arith, none, once)

    stage_queued : (o : Option CodeMachine) (stage : Stage) → h.payload.machine ≡ o → StageStands a.program a.mails.mails id o stage → StageAsks slot stage → 1 ≤ in_queues a id slot + in_outs a id slot
    stage_queued o Unbegun e s asks = absurd asks
    stage_queued None (Begun r) e s asks = absurd s
    stage_queued (Some code) (Begun r) e s asks = runs_queued code r e s asks

    held_queued : (key : Key) (c : Context) → IsContext a.program a.mails.mails key id h c → StageAsks slot c.stage → IsQueuedOrOut a key slot (Some c)
    held_queued key c s asks =
        subst (λ (k : Key). Contains (requests_in a (shard_of a.settings k)) (record { context = c.number; slot = slot })) s.job.key
        (subst (λ (n : ℕ). Contains (requests_in a (shard_of a.settings h.payload.facts.key)) (record { context = n; slot = slot })) s.number
        (in_shard (stage_queued h.payload.machine c.stage refl s.stage asks)))

  owner_queued : (key : Key) (slot : ℕ) (o : Option Id) (c : Option Context) → OwnerStands a.program a.mails.mails a.contexts key o c → OfOwner (StageAsks slot) c → IsQueuedOrOut a key slot c
  owner_queued key slot None None s asks = absurd asks
  owner_queued key slot None (Some c) s asks = absurd s
  owner_queued key slot (Some id) None s asks = absurd asks
  owner_queued key slot (Some id) (Some c) s asks = of (at a.contexts id) refl s
    where
      of : (o : Option (Held Record)) → at a.contexts id ≡ o → ContextStands a.program a.mails.mails key id o c → IsQueuedOrOut a key slot (Some c)
      of None e s = absurd s
      of (Some h) e s = held_queued id h e slot key c s asks

  pub queued_or_out : (key : Key) (slot : ℕ) → AllowedOn (rules_of a.settings) (Serve key slot) m → IsQueuedOrOut a key slot (m.controls key).owner
  queued_or_out key slot may = owner_queued key slot (owner_of a.accounts key) (m.controls key).owner (x.stands.keys key).owner may.1

  pub stands_there : (shard : ℕ) (r : Asked) → IsUnserved a m shard r → Contains (requests_in a shard) r
  stands_there shard r u = of (m.controls u.key).owner u.owner (queued_or_out u.key r.slot u.may)
    where
      of : (c : Option Context) → IsOwnedBy r.context c → IsQueuedOrOut a u.key r.slot c → Contains (requests_in a shard) r
      of None n q = absurd q
      of (Some c) n q =
          subst (λ (s : ℕ). Contains (requests_in a s) r) u.shard
          (subst (λ (k : ℕ). Contains (requests_in a (shard_of a.settings u.key)) (record { context = k; slot = r.slot })) n q)

  -- ---- no two keys are owned by contexts of one number

  pub record OwnedBy (key : Key) (n : ℕ) : Type 0 where
    pub id : Id
    pub held : Held Record
    pub there : at a.contexts id ≡ Some held
    pub number : held.number ≡ n
    pub of_key : held.payload.facts.key ≡ key

  owned_by : (key : Key) (n : ℕ) (o : Option Id) (c : Option Context) → OwnerStands a.program a.mails.mails a.contexts key o c → IsOwnedBy n c → OwnedBy key n
  owned_by key n None None s e = absurd e
  owned_by key n None (Some c) s e = absurd s
  owned_by key n (Some id) None s e = absurd s
  owned_by key n (Some id) (Some c) s e = of (at a.contexts id) refl s
    where
      of : (o : Option (Held Record)) → at a.contexts id ≡ o → ContextStands a.program a.mails.mails key id o c → OwnedBy key n
      of None f s = absurd s
      of (Some h) f s = record { id = id; held = h; there = f; number = s.number ∙ e; of_key = s.job.key }

  module _ (differ : NumbersDiffer a.contexts) where
    pub one_key : (one two : Key) (n : ℕ) → IsOwnedBy n (m.controls one).owner → IsOwnedBy n (m.controls two).owner → one ≡ two
    one_key one two n e f =
        let g : OwnedBy one n = owned_by one n (owner_of a.accounts one) (m.controls one).owner (x.stands.keys one).owner e in
        let h : OwnedBy two n = owned_by two n (owner_of a.accounts two) (m.controls two).owner (x.stands.keys two).owner f in
        let ids : g.id ≡ h.id = differ g.id h.id g.held h.held g.there h.there (g.number ∙ sym h.number) in
        let both : Some g.held ≡ Some h.held = sym g.there ∙ (ap (at a.contexts) ids ∙ h.there) in
        let held : g.held ≡ h.held = cc in
        sym g.of_key ∙ (ap (λ (h : Held Record). h.payload.facts.key) held ∙ h.of_key)

    pub allowed_where : (key : Key) (slot : ℕ) → IsQueuedOrOut a key slot (m.controls key).owner → AllowedOn (rules_of a.settings) (Serve key slot) m
    allowed_where key slot q = of (m.controls key).owner refl q
      where
        of : (c : Option Context) → (m.controls key).owner ≡ c → IsQueuedOrOut a key slot c → AllowedOn (rules_of a.settings) (Serve key slot) m
        of None e q = absurd q
        of (Some c) e q =
            let u : IsUnserved a m (shard_of a.settings key) (record { context = c.number; slot = slot }) = unserved (shard_of a.settings key) (record { context = c.number; slot = slot }) q in
            let same : u.key ≡ key = one_key u.key key c.number u.owner (subst (IsOwnedBy c.number) (sym e) refl) in
            subst (λ (k : Key). AllowedOn (rules_of a.settings) (Serve k slot) m) same u.may

-- ---- each stands once

times_append : (r : Asked) (xs ys : List Asked) → times same_asked r (xs ++ ys) ≡ times same_asked r xs + times same_asked r ys
times_append r [] ys = omega arith
times_append r (x ∷ xs) ys = omega (arith, times_append r xs ys)

pub same_itself : (r : Asked) → same_asked r r ≡ true
same_itself r = rw (eq-eqb r.context r.context refl) (eq-eqb r.slot r.slot refl)

asked_both : (r q : Asked) → same_asked r q ≡ true → (r.context ≡ q.context) × (r.slot ≡ q.slot)
asked_both r q e = of (nat_eq r.context q.context) (nat_eq r.slot q.slot) refl refl e
  where
    of : (b c : Bool) → nat_eq r.context q.context ≡ b → nat_eq r.slot q.slot ≡ c → (b && c) ≡ true → (r.context ≡ q.context) × (r.slot ≡ q.slot)
    of true true x y e = (eqb-true r.context q.context x, eqb-true r.slot q.slot y)
    of true false x y e = absurd (true_false (sym e))
    of false c x y e = absurd (true_false (sym e))

pub same_is_one : (r q : Asked) → same_asked r q ≡ true → r ≡ q
same_is_one r q e = ap₂ (λ (n s : ℕ). record { context = n; slot = s }) (asked_both r q e).0 (asked_both r q e).1

-- what so many of some lists count, the first first
abbrev first_total : {X : Type 0} → (List X → ℕ) → List (List X) → ℕ → ℕ
first_total f xss zero = 0
first_total f xss (suc n) = f (get_or xss n []) + first_total f xss n

first_none : {X : Type 0} (f : List X → ℕ) → f [] ≡ 0 → (n : ℕ) → first_total f [] n ≡ 0
first_none f none zero = refl
first_none f none (suc n) = omega (arith, none, first_none f none n)

first_more : {X : Type 0} (f : List X → ℕ) (xs : List X) (xss : List (List X)) (n : ℕ) → first_total f (xs ∷ xss) (suc n) ≡ f xs + first_total f xss n
first_more f xs xss zero = refl
first_more f xs xss (suc n) = omega (arith, first_more f xs xss n)

first_of_all : {X : Type 0} (f : List X → ℕ) → f [] ≡ 0 → (xss : List (List X)) (n : ℕ) → first_total f xss n ≤ total f xss
first_of_all f none [] n = omega (arith, first_none f none n)
first_of_all f none (xs ∷ xss) zero = omega arith
first_of_all f none (xs ∷ xss) (suc n) = omega (arith, first_more f xs xss n, first_of_all f none xss n)

module _ (a : Controller) (flow : IsFlow a) (differ : NumbersDiffer a.contexts) (r : Asked) where
  -- the context that has the number
  record Numbered : Type 0 where
    pub id : Id
    pub held : Held Record
    pub there : at a.contexts id ≡ Some held
    pub number : held.number ≡ r.context

  numbered : (id : Id) → (at a.contexts id ≡ None → ⊥) → number_at a id ≡ r.context → Numbered
  numbered id live e = of (at a.contexts id) refl e
    where
      of : (o : Option (Held Record)) → at a.contexts id ≡ o → number_in o ≡ r.context → Numbered
      of None f e = absurd (live f)
      of (Some h) f e = record { id = id; held = h; there = f; number = e }

  numbered_in : (shard : ℕ) → Contains (requests_in a shard) r → Numbered
  numbered_in shard c = elim (Contains-append_cases (queue_in a shard) (sent_in a shard) r c) [
    | inl q ↦
        (let from : IsMapped (asked_by a) (queue_of a.buffer shard) r = is_mapped (asked_by a) (queue_of a.buffer shard) r q in
        numbered from.from.id (item_live a shard from.from flow from.there) (ap (λ (q : Asked). q.context) from.gives))
    | inr o ↦
        (let from : IsMapped (sent_by a) (out_of a shard) r = is_mapped (sent_by a) (out_of a shard) r o in
        numbered from.from.id (out_live a shard (at a.contexts from.from.id) (flow.out shard from.from from.there)) (ap (λ (q : Asked). q.context) from.gives))
  ]

  numbered_below : (n : ℕ) → Contains (requests_below a n) r → Numbered
  numbered_below zero c = absurd (contains_none r c)
  numbered_below (suc n) c = elim (Contains-append_cases (requests_in a n) (requests_below a n) r c) [
    | inl d ↦ numbered_in n d
    | inr d ↦ numbered_below n d
  ]

  module _ (it : Numbered) where
    one_named : (i : Id) (s : ℕ) → (at a.contexts i ≡ None → ⊥) → one_if (same_asked r (record { context = number_at a i; slot = s })) ≤ one_if (names_request it.id r.slot i s)
    one_named i s live = by_cases (same_asked r (record { context = number_at a i; slot = s }))
        (λ e.
        let both : (r.context ≡ number_at a i) × (r.slot ≡ s) = asked_both r (record { context = number_at a i; slot = s }) e in
        let same : i ≡ it.id = of (at a.contexts i) refl (sym both.0) in
        let named : names_request it.id r.slot i s ≡ true = subst (λ (j : Id). names_request it.id r.slot j s ≡ true) (sym same) (subst (λ (t : ℕ). names_request it.id r.slot it.id t ≡ true) both.1 (names_itself it.id r.slot)) in
        omega (arith, ap one_if e, ap one_if named))
        (λ e. omega (arith, ap one_if e))
      where
        of : (o : Option (Held Record)) → at a.contexts i ≡ o → number_in o ≡ r.context → i ≡ it.id
        of None f e = absurd (live f)
        of (Some h) f e = differ i it.id h it.held f it.there (e ∙ sym it.number)

    times_queued : (is : List Item) → ((i : Item) → Contains is i → at a.contexts i.id ≡ None → ⊥) → times same_asked r (map (asked_by a) is) ≤ queued_as it.id r.slot is
    times_queued [] live = omega arith
    times_queued (i ∷ is) live = omega (arith, one_named i.id i.slot (live i (0, omega arith, refl)), times_queued is (λ j c. live j (contains_behind i is j c)))

    times_out : (ns : List Name) → ((n : Name) → Contains ns n → at a.contexts n.id ≡ None → ⊥) → times same_asked r (map (sent_by a) ns) ≤ named_as it.id r.slot ns
    times_out [] live = omega arith
    times_out (n ∷ ns) live = omega (arith, one_named n.id n.slot (live n (0, omega arith, refl)), times_out ns (λ o c. live o (contains_behind n ns o c)))

    times_in : (shard : ℕ) → times same_asked r (requests_in a shard) ≤ queued_as it.id r.slot (queue_of a.buffer shard) + named_as it.id r.slot (out_of a shard)
    times_in shard = omega (
      arith,
      times_append r (queue_in a shard) (sent_in a shard),
      times_queued (queue_of a.buffer shard) (λ i c. item_live a shard i flow c),
      times_out (out_of a shard) (λ n c. out_live a shard (at a.contexts n.id) (flow.out shard n c)),
    )

    times_below : (n : ℕ) → times same_asked r (requests_below a n) ≤ first_total (queued_as it.id r.slot) a.buffer.queues n + first_total (named_as it.id r.slot) a.outs.items n
    times_below zero = omega arith
    times_below (suc n) = omega (arith, times_append r (requests_in a n) (requests_below a n), times_in n, times_below n)

    times_all : times same_asked r (all_requests a) ≤ 1
    times_all = omega (
      arith,
      times_below a.settings.shards,
      first_of_all (queued_as it.id r.slot) refl a.buffer.queues a.settings.shards,
      first_of_all (named_as it.id r.slot) refl a.outs.items a.settings.shards,
      flow.once it.id r.slot,
      at_most (waits_for (waits_at a.program (at a.contexts it.id)) r.slot),
    )

  times_once : times same_asked r (all_requests a) ≤ 1
  times_once = of (times same_asked r (all_requests a)) refl
    where
      of : (n : ℕ) → times same_asked r (all_requests a) ≡ n → times same_asked r (all_requests a) ≤ 1
      of zero e = omega (arith, e)
      of (suc n) e = times_all (numbered_below a.settings.shards (times_there same_asked same_is_one r (all_requests a) (omega (arith, e))))

pub requests_once : (a : Controller) → IsFlow a → NumbersDiffer a.contexts → IsDistinct same_asked (all_requests a)
requests_once a flow differ = distinct_where same_asked same_itself (all_requests a) (λ r. times_once a flow differ r)
