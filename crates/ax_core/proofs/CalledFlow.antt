-- The flow of the requests behind a callback: each that waits stands once on its way, and each owner that hasn't begun is started once.
use Rattle.std.proofs.Common.{◌≡◌, ◌≢◌, ℕ, ◌+◌, ◌≤◌, ◌<◌, Bool, true, false, ◌&&◌, List, [], ◌∷◌, ◌++◌, length, get_or, Option, Some, None, is_none, refl, sym, ap, ap₂, ◌∙◌, subst, inl, inr, Contains, arith}
use Rattle.std.proofs.lemmas.List.Elements.{Contains-append_cases}
use Rattle.ax_text.specs.declared.vocabulary.Request.{Request}
use Rattle.ax_text.specs.Controls.{Ask' as Asked}
use Rattle.ax_future.specs.declared.callback.Ask.{Ask}
use Rattle.ax_future.specs.declared.machine.Machine.{Machine}
use Rattle.ax_future.specs.Talks.{asks_in}
use Rattle.ax_machine.specs.Entries.{Key}
use Rattle.ax_buffer.specs.declared.items.Item.{Item}
use Rattle.ax_buffer.specs.Buffer.{queue_of}
use Rattle.ax_buffer.proofs.ListLemmas.{at_set}
use Rattle.ax_context.specs.declared.id.Id.{Id}
use Rattle.ax_context.specs.declared.contexts.Context.{Context as Held}
use Rattle.ax_context.specs.Slots.{at, OthersStay}
use Rattle.ax_account.specs.declared.part.Next.{Next}
use Rattle.ax_account.specs.Accounts.{owner_of}
use Rattle.ax_mailbox.specs.declared.mail.Mail.{Mail}
use Rattle.ax_execution.proofs.Upto.{by_cases}
use Rattle.ax_core.specs.declared.record.Record.{Record}
use Rattle.ax_core.specs.declared.record.Name.{Name}
use Rattle.ax_core.specs.declared.controller.Controller.{Controller}
use Rattle.ax_core.specs.Contexts.{same_id, waits_at}
use Rattle.ax_core.specs.Flow.{shard_of, one_if, answers_as, answered_as, starts_as, started_as, in_queues, in_outs, waits_for, is_owner, is_to_start, OwnsBegun, OwnsOnceBegun, QueuedStands, OutStands, out_of, IsFlow}
use Rattle.ax_core.specs.Callbacks.{items_for, IsQueued, with_start}
use Rattle.ax_core.specs.Events.{key_in, KeysStay}
use Rattle.ax_core.specs.Order.{number_at}
use Rattle.ax_core.proofs.AskLemmas.{shards_stay}
use Rattle.ax_core.proofs.CalledLemmas.{others_queued, same_outs, post_answered}
use Rattle.ax_core.proofs.Flows.{same_self, same_is, other_ids}
use Rattle.ax_core.proofs.Forgotten.{in_outs_there}
use Rattle.ax_core.proofs.Frames.{KeyIn}
use Rattle.ax_core.proofs.Owners.{in_queues_there}
use Rattle.ax_core.proofs.Replaced.{IsOfAsks, of_asks, contains_none}
use Rattle.ax_core.proofs.StartLemmas.{next_is, IsUnbegunOf, starts_others, starts_own}

true_false : true ≡ false → ⊥
true_false e = cc e

-- a handler waits for these, and its context owns its key
pub record WaitsFor (a : Controller) (id : Id) (key : Key) (xs : List Asked) (h : Held Record) : Type 0 where
  pub named : h.payload.facts.key ≡ key
  pub begun : is_none h.payload.machine ≡ false
  pub waits : waits_at a.program (Some h) ≡ xs
  pub owner : owner_of a.accounts key ≡ Some id

-- or nothing is left of the context, and nothing waits
abbrev pub Left : Controller → Id → Key → List Asked → Option (Held Record) → Type 0
Left a id key xs None = xs ≡ []
Left a id key xs (Some h) = WaitsFor a id key xs h

left_waits : (a : Controller) (id : Id) (key : Key) (xs : List Asked) (o : Option (Held Record)) → Left a id key xs o → waits_at a.program o ≡ xs
left_waits a id key xs None h = sym h
left_waits a id key xs (Some x) h = h.waits

left_begun : (a : Controller) (id : Id) (key : Key) (xs : List Asked) (o : Option (Held Record)) → Left a id key xs o → is_to_start a id o ≡ false
left_begun a id key xs None h = refl
left_begun a id key xs (Some x) h = ap (λ (b : Bool). b && is_owner id (owner_of a.accounts x.payload.facts.key)) h.begun

left_owns : (a : Controller) (id : Id) (key : Key) (xs : List Asked) (o : Option (Held Record)) → Left a id key xs o → OwnsOnceBegun a id o
left_owns a id key xs None h = tt
left_owns a id key xs (Some x) h = of x.payload.machine
  where
    of : (m : Option Machine) → OwnsBegun a id m x.payload.facts.key
    of None = tt
    of (Some m) = ap (owner_of a.accounts) h.named ∙ h.owner

-- a mail was taken and its callback has ended: its requests are queued, its context waits on or is given up, and the next of its key, if a row, is to be started
pub record FlowsOn (old new : Controller) (id : Id) (key : Key) (asks : List Ask) (n : Next) (m : Mail) (ns : List Mail) (was xs : List Asked) : Type 0 where
  pub named : KeyIn key (at old.contexts id)
  pub owned : owner_of old.accounts key ≡ Some id
  pub waited : waits_at old.program (at old.contexts id) ≡ was
  pub left : Left new id key xs (at new.contexts id)
  pub number : (at new.contexts id ≡ None → ⊥) → number_at new id ≡ number_at old id
  pub others : OthersStay old.contexts new.contexts id
  pub program : new.program ≡ old.program
  pub settings : new.settings ≡ old.settings
  pub outs : new.outs ≡ old.outs
  pub inside : shard_of old.settings key < length old.buffer.queues
  pub queued : IsQueued old.buffer new.buffer (shard_of old.settings key) (items_for id key asks)
  pub asked : (a : Asked) → Contains (asks_in asks) a → Contains xs a
  pub waits : (s : ℕ) (q : Request) → 1 ≤ in_queues old id s → Contains was (record { slot = s; request = q }) → Contains xs (record { slot = s; request = q })
  pub taken : old.mails.mails ≡ m ∷ ns
  pub posted : new.mails.mails ≡ with_start n ns
  pub starts : (i : Id) → same_id id i ≡ false → starts_as i m ≡ 0
  pub answers : (i : Id) (s : ℕ) → same_id id i ≡ false → answers_as i s m ≡ 0
  pub started : started_as id ns ≡ 0
  pub owners : (q : Key) → q ≢ key → owner_of new.accounts q ≡ owner_of old.accounts q
  pub owner : (i : Id) → same_id id i ≡ false → is_owner i (owner_of new.accounts key) ≡ next_is i n
  pub next : (i : Id) → next_is i n ≡ true → (same_id id i ≡ false) × IsUnbegunOf key (at old.contexts i)
  pub once : (s : ℕ) → in_queues new id s + (in_outs new id s + answered_as id s new.mails.mails) ≡ one_if (waits_for (waits_at new.program (at new.contexts id)) s)

module _ (old new : Controller) (id : Id) (key : Key) (asks : List Ask) (n : Next) (m : Mail) (ns : List Mail) (was xs : List Asked) (flow : IsFlow old) (h : FlowsOn old new id key asks n m ns was xs) where
  shard : ℕ
  shard = shard_of old.settings key

  -- ---- each request once

  once_beside : (i : Id) (s : ℕ) → same_id id i ≡ false → in_queues new i s + (in_outs new i s + answered_as i s new.mails.mails) ≡ one_if (waits_for (waits_at new.program (at new.contexts i)) s)
  once_beside i s differ =
      let none : answered_as i s ns ≡ answered_as i s (m ∷ ns) = none_more (answers_as i s m) (answered_as i s ns) (h.answers i s differ) in
      let same : answered_as i s new.mails.mails ≡ answered_as i s old.mails.mails = ap (answered_as i s) h.posted ∙ post_answered n ns i s ∙ none ∙ sym (ap (answered_as i s) h.taken) in
      ap₂ (λ (x y : ℕ). x + y) (others_queued old new id key (shard_of old.settings key) asks h.inside h.queued h.outs i s differ)
      (ap₂ (λ (x y : ℕ). x + y) (same_outs old new id key (shard_of old.settings key) asks h.inside h.queued h.outs i s) same)
      ∙ flow.once i s ∙ sym (λ j. one_if (waits_for (waits_at (h.program j) (h.others i (other_ids id i differ) j)) s))
    where
      none_more : (a b : ℕ) → a ≡ 0 → b ≡ a + b
      none_more a b e = omega (arith, e)

  once_all : (i : Id) (s : ℕ) → in_queues new i s + (in_outs new i s + answered_as i s new.mails.mails) ≡ one_if (waits_for (waits_at new.program (at new.contexts i)) s)
  once_all i s = by_cases (same_id id i)
      (λ x. subst (λ (j : Id). in_queues new j s + (in_outs new j s + answered_as j s new.mails.mails) ≡ one_if (waits_for (waits_at new.program (at new.contexts j)) s)) (same_is id i x) (h.once s))
      (λ x. once_beside i s x)

  -- ---- each start once

  starts_all : (i : Id) → started_as i new.mails.mails ≡ one_if (is_to_start new i (at new.contexts i))
  starts_all i = by_cases (same_id id i)
      (λ x. subst (λ (j : Id). started_as j new.mails.mails ≡ one_if (is_to_start new j (at new.contexts j))) (same_is id i x) own)
      (λ x. starts_others old new id key i x n h.owned (h.owner i x) h.owners m ns h.taken h.posted (h.starts i x) (h.others i (other_ids id i x)) (λ e. (h.next i e).1) (flow.starts i))
    where
      not_next : next_is id n ≡ false
      not_next = by_cases (next_is id n) (λ e. absurd (true_false (sym (same_self id) ∙ (h.next id e).0))) (λ e. e)

      own : started_as id new.mails.mails ≡ one_if (is_to_start new id (at new.contexts id))
      own = ap (started_as id) h.posted ∙ starts_own n ns id h.started not_next ∙ sym (ap one_if (left_begun new id key xs (at new.contexts id) h.left))

  -- ---- who owns its key

  not_own : (i : Id) → same_id id i ≡ false → (k : Key) → owner_of old.accounts k ≡ Some i → k ≢ key
  not_own i differ k owns e = true_false (sym (subst (λ (o : Option Id). is_owner i o ≡ true) (sym owns ∙ ap (owner_of old.accounts) e ∙ h.owned) (same_self i)) ∙ differ)

  begun_beside : (i : Id) → same_id id i ≡ false → (o : Option (Held Record)) → OwnsOnceBegun old i o → OwnsOnceBegun new i o
  begun_beside i differ None x = tt
  begun_beside i differ (Some y) x = of y.payload.machine y.payload.facts.key x
    where
      of : (c : Option Machine) (k : Key) → OwnsBegun old i c k → OwnsBegun new i c k
      of None k x = tt
      of (Some c) k x = h.owners k (not_own i differ k x) ∙ x

  begun_all : (i : Id) → OwnsOnceBegun new i (at new.contexts i)
  begun_all i = by_cases (same_id id i)
      (λ x. subst (λ (j : Id). OwnsOnceBegun new j (at new.contexts j)) (same_is id i x) (left_owns new id key xs (at new.contexts id) h.left))
      (λ x. subst (λ (o : Option (Held Record)). OwnsOnceBegun new i o) (sym (h.others i (other_ids id i x))) (begun_beside i x (at old.contexts i) (flow.begun i)))

  -- ---- what stands in the queues

  own_queued : (place : ℕ) (i : Item) → 1 ≤ in_queues old id i.slot → (o p : Option (Held Record)) → waits_at old.program o ≡ was → KeyIn key o → Left new id key xs p
      → QueuedStands old place i o → QueuedStands new place i p
  own_queued place i some None p waits named left x = absurd x
  own_queued place i some (Some a) p waits named left x = of p left
    where
      there : Contains xs (record { slot = i.slot; request = i.request })
      there = h.waits i.slot i.request some (subst (λ (ys : List Asked). Contains ys (record { slot = i.slot; request = i.request })) waits x.waits)

      of : (p : Option (Held Record)) → Left new id key xs p → QueuedStands new place i p
      of None none = absurd (contains_none (record { slot = i.slot; request = i.request }) (subst (λ (ys : List Asked). Contains ys (record { slot = i.slot; request = i.request })) none there))
      of (Some b) y = record {
        key = x.key ∙ named ∙ sym y.named;
        shard = (λ j. shard_of (h.settings j) i.key) ∙ x.shard;
        waits = subst (λ (ys : List Asked). Contains ys (record { slot = i.slot; request = i.request })) (sym y.waits) there;
      }

  other_queued : (place : ℕ) (i : Item) (o : Option (Held Record)) → QueuedStands old place i o → QueuedStands new place i o
  other_queued place i None x = absurd x
  other_queued place i (Some a) x = record {
    key = x.key;
    shard = (λ j. shard_of (h.settings j) i.key) ∙ x.shard;
    waits = subst (λ (ys : List Asked). Contains ys (record { slot = i.slot; request = i.request })) (sym (λ j. waits_at (h.program j) (Some a))) x.waits;
  }

  was_queued : (place : ℕ) (i : Item) → Contains (queue_of old.buffer place) i → QueuedStands new place i (at new.contexts i.id)
  was_queued place i c = by_cases (same_id id i.id)
      (λ x.
      let it : id ≡ i.id = same_is id i.id x in
      let some : 1 ≤ in_queues old id i.slot = subst (λ (j : Id). 1 ≤ in_queues old j i.slot) (sym it) (in_queues_there old place i c) in
      let stands : QueuedStands old place i (at old.contexts id) = subst (λ (j : Id). QueuedStands old place i (at old.contexts j)) (sym it) (flow.queued place i c) in
      subst (λ (j : Id). QueuedStands new place i (at new.contexts j)) it (own_queued place i some (at old.contexts id) (at new.contexts id) h.waited h.named h.left stands))
      (λ x. subst (λ (o : Option (Held Record)). QueuedStands new place i o) (sym (h.others i.id (other_ids id i.id x))) (other_queued place i (at old.contexts i.id) (flow.queued place i c)))

  new_queued : (i : Item) → IsOfAsks id key asks i → QueuedStands new (shard_of old.settings key) i (at new.contexts i.id)
  new_queued i it = subst (λ (j : Id). QueuedStands new (shard_of old.settings key) i (at new.contexts j)) (sym it.of_id) (of (at new.contexts id) h.left)
    where
      there : Contains xs (record { slot = i.slot; request = i.request })
      there = h.asked (record { slot = i.slot; request = i.request }) it.asked

      of : (p : Option (Held Record)) → Left new id key xs p → QueuedStands new (shard_of old.settings key) i p
      of None none = absurd (contains_none (record { slot = i.slot; request = i.request }) (subst (λ (ys : List Asked). Contains ys (record { slot = i.slot; request = i.request })) none there))
      of (Some b) y = record {
        key = it.of_key ∙ sym y.named;
        shard = λ j. shard_of (h.settings j) (it.of_key j);
        waits = subst (λ (ys : List Asked). Contains ys (record { slot = i.slot; request = i.request })) (sym y.waits) there;
      }

  queued_all : (place : ℕ) (i : Item) → Contains (queue_of new.buffer place) i → QueuedStands new place i (at new.contexts i.id)
  queued_all place i c = elim (at_set old.buffer.queues (shard_of old.settings key) place (queue_of old.buffer (shard_of old.settings key) ++ items_for id key asks) [] h.inside) [
    | inl x ↦
        let now : queue_of new.buffer place ≡ queue_of old.buffer (shard_of old.settings key) ++ items_for id key asks = ap (λ (qs : List (List Item)). get_or qs place []) h.queued.queues ∙ x.1 in
        subst (λ (s : ℕ). QueuedStands new s i (at new.contexts i.id)) (sym x.0)
        (elim (Contains-append_cases (queue_of old.buffer (shard_of old.settings key)) (items_for id key asks) i (subst (λ (is : List Item). Contains is i) now c)) [
          | inl y ↦ was_queued (shard_of old.settings key) i y
          | inr y ↦ new_queued i (of_asks id key asks i y)
        ])
    | inr x ↦ was_queued place i (subst (λ (is : List Item). Contains is i) (ap (λ (qs : List (List Item)). get_or qs place []) h.queued.queues ∙ x.1) c)
  ]

  -- ---- what is out

  own_out : (place s : ℕ) → 1 ≤ in_outs new id s → (o p : Option (Held Record)) → waits_at new.program p ≡ waits_at new.program (at new.contexts id) → KeyIn key o → Left new id key xs p → OutStands old place o → OutStands new place p
  own_out place s some None p same named left x = absurd x
  own_out place s some (Some a) None same named left x =
      let none : one_if (waits_for (waits_at new.program (at new.contexts id)) s) ≡ 0 = ap (λ (ys : List Asked). one_if (waits_for ys s)) (sym same) in
      absurd (omega (arith, some, none, h.once s))
  own_out place s some (Some a) (Some b) same named left x = (λ j. shard_of (h.settings j) ((left.named ∙ sym named) j)) ∙ x

  other_out : (place : ℕ) (o : Option (Held Record)) → OutStands old place o → OutStands new place o
  other_out place None x = absurd x
  other_out place (Some a) x = (λ j. shard_of (h.settings j) a.payload.facts.key) ∙ x

  out_all : (place : ℕ) (name : Name) → Contains (out_of new place) name → OutStands new place (at new.contexts name.id)
  out_all place name c =
      let was : Contains (out_of old place) name = subst (λ (ns : List Name). Contains ns name) (λ j. get_or (h.outs j).items place []) c in
      by_cases (same_id id name.id)
      (λ x.
      let it : id ≡ name.id = same_is id name.id x in
      let some : 1 ≤ in_outs new id name.slot = subst (λ (j : Id). 1 ≤ in_outs new j name.slot) (sym it) (in_outs_there new place name c) in
      let stands : OutStands old place (at old.contexts id) = subst (λ (j : Id). OutStands old place (at old.contexts j)) (sym it) (flow.out place name was) in
      subst (λ (j : Id). OutStands new place (at new.contexts j)) it (own_out place name.slot some (at old.contexts id) (at new.contexts id) refl h.named h.left stands))
      (λ x. subst (λ (o : Option (Held Record)). OutStands new place o) (sym (h.others name.id (other_ids id name.id x))) (other_out place (at old.contexts name.id) (flow.out place name was)))

  -- each request that is out is of its key still
  own_key : (s : ℕ) → 1 ≤ in_outs new id s → (o p : Option (Held Record)) → waits_at new.program p ≡ waits_at new.program (at new.contexts id) → KeyIn key o → Left new id key xs p → key_in p ≡ key_in o
  own_key s some None p same named left = absurd named
  own_key s some (Some a) None same named left =
      let none : one_if (waits_for (waits_at new.program (at new.contexts id)) s) ≡ 0 = ap (λ (ys : List Asked). one_if (waits_for ys s)) (sym same) in
      absurd (omega (arith, some, none, h.once s))
  own_key s some (Some a) (Some b) same named left = left.named ∙ sym named

  pub keys_on : KeysStay old new
  keys_on place name c = by_cases (same_id id name.id)
      (λ x.
      let it : id ≡ name.id = same_is id name.id x in
      let some : 1 ≤ in_outs new id name.slot =
      subst (λ (n : ℕ). 1 ≤ n) (sym (same_outs old new id key (shard_of old.settings key) asks h.inside h.queued h.outs id name.slot)) (subst (λ (j : Id). 1 ≤ in_outs old j name.slot) (sym it) (in_outs_there old place name c)) in
      subst (λ (j : Id). key_in (at new.contexts j) ≡ key_in (at old.contexts j)) it (own_key name.slot some (at old.contexts id) (at new.contexts id) refl h.named h.left))
      (λ x. ap key_in (h.others name.id (other_ids id name.id x)))

  -- ---- all of it

  pub flow_on : IsFlow new
  flow_on = record {
    once = once_all;
    starts = starts_all;
    begun = begun_all;
    queued = queued_all;
    out = out_all;
    shards = (
      shards_stay old.buffer new.buffer (shard_of old.settings key) (items_for id key asks) h.queued ∙ flow.shards.0 ∙ sym (λ j. (h.settings j).shards),
      (λ j. length (h.outs j).items) ∙ flow.shards.1 ∙ sym (λ j. (h.settings j).shards),
    );
  }
