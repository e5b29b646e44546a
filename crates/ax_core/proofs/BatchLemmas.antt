-- Requests that go out: the front of a queue is out, and nothing else changes.
use Rattle.std.proofs.Common.{◌≡◌, ℕ, zero, suc, ◌+◌, ◌≤◌, ◌<◌, Bool, true, false, List, [], ◌∷◌, ◌++◌, length, get_or, set, take, drop, refl, sym, ap, ◌∙◌, subst, inl, inr, Option, Some, None, Contains, length-set, arith}
use Rattle.std.proofs.lemmas.List.{take-append-drop}
use Rattle.std.proofs.lemmas.List.Elements.{Contains-append_left, Contains-append_right, Contains-append_cases}
use Rattle.ax_text.specs.Controls.{Control, request_at}
use Rattle.ax_future.specs.declared.machine.Machine.{Machine as CodeMachine}
use Rattle.ax_future.specs.Machines as machine
use Rattle.ax_buffer.specs.declared.items.Item.{Item}
use Rattle.ax_buffer.specs.Buffer.{queue_of, total}
use Rattle.ax_buffer.proofs.ListLemmas.{at_set}
use Rattle.ax_context.specs.declared.id.Id.{Id}
use Rattle.ax_context.specs.declared.contexts.Context.{Context as Held}
use Rattle.ax_context.specs.Slots.{at}
use Rattle.ax_account.specs.Accounts.{owner_of, part_of}
use Rattle.ax_execution.specs.MachineControls.{MachineControl}
use Rattle.ax_core.specs.declared.record.Record.{Record}
use Rattle.ax_core.specs.declared.record.Name.{Name}
use Rattle.ax_core.specs.declared.controller.Controller.{Controller}
use Rattle.ax_core.specs.Contexts.{waits_in, waits_at}
use Rattle.ax_core.specs.Flow.{shard_of, one_if, queued_as, named_as, answered_as, in_queues, in_outs, waits_for, OwnsBegun, OwnsOnceBegun, IsAsked, QueuedStands, OutStands, out_of, IsFlow, on_the_way}
use Rattle.ax_core.specs.Stands.{Stands}
use Rattle.ax_core.specs.Sound.{StandsFor, IsSound}
use Rattle.ax_core.specs.Events.{SameRules, StageAsksIt, OwnerAsks, Asks, AsksAll, names_in, AreOut, key_in, OfKeys}
use Rattle.ax_core.proofs.Counting.{named_names, queues_taken, outs_named, outs_longer, of_names, length_names}
use Rattle.ax_core.proofs.Waits.{waits_here}
use Rattle.ax_core.proofs.Owners.{runs_at, unanswered, in_queues_there}

at_most : (b : Bool) → one_if b ≤ 1
at_most true = omega arith
at_most false = omega arith

pub same_at : {X : Type 0} (xs : List X) (i : ℕ) (d e : X) → i < length xs → get_or xs i d ≡ get_or xs i e
same_at [] i d e h = absurd (omega arith)
same_at (x ∷ xs) zero d e h = refl
same_at (x ∷ xs) (suc i) d e h = same_at xs i d e (omega arith)

-- what is put back at a shard
pub outs_put : (outs : List (List Name)) (s : ℕ) (old new : List Name) (batch is : List Item) → s < length outs → old ≡ get_or outs s old → new ≡ old ++ names_in batch → batch ≡ is
    → set outs s new ≡ set outs s (get_or outs s [] ++ names_in is)
outs_put outs s old new batch is there o n b =
    ap (set outs s) (n ∙ (ap (λ (ns : List Name). ns ++ names_in batch) (o ∙ same_at outs s old [] there) ∙ ap (λ (is : List Item). get_or outs s [] ++ names_in is) b))

pub there_too : (a : Controller) (s : ℕ) → IsFlow a → s < a.settings.shards → (s < length a.buffer.queues) × (s < length a.outs.items)
there_too a s flow h = (omega (arith, flow.shards.0), omega (arith, flow.shards.1))

module _ (a b : Controller) (s max : ℕ) (inside : s < a.settings.shards)
    (queues : b.buffer.queues ≡ set a.buffer.queues s (drop max (queue_of a.buffer s)))
    (count : total length b.buffer.queues + length (take max (queue_of a.buffer s)) ≡ total length a.buffer.queues)
    (room : b.buffer.room ≡ a.buffer.room)
    (outs : b.outs.items ≡ set a.outs.items s (out_of a s ++ names_in (take max (queue_of a.buffer s)))) where
  -- the controller behind it
  c : Controller
  c = record a { buffer = b.buffer; outs = b.outs }

  q : List Item
  q = queue_of a.buffer s

  batch : List Item
  batch = take max q

  once_kept : IsFlow a → (id : Id) (slot : ℕ) → in_queues c id slot + (in_outs c id slot + answered_as id slot c.mails.mails) ≡ one_if (waits_for (waits_at c.program (at c.contexts id)) slot)
  unfolding c q batch
  once_kept flow id slot =
      let there : s < length a.buffer.queues = omega (arith, flow.shards.0, inside) in
      let here : s < length a.outs.items = omega (arith, flow.shards.1, inside) in
      let one : total (queued_as id slot) (set a.buffer.queues s (drop max q)) + queued_as id slot batch ≡ total (queued_as id slot) a.buffer.queues = queues_taken id slot a.buffer.queues s max there in
      let two : total (queued_as id slot) b.buffer.queues ≡ total (queued_as id slot) (set a.buffer.queues s (drop max q)) = ap (total (queued_as id slot)) queues in
      let three : total (named_as id slot) (set a.outs.items s (out_of a s ++ names_in batch)) ≡ total (named_as id slot) a.outs.items + named_as id slot (names_in batch) = outs_named id slot a.outs.items s (names_in batch) here in
      let four : total (named_as id slot) b.outs.items ≡ total (named_as id slot) (set a.outs.items s (out_of a s ++ names_in batch)) = ap (total (named_as id slot)) outs in
      let five : named_as id slot (names_in batch) ≡ queued_as id slot batch = named_names id slot batch in
      let six : total (queued_as id slot) b.buffer.queues + (total (named_as id slot) b.outs.items + answered_as id slot a.mails.mails) ≡ total (queued_as id slot) a.buffer.queues + (total (named_as id slot) a.outs.items + answered_as id slot a.mails.mails) = omega arith in
      six ∙ flow.once id slot

  in_front : (i : Item) → Contains batch i → Contains q i
  unfolding q batch
  in_front i h = subst (λ (is : List Item). Contains is i) (take-append-drop max q) (Contains-append_left (take max q) (drop max q) i h)

  was_queued : IsFlow a → (t : ℕ) (i : Item) → Contains (queue_of c.buffer t) i → Contains (queue_of a.buffer t) i
  unfolding c q
  was_queued flow t i h = elim (at_set a.buffer.queues s t (drop max q) [] (omega (arith, flow.shards.0, inside))) [
    | inl x ↦
        let now : get_or b.buffer.queues t [] ≡ drop max q = ap (λ (qs : List (List Item)). get_or qs t []) queues ∙ x.1 in
        subst (λ (u : ℕ). Contains (queue_of a.buffer u) i) (sym x.0)
        (subst (λ (is : List Item). Contains is i) (take-append-drop max q) (Contains-append_right (take max q) (drop max q) i (subst (λ (is : List Item). Contains is i) now h)))
    | inr x ↦ subst (λ (is : List Item). Contains is i) (ap (λ (qs : List (List Item)). get_or qs t []) queues ∙ x.1) h
  ]

  queued_is_out : (i : Item) (o : Option (Held Record)) → QueuedStands a s i o → OutStands a s o
  queued_is_out i None x = absurd x
  queued_is_out i (Some h) x = ap (shard_of a.settings) (sym x.key) ∙ x.shard

  out_kept : IsFlow a → (t : ℕ) (n : Name) → Contains (out_of c t) n → OutStands a t (at a.contexts n.id)
  unfolding c batch q
  out_kept flow t n h = elim (at_set a.outs.items s t (out_of a s ++ names_in batch) [] (omega (arith, flow.shards.1, inside))) [
    | inl x ↦
        let now : get_or b.outs.items t [] ≡ out_of a s ++ names_in batch = ap (λ (os : List (List Name)). get_or os t []) outs ∙ x.1 in
        subst (λ (u : ℕ). OutStands a u (at a.contexts n.id)) (sym x.0)
        (elim (Contains-append_cases (out_of a s) (names_in batch) n (subst (λ (ns : List Name). Contains ns n) now h)) [
          | inl old ↦ flow.out s n old
          | inr new ↦ of_names (λ (m : Name). OutStands a s (at a.contexts m.id)) batch (λ i d. queued_is_out i (at a.contexts i.id) (flow.queued s i (in_front i d))) n new
        ])
    | inr x ↦ flow.out t n (subst (λ (ns : List Name). Contains ns n) (ap (λ (os : List (List Name)). get_or os t []) outs ∙ x.1) h)
  ]

  flow_kept : IsFlow a → IsFlow c
  unfolding c
  flow_kept flow = record {
    once = once_kept flow;
    starts = flow.starts;
    begun = flow.begun;
    queued = λ t i h. flow.queued t i (was_queued flow t i h);
    out = out_kept flow;
    shards = (ap length queues ∙ length-set a.buffer.queues s (drop max (queue_of a.buffer s)) ∙ flow.shards.0, ap length outs ∙ length-set a.outs.items s (out_of a s ++ names_in (take max (queue_of a.buffer s))) ∙ flow.shards.1);
  }

  way_kept : IsFlow a → on_the_way c ≡ on_the_way a
  unfolding c
  way_kept flow =
      let one : total length (set a.outs.items s (out_of a s ++ names_in (take max (queue_of a.buffer s)))) ≡ total length a.outs.items + length (names_in (take max (queue_of a.buffer s))) = outs_longer a.outs.items s (names_in (take max (queue_of a.buffer s))) (omega (arith, flow.shards.1, inside)) in
      let two : total length b.outs.items ≡ total length (set a.outs.items s (out_of a s ++ names_in (take max (queue_of a.buffer s)))) = ap (total length) outs in
      omega (arith, length_names (take max (queue_of a.buffer s)))

  stands_kept : IsFlow a → (m : MachineControl) → StandsFor a m → StandsFor c m
  unfolding c
  stands_kept flow m x = record {
    reached = x.reached;
    stands = record { wm = x.stands.wm; keys = x.stands.keys; idle = x.stands.idle; flight = x.stands.flight; way = way_kept flow ∙ x.stands.way; epochs = x.stands.epochs };
    settled = x.settled;
  }

  sound_kept : IsSound a → IsSound c
  unfolding c
  sound_kept x = record {
    ranges = x.ranges;
    rooms = record { contexts = x.rooms.contexts; requests = room ∙ x.rooms.requests; mails = x.rooms.mails };
    flow = flow_kept x.flow;
    control = x.control;
    stands = stands_kept x.flow x.control x.stands;
  }

  module _ (e : b ≡ record a { buffer = b.buffer; outs = b.outs }) where
    pub sound_out : IsSound a → IsSound b
    unfolding c
    sound_out x = subst IsSound (sym e) (sound_kept x)

    pub stands_out : IsSound a → (m : MachineControl) → StandsFor a m → StandsFor b m
    unfolding c
    stands_out x m y = subst (λ (d : Controller). StandsFor d m) (sym e) (stands_kept x.flow m y)

    pub same_out : SameRules a b
    same_out = record { program = ap (λ (d : Controller). d.program) e; settings = ap (λ (d : Controller). d.settings) e }

  pub are_out : IsFlow a → AreOut b s (take max (queue_of a.buffer s))
  are_out flow = record {
    before = out_of a s;
    there = elim (at_set a.outs.items s s (out_of a s ++ names_in (take max (queue_of a.buffer s))) [] (omega (arith, flow.shards.1, inside))) [
      | inl x ↦ ap (λ (os : List (List Name)). get_or os s []) outs ∙ x.1
      | inr x ↦ absurd (x.0 refl)
    ];
  }

-- what waits in a queue is asked
module _ (a : Controller) (m : MachineControl) (flow : IsFlow a) (stands : Stands a m) where
  no_answer : (shard : ℕ) (i : Item) → Contains (queue_of a.buffer shard) i → answered_as i.id i.slot a.mails.mails ≡ 0
  no_answer shard i h = omega (arith, in_queues_there a shard i h, flow.once i.id i.slot, at_most (waits_for (waits_at a.program (at a.contexts i.id)) i.slot))

  asks_one : (shard : ℕ) (i : Item) → Contains (queue_of a.buffer shard) i → Asks a shard m i
  asks_one shard i h = of (at a.contexts i.id) refl (flow.queued shard i h)
    where
      runs : (held : Held Record) (code : CodeMachine) → at a.contexts i.id ≡ Some held → held.payload.machine ≡ Some code → IsAsked a.program a.settings shard i held
          → OwnsOnceBegun a i.id (Some held) → OwnerAsks i (m.controls i.key).owner
      runs held code e f x own =
          let owns : owner_of a.accounts held.payload.facts.key ≡ Some i.id = subst (λ (o : Option CodeMachine). OwnsBegun a i.id o held.payload.facts.key) f own in
          let r = runs_at a.program a.mails.mails a.contexts i.key i.id held code f (part_of a.accounts i.key).owner (m.controls i.key).owner (ap (owner_of a.accounts) x.key ∙ owns) e (stands.keys i.key).owner in
          let waits : Contains (waits_in a.program (Some code)) (record { slot = i.slot; request = i.request }) = subst (λ (o : Option CodeMachine). Contains (waits_in a.program o) (record { slot = i.slot; request = i.request })) f x.waits in
          let asked : request_at r.running.control i.slot ≡ Some i.request = ap (λ (k : Control). request_at k i.slot) (sym r.runs.control) ∙ waits_here (machine.control_of a.program code) i.slot i.request r.runs.sound.split waits in
          let none : r.running.answers i.slot ≡ None = sym (r.runs.answers i.slot) ∙ unanswered a.mails.mails i.id i.slot (no_answer shard i h) in
          subst (OwnerAsks i) (sym r.owner) (subst (StageAsksIt i) (sym r.stage) (asked, none))

      ran : (held : Held Record) (code : Option CodeMachine) → at a.contexts i.id ≡ Some held → held.payload.machine ≡ code → IsAsked a.program a.settings shard i held
          → OwnsOnceBegun a i.id (Some held) → OwnerAsks i (m.controls i.key).owner
      ran held None e f x own =
          let none : Contains (waits_in a.program None) (record { slot = i.slot; request = i.request }) = subst (λ (o : Option CodeMachine). Contains (waits_in a.program o) (record { slot = i.slot; request = i.request })) f x.waits in
          absurd (omega (arith, none.1))
      ran held (Some code) e f x own = runs held code e f x own

      of : (o : Option (Held Record)) → at a.contexts i.id ≡ o → QueuedStands a shard i o → Asks a shard m i
      of None e x = absurd x
      of (Some held) e x = record { shard = x.shard; asks = ran held held.payload.machine e refl x (subst (OwnsOnceBegun a i.id) e (flow.begun i.id)) }

  pub asks_all : (shard : ℕ) (is : List Item) → ((i : Item) → Contains is i → Contains (queue_of a.buffer shard) i) → AsksAll a shard m is
  asks_all shard [] h = tt
  asks_all shard (i ∷ is) h = (asks_one shard i (h i (0, omega arith, refl)), asks_all shard is (λ j d. h j (suc d.0, omega (arith, d.1), d.2)))

  pub asks_batch : (shard max : ℕ) → AsksAll a shard m (take max (queue_of a.buffer shard))
  asks_batch shard max = asks_all shard (take max (queue_of a.buffer shard))
      (λ i h. subst (λ (is : List Item). Contains is i) (take-append-drop max (queue_of a.buffer shard)) (Contains-append_left (take max (queue_of a.buffer shard)) (drop max (queue_of a.buffer shard)) i h))

-- what waits in a queue is of its context's key
module _ (a : Controller) (flow : IsFlow a) (shard : ℕ) where
  key_as : (i : Item) (o : Option (Held Record)) → QueuedStands a shard i o → key_in o ≡ i.key
  key_as i None x = absurd x
  key_as i (Some h) x = sym x.key

  of_keys_all : (is : List Item) → ((i : Item) → Contains is i → Contains (queue_of a.buffer shard) i) → OfKeys a is
  of_keys_all [] h = tt
  of_keys_all (i ∷ is) h = (key_as i (at a.contexts i.id) (flow.queued shard i (h i (0, omega arith, refl))), of_keys_all is (λ j d. h j (suc d.0, omega (arith, d.1), d.2)))

  pub of_keys : (max : ℕ) → OfKeys a (take max (queue_of a.buffer shard))
  of_keys max = of_keys_all (take max (queue_of a.buffer shard))
      (λ i h. subst (λ (is : List Item). Contains is i) (take-append-drop max (queue_of a.buffer shard)) (Contains-append_left (take max (queue_of a.buffer shard)) (drop max (queue_of a.buffer shard)) i h))

-- these are the contexts of another controller, too
pub of_keys_in : (a b : Controller) → b.contexts ≡ a.contexts → (is : List Item) → OfKeys a is → OfKeys b is
of_keys_in a b same [] x = tt
of_keys_in a b same (i ∷ is) x = ((λ j. key_in (at (same j) i.id)) ∙ x.0, of_keys_in a b same is x.1)
