-- A row that comes in, as an event of the machine.
use Rattle.std.proofs.Common.{◌≡◌, ℕ, ◌+◌, ◌*◌, ◌≤◌, ◌<◌, ◌^◌, ℤ, List, [], ◌∷◌, ◌++◌, length, Bool, true, false, cond, ◌&&◌, if◌then◌else◌, Option, Some, None, is_none, IsSomeAnd, refl, sym, ap, ◌∙◌, subst, add-mul, mul-le-mul_right, length-append, arith}
use Rattle.std.specs.Str.{bytes_eq}
use Rattle.std.proofs.lemmas.Bool.{ltb-true}
use Rattle.std.proofs.lemmas.List.{append-nil}
use Rattle.ax_text.specs.Programs.{program_width}
use Rattle.ax_text.specs.declared.vocabulary.Handler.TheVariants as handler
use Rattle.ax_lang.specs.Shown.{shown_program}
use Rattle.ax_future.specs.declared.machine.Machine.{Machine as CodeMachine}
use Rattle.ax_future.specs.Talks.{facts_in}
use Rattle.ax_machine.specs.Entries.{Key}
use Rattle.ax_machine.proofs.FiringLemmas.{key_is, same_key}
use Rattle.ax_buffer.specs.declared.items.Item.{Item as Request}
use Rattle.ax_context.specs.declared.id.Id.{Id}
use Rattle.ax_context.specs.declared.contexts.Context.{Context as Held}
use Rattle.ax_context.specs.Slots.{at, Has, live_count, IsTaken, IsFirstFree}
use Rattle.ax_account.specs.declared.part.Waiting.{Waiting as Item}
use Rattle.ax_account.specs.declared.part.Occupied.{Occupied}
use Rattle.ax_account.specs.declared.part.Occupied.TheVariants.{Owner, Waits}
use Rattle.ax_account.specs.Parts.{Part, is_free, is_empty, owned, waits}
use Rattle.ax_account.specs.declared.part.Waiting.TheVariants.{Row as RowWaits}
use Rattle.ax_account.specs.Accounts.{part_of, owner_of, answer_to, occupied}
use Rattle.ax_account.specs.Queues.{has_key}
use Rattle.ax_mailbox.specs.declared.mail.Mail.{Mail}
use Rattle.ax_time.specs.Timers.{times_of}
use Rattle.ax_time.specs.Epochs.{Book, Fits64, current_of, count_of}
use Rattle.ax_execution.specs.Accepted.{AreAccepted}
use Rattle.ax_execution.specs.Contexts.{Context, Waiting}
use Rattle.ax_execution.specs.Counts.{one_at, counted}
use Rattle.ax_execution.specs.Groups.{row_facts}
use Rattle.ax_execution.specs.ControlTurns.{is_idle_on, admit_on}
use Rattle.ax_execution.specs.Machine.{Admit}
use Rattle.ax_execution.specs.MachineControls.{MachineControl, control_at, happens_on, in_flight_on, epoch_count_on}
use Rattle.ax_execution.specs.ControlsAllowed.{AllowedOn}
use Rattle.ax_execution.specs.ControlOrder.{IsInOrder, AreSound}
use Rattle.ax_execution.specs.Reached.{IsOrderly, owed_in}
use Rattle.ax_execution.specs.OwedChanges.{is_free_with, is_free_on}
use Rattle.ax_execution.proofs.Upto.{by_cases}
use Rattle.ax_execution.proofs.SingleKeys.{own_control, other_control}
use Rattle.ax_execution.proofs.ControlCounts.{flight_change}
use Rattle.ax_execution.proofs.ControlOwed.{owed_changes_on}
use Rattle.ax_execution.proofs.ControlChanges.{epoch_changes}
use Rattle.ax_execution.proofs.ReachedLemmas.{event_reached}
use Rattle.ax_execution.proofs.ReachedOrderly.{reached_orderly, reached_in_order, reached_sound}
use Rattle.ax_core.specs.declared.record.Record.{Record}
use Rattle.ax_core.specs.declared.record.Name.{Name}
use Rattle.ax_core.specs.declared.controller.Controller.{Controller}
use Rattle.ax_core.specs.Contexts.{same_id, answer_in, waits_in, waits_at}
use Rattle.ax_core.specs.Keys.{OwnerStands, ItemsStand, KeyStands}
use Rattle.ax_core.specs.Flow.{one_if, answered_as, started_as, in_queues, in_outs, waits_for, is_owner, is_to_start, OwnsBegun, OwnsOnceBegun, QueuedStands, OutStands, IsFlow, on_the_way}
use Rattle.ax_core.specs.Epochs.{EpochsStand}
use Rattle.ax_core.specs.Stands.{Stands}
use Rattle.ax_core.specs.Sound.{rules_of, HasRooms, StandsFor, IsSound}
use Rattle.ax_core.specs.May.{is_empty as nothing, may_close, has_room, may_admit}
use Rattle.ax_core.specs.Events.{SameRules, Makes, MayAdmitOn}
use Rattle.ax_core.specs.Admissions.{start_mails, TakesIn}
use Rattle.ax_core.proofs.Frames.{started_answers}
use Rattle.ax_core.proofs.Admits.{made_stands, keys_admit, idle_admits}
use Rattle.ax_core.proofs.Flows.{same_is, other_ids, owner_is_live}
use Rattle.ax_core.proofs.Open.{and_parts, may_is}
use Rattle.ax_core.proofs.Counting.{answered_append, started_append}
use Rattle.ax_core.proofs.Deliveries.{owed_bound}
use Rattle.ax_core.proofs.Numbers.{is_new}
use Rattle.ax_core.proofs.Enters.{current_few, current_count, entered}

clash : true ≡ false → ⊥
clash e = cc e

-- the mails of a new owner

starts_answer : (ms : List Mail) (o : Occupied) (one id : Id) (slot : ℕ) → answer_in (ms ++ start_mails o one) id slot ≡ answer_in ms id slot
starts_answer ms Owner one id slot = started_answers ms one id slot
starts_answer ms Waits one id slot = ap (λ (ns : List Mail). answer_in ns id slot) (append-nil ms)

none_answered : (o : Occupied) (one id : Id) (slot : ℕ) → answered_as id slot (start_mails o one) ≡ 0
none_answered Owner one id slot = refl
none_answered Waits one id slot = refl

other_starts : (f : Bool) (one id : Id) → same_id one id ≡ false → started_as id (start_mails (if f then Owner else Waits) one) ≡ 0
other_starts true one id h = omega (arith, ap one_if h)
other_starts false one id h = refl

own_starts : (f : Bool) (id : Id) (part : Part) → is_owner id part.owner ≡ false
    → started_as id (start_mails (if f then Owner else Waits) id) ≡ one_if (is_owner id (if f then owned id else waits (RowWaits id) part).owner)
own_starts true id part h = omega arith
own_starts false id part h = ap one_if (sym h)

how_many : (f : Bool) (id : Id) → length (start_mails (if f then Owner else Waits) id) ≡ cond f 1 0
how_many true id = refl
how_many false id = refl

-- the owner of a key that a row comes for

keeps_owner : (id i : Id) (o : Option Id) (is : List Item) → o ≡ Some i → (occupied id (record { owner = o; waiting = is })).owner ≡ Some i
keeps_owner id i None is e = absurd (cc e)
keeps_owner id i (Some j) is e = e

owner_as : (id i : Id) (o : Option Id) (is : List Item) → same_id id i ≡ false → is_owner i (occupied id (record { owner = o; waiting = is })).owner ≡ is_owner i o
owner_as id i None [] x = x
owner_as id i None (w ∷ is) x = refl
owner_as id i (Some j) is x = refl

pub free_same : (a : Controller) (key : Key) (o : Option Id) (is : List Item) (d : Option Context) (ws : List Waiting)
    → OwnerStands a.program a.mails.mails a.contexts key o d → ItemsStand a.program a.mails.mails a.contexts key is ws → (is_none o && is_empty is) ≡ is_free_with d ws
free_same a key None [] None [] x y = refl
free_same a key None [] None (w ∷ ws) x y = absurd y
free_same a key None (i ∷ is) None [] x y = absurd y
free_same a key None (i ∷ is) None (w ∷ ws) x y = refl
free_same a key None is (Some d) ws x y = absurd x
free_same a key (Some i) is None ws x y = absurd x
free_same a key (Some i) is (Some d) ws x y = refl

-- what a row wants

pub has_place : (a : Controller) → may_admit a ≡ true → live_count a.contexts < a.contexts.limit
has_place a may =
    let both : (may_close a ≡ true) × ((has_room a && nothing a.accounts.idle) ≡ true) = and_parts (may_close a) (has_room a && nothing a.accounts.idle) may in
    let rest : (has_room a ≡ true) × (nothing a.accounts.idle ≡ true) = and_parts (has_room a) (nothing a.accounts.idle) both.1 in
    ltb-true (live_count a.contexts) a.contexts.limit rest.0

pub mail_fits : (a : Controller) → IsSound a → may_admit a ≡ true → length a.mails.mails < a.mails.room
mail_fits a x may =
    let few : live_count a.contexts < a.contexts.limit = has_place a may in
    let one : owed_in x.control ≤ in_flight_on x.control * (program_width (shown_program a.program) + 1) = owed_bound a x.control x.stands.stands in
    let live : in_flight_on x.control + 1 ≤ a.settings.in_flight = omega (arith, x.stands.stands.flight, x.rooms.contexts) in
    let two : (in_flight_on x.control + 1) * (program_width (shown_program a.program) + 1) ≤ a.settings.in_flight * (program_width (shown_program a.program) + 1) = mul-le-mul_right (program_width (shown_program a.program) + 1) live in
    let three : (in_flight_on x.control + 1) * (program_width (shown_program a.program) + 1) ≡ in_flight_on x.control * (program_width (shown_program a.program) + 1) + 1 * (program_width (shown_program a.program) + 1) =
    add-mul (in_flight_on x.control) 1 (program_width (shown_program a.program) + 1) in
    omega (arith, x.stands.stands.way, x.rooms.mails)

pub count_fits : (a : Controller) → IsSound a → AreAccepted (shown_program a.program) → count_of a.epochs (current_of a.epochs) < 2 ^ 63
count_fits a x accepted =
    let orderly : IsOrderly (rules_of a.settings) x.control = reached_orderly (rules_of a.settings) (shown_program a.program) x.control accepted x.stands.reached in
    let same : count_of a.epochs (current_of a.epochs) ≡ epoch_count_on x.control.epoch x.control = current_count a.epochs a.barrier x.control x.stands.stands.epochs in
    let few : epoch_count_on x.control.epoch x.control ≤ in_flight_on x.control = current_few x.control orderly.marks in
    let most : in_flight_on x.control ≤ a.settings.in_flight = orderly.limit in
    let range : a.settings.in_flight ≤ 65536 = x.ranges.in_flight in
    omega arith

-- what a row makes
module _ (a b : Controller) (r : Record) (id : Id) (t : TakesIn a b r id) (unbegun : r.machine ≡ None) where
  c : Controller
  c = record a { contexts = b.contexts; accounts = b.accounts; mails = b.mails; epochs = b.epochs }

  machine_none : (o : Option (Held Record)) → IsSomeAnd o (λ h. h ≡ record { payload = r; epoch = current_of a.epochs; number = h.number; count = 1 }) → waits_at a.program o ≡ []
  machine_none None h = absurd h
  machine_none (Some x) h = ap (λ (y : Held Record). waits_in a.program y.payload.machine) h ∙ ap (waits_in a.program) unbegun

  none_before : waits_at a.program (at a.contexts id) ≡ []
  none_before = ap (waits_at a.program) t.free

  same_waits : (i : Id) → waits_at a.program (at b.contexts i) ≡ waits_at a.program (at a.contexts i)
  same_waits i = by_cases (same_id id i)
      (λ x. subst (λ (j : Id). waits_at a.program (at b.contexts j) ≡ waits_at a.program (at a.contexts j)) (same_is id i x) (machine_none (at b.contexts id) t.made ∙ sym none_before))
      (λ x. ap (waits_at a.program) (t.others i (other_ids id i x)))

  new_start : (o : Option (Held Record)) → IsSomeAnd o (λ h. h ≡ record { payload = r; epoch = current_of a.epochs; number = h.number; count = 1 })
      → is_to_start b id o ≡ is_owner id (owner_of b.accounts r.facts.key)
  new_start None h = absurd h
  new_start (Some x) h = ap (λ (y : Held Record). is_none y.payload.machine && is_owner id (owner_of b.accounts y.payload.facts.key)) h
      ∙ ap (λ (m : Option CodeMachine). is_none m && is_owner id (owner_of b.accounts r.facts.key)) unbegun

  new_begun : (o : Option (Held Record)) → IsSomeAnd o (λ h. h ≡ record { payload = r; epoch = current_of a.epochs; number = h.number; count = 1 }) → OwnsOnceBegun b id o
  new_begun None h = absurd h
  new_begun (Some x) h = subst (λ (m : Option CodeMachine). OwnsBegun b id m x.payload.facts.key) (sym (ap (λ (y : Held Record). y.payload.machine) h ∙ unbegun)) tt

  owner_now : owner_of b.accounts r.facts.key ≡ (occupied id (part_of a.accounts r.facts.key)).owner
  owner_now = ap (λ (q : Part). q.owner) t.part.own

  owner_other : (k : Key) → bytes_eq r.facts.key k ≡ false → owner_of b.accounts k ≡ owner_of a.accounts k
  owner_other k x = ap (λ (q : Part). q.owner) (t.part.others k (λ e. clash (sym (ap (bytes_eq r.facts.key) e ∙ same_key r.facts.key) ∙ x)))

  owner_kept : (k : Key) (i : Id) → owner_of a.accounts k ≡ Some i → owner_of b.accounts k ≡ Some i
  owner_kept k i h = by_cases (bytes_eq r.facts.key k)
      (λ x. subst (λ (j : Key). owner_of a.accounts j ≡ Some i → owner_of b.accounts j ≡ Some i) (key_is r.facts.key k x)
      (λ e. owner_now ∙ keeps_owner id i (part_of a.accounts r.facts.key).owner (part_of a.accounts r.facts.key).waiting e) h)
      (λ x. owner_other k x ∙ h)

  owner_same : (k : Key) (i : Id) → same_id id i ≡ false → is_owner i (owner_of b.accounts k) ≡ is_owner i (owner_of a.accounts k)
  owner_same k i h = by_cases (bytes_eq r.facts.key k)
      (λ x. subst (λ (j : Key). is_owner i (owner_of b.accounts j) ≡ is_owner i (owner_of a.accounts j)) (key_is r.facts.key k x)
      (ap (is_owner i) owner_now ∙ owner_as id i (part_of a.accounts r.facts.key).owner (part_of a.accounts r.facts.key).waiting h))
      (λ x. ap (is_owner i) (owner_other k x))

  old_start : (i : Id) → same_id id i ≡ false → (o : Option (Held Record)) → is_to_start b i o ≡ is_to_start a i o
  old_start i x None = refl
  old_start i x (Some h) = ap (λ (y : Bool). is_none h.payload.machine && y) (owner_same h.payload.facts.key i x)

  old_begun : (i : Id) (o : Option (Held Record)) → OwnsOnceBegun a i o → OwnsOnceBegun b i o
  old_begun i None x = tt
  old_begun i (Some h) x = of h.payload.machine x
    where
      of : (m : Option CodeMachine) → OwnsBegun a i m h.payload.facts.key → OwnsBegun b i m h.payload.facts.key
      of None y = tt
      of (Some m) y = owner_kept h.payload.facts.key i y

  to_start : (o : Option (Held Record)) (i : Id) → is_to_start c i o ≡ is_to_start b i o
  unfolding c
  to_start None i = refl
  to_start (Some h) i = refl

  begun_as : (m : Option CodeMachine) (key : Key) (i : Id) → OwnsBegun b i m key → OwnsBegun c i m key
  unfolding c
  begun_as None key i x = tt
  begun_as (Some m) key i x = x

  begun_too : (o : Option (Held Record)) (i : Id) → OwnsOnceBegun b i o → OwnsOnceBegun c i o
  begun_too None i x = tt
  begun_too (Some h) i x = begun_as h.payload.machine h.payload.facts.key i x

  queued_too : (shard : ℕ) (i : Request) (o : Option (Held Record)) → QueuedStands a shard i o → QueuedStands c shard i o
  unfolding c
  queued_too shard i None x = x
  queued_too shard i (Some h) x = x

  out_too : (shard : ℕ) (o : Option (Held Record)) → OutStands a shard o → OutStands c shard o
  unfolding c
  out_too shard None x = x
  out_too shard (Some h) x = x

  -- the context is new, so nothing names it
  queued_stays : (shard : ℕ) (i : Request) → QueuedStands a shard i (at a.contexts i.id) → QueuedStands c shard i (at b.contexts i.id)
  queued_stays shard i x = by_cases (same_id id i.id)
      (λ y. absurd (subst (QueuedStands a shard i) (ap (at a.contexts) (sym (same_is id i.id y)) ∙ t.free) x))
      (λ y. queued_too shard i (at b.contexts i.id) (subst (QueuedStands a shard i) (sym (t.others i.id (other_ids id i.id y))) x))

  out_stays : (shard : ℕ) (n : Name) → OutStands a shard (at a.contexts n.id) → OutStands c shard (at b.contexts n.id)
  out_stays shard n x = by_cases (same_id id n.id)
      (λ y. absurd (subst (OutStands a shard) (ap (at a.contexts) (sym (same_is id n.id y)) ∙ t.free) x))
      (λ y. out_too shard (at b.contexts n.id) (subst (OutStands a shard) (sym (t.others n.id (other_ids id n.id y))) x))

  more_mails : length b.mails.mails ≡ length a.mails.mails + length (start_mails (answer_to (part_of a.accounts r.facts.key)) id)
  more_mails = ap length t.mails ∙ length-append a.mails.mails (start_mails (answer_to (part_of a.accounts r.facts.key)) id)

  same_answered : (i : Id) (slot : ℕ) → answered_as i slot b.mails.mails ≡ answered_as i slot a.mails.mails
  same_answered i slot =
      let one : answered_as i slot b.mails.mails ≡ answered_as i slot a.mails.mails + answered_as i slot (start_mails (answer_to (part_of a.accounts r.facts.key)) id) =
      ap (answered_as i slot) t.mails ∙ answered_append i slot a.mails.mails (start_mails (answer_to (part_of a.accounts r.facts.key)) id) in
      omega (arith, none_answered (answer_to (part_of a.accounts r.facts.key)) id i slot)

  more_started : (i : Id) → started_as i b.mails.mails ≡ started_as i a.mails.mails + started_as i (start_mails (answer_to (part_of a.accounts r.facts.key)) id)
  more_started i = ap (started_as i) t.mails ∙ started_append i a.mails.mails (start_mails (answer_to (part_of a.accounts r.facts.key)) id)

  module _ (flow : IsFlow a) (m : MachineControl) (x : Stands a m) where
    not_owner : is_owner id (part_of a.accounts r.facts.key).owner ≡ false
    not_owner = owner_is_live a.program a.mails.mails a.contexts r.facts.key (part_of a.accounts r.facts.key).owner (m.controls r.facts.key).owner (x.keys r.facts.key).owner id t.free

    starts_own : started_as id b.mails.mails ≡ one_if (is_to_start c id (at b.contexts id))
    starts_own =
        let none : started_as id a.mails.mails ≡ 0 = flow.starts id ∙ ap (λ (o : Option (Held Record)). one_if (is_to_start a id o)) t.free in
        let some : started_as id (start_mails (answer_to (part_of a.accounts r.facts.key)) id) ≡ one_if (is_owner id (occupied id (part_of a.accounts r.facts.key)).owner) =
        own_starts (is_free (part_of a.accounts r.facts.key)) id (part_of a.accounts r.facts.key) not_owner in
        let now : one_if (is_to_start c id (at b.contexts id)) ≡ one_if (is_owner id (occupied id (part_of a.accounts r.facts.key)).owner) =
        ap one_if (to_start (at b.contexts id) id ∙ (new_start (at b.contexts id) t.made ∙ ap (is_owner id) owner_now)) in
        omega (arith, more_started id)

    starts_other : (i : Id) → same_id id i ≡ false → started_as i b.mails.mails ≡ one_if (is_to_start c i (at b.contexts i))
    starts_other i h =
        let none : started_as i (start_mails (answer_to (part_of a.accounts r.facts.key)) id) ≡ 0 = other_starts (is_free (part_of a.accounts r.facts.key)) id i h in
        let now : one_if (is_to_start c i (at b.contexts i)) ≡ one_if (is_to_start a i (at a.contexts i)) =
        ap one_if (to_start (at b.contexts i) i ∙ (ap (is_to_start b i) (t.others i (other_ids id i h)) ∙ old_start i h (at a.contexts i))) in
        omega (arith, more_started i, flow.starts i)

    begun_now : (i : Id) → OwnsOnceBegun b i (at b.contexts i)
    begun_now i = by_cases (same_id id i)
        (λ y. subst (λ (j : Id). OwnsOnceBegun b j (at b.contexts j)) (same_is id i y) (new_begun (at b.contexts id) t.made))
        (λ y. subst (OwnsOnceBegun b i) (sym (t.others i (other_ids id i y))) (old_begun i (at a.contexts i) (flow.begun i)))

    flow_on : IsFlow c
    unfolding c
    flow_on = record {
      once = λ i slot.
          let one : in_queues a i slot + (in_outs a i slot + answered_as i slot b.mails.mails) ≡ in_queues a i slot + (in_outs a i slot + answered_as i slot a.mails.mails) = omega (arith, same_answered i slot) in
          one ∙ (flow.once i slot ∙ ap (λ asks. one_if (waits_for asks slot)) (sym (same_waits i)));
      starts = λ i. by_cases (same_id id i)
          (λ y. subst (λ (j : Id). started_as j b.mails.mails ≡ one_if (is_to_start c j (at b.contexts j))) (same_is id i y) starts_own)
          (λ y. starts_other i y);
      begun = λ i. begun_too (at b.contexts i) i (begun_now i);
      queued = λ shard i h. queued_stays shard i (flow.queued shard i h);
      out = λ shard n h. out_stays shard n (flow.out shard n h);
      shards = flow.shards;
    }

  -- it is the event
  module _ (n : ℕ) (time : ℤ) (values : List ℤ) (row : r.handler ≡ handler.Row) (facts : facts_in r.facts ≡ row_facts a.wm time values) (numbered : Has b.contexts id (λ h. n ≡ h.number))
      (rooms : HasRooms a) (may : may_admit a ≡ true) (accepted : AreAccepted (shown_program a.program)) (fits : Fits64 a.epochs) (m : MachineControl) (h : StandsFor a m) where
    q : MachineControl
    q = happens_on (shown_program a.program) (Admit n r.facts.key time values) None m

    free_number : (o : Option (Held Record)) → IsSomeAnd o (λ y. n ≡ y.number) → IsSomeAnd o (λ y. IsFirstFree a.contexts y.number) → IsTaken a.contexts n → ⊥
    free_number None y z w = y
    free_number (Some d) y z w = z.free (subst (IsTaken a.contexts) y w)

    can : MayAdmitOn a m
    can = may_is a m h rooms may

    allowed_now : AllowedOn (rules_of a.settings) (Admit n r.facts.key time values) m
    allowed_now = (h.settled, can.is_open, can.room, can.busy, is_new a m h.stands n (free_number (at b.contexts id) numbered t.number))

    order : IsInOrder (rules_of a.settings) m
    order = reached_in_order (rules_of a.settings) (shown_program a.program) m accepted h.reached

    sound : AreSound m
    sound = reached_sound (rules_of a.settings) (shown_program a.program) m accepted h.reached

    keys_now : (k : Key) → KeyStands c k (q.controls k)
    unfolding c q
    keys_now = keys_admit a.program a.mails.mails b.mails.mails a.contexts b.contexts id t.free t.others
        (λ i slot. ap (λ (ns : List Mail). answer_in ns i slot) t.mails ∙ starts_answer a.mails.mails (answer_to (part_of a.accounts r.facts.key)) id i slot)
        a.accounts b.accounts r.facts.key n m.epoch (row_facts m.wm time values) (times_of a.timers) m.controls t.part
        (made_stands a.program b.mails.mails r.facts.key id (at b.contexts id) r (current_of a.epochs) n m.epoch (row_facts m.wm time values) t.made numbered h.stands.epochs.current refl row
        (facts ∙ ap (λ (w : ℤ). row_facts w time values) h.stands.wm) unbegun)
        h.stands.keys

    idle_now : (k : Key) → is_idle_on (q.controls k) ≡ true → has_key b.accounts.idle k ≡ true
    unfolding q
    idle_now k y = ap (λ (ks : List Key). has_key ks k) t.idle ∙ h.stands.idle k (by_cases (bytes_eq r.facts.key k)
        (λ z. subst (λ (j : Key). is_idle_on (m.controls j) ≡ true) (key_is r.facts.key k z) (idle_admits n m.epoch (row_facts m.wm time values) (m.controls r.facts.key)
        (sym (ap is_idle_on (own_control m.controls r.facts.key (admit_on n m.epoch (row_facts m.wm time values) (m.controls r.facts.key))))
        ∙ subst (λ (j : Key). is_idle_on (control_at m.controls r.facts.key (admit_on n m.epoch (row_facts m.wm time values) (m.controls r.facts.key)) j) ≡ true) (sym (key_is r.facts.key k z)) y)))
        (λ z. sym (ap is_idle_on (other_control m.controls r.facts.key (admit_on n m.epoch (row_facts m.wm time values) (m.controls r.facts.key)) k z)) ∙ y))

    flight_now : live_count b.contexts ≡ in_flight_on q
    unfolding q
    flight_now =
        let more : in_flight_on (happens_on (shown_program a.program) (Admit n r.facts.key time values) None m) + 0 ≡ in_flight_on m + 1 =
        flight_change (rules_of a.settings) (shown_program a.program) m order sound (Admit n r.facts.key time values) None allowed_now in
        omega (arith, t.len, h.stands.flight)

    free_too : is_free (part_of a.accounts r.facts.key) ≡ is_free_on (m.controls r.facts.key)
    free_too = free_same a r.facts.key (part_of a.accounts r.facts.key).owner (part_of a.accounts r.facts.key).waiting (m.controls r.facts.key).owner (m.controls r.facts.key).waiting (h.stands.keys r.facts.key).owner (h.stands.keys r.facts.key).items

    way_now : on_the_way c ≡ owed_in q
    unfolding c q
    way_now =
        let more : owed_in (happens_on (shown_program a.program) (Admit n r.facts.key time values) None m) + 0 ≡ owed_in m + counted (is_free_on (m.controls r.facts.key)) 1 =
        owed_changes_on (rules_of a.settings) (shown_program a.program) m order sound (Admit n r.facts.key time values) None allowed_now in
        let as_many : length (start_mails (answer_to (part_of a.accounts r.facts.key)) id) ≡ counted (is_free_on (m.controls r.facts.key)) 1 =
        how_many (is_free (part_of a.accounts r.facts.key)) id ∙ ap (λ (f : Bool). cond f 1 0) free_too in
        omega (arith, more_mails, h.stands.way)

    epochs_now : EpochsStand b.epochs a.barrier q
    unfolding q
    epochs_now = subst (λ (book : Book). EpochsStand book a.barrier (happens_on (shown_program a.program) (Admit n r.facts.key time values) None m)) (sym t.epochs)
        (entered a.epochs a.barrier m (happens_on (shown_program a.program) (Admit n r.facts.key time values) None m) fits h.stands.epochs refl refl
        (λ u.
        let more : epoch_count_on u (happens_on (shown_program a.program) (Admit n r.facts.key time values) None m) + 0 ≡ epoch_count_on u m + one_at u m.epoch =
        epoch_changes m (record { rise = order.keys.rise; others = order.keys.others }) (rules_of a.settings) (shown_program a.program) u (Admit n r.facts.key time values) None allowed_now in
        omega arith))

    stands_now : StandsFor c q
    unfolding c q
    stands_now = record {
      reached = event_reached (rules_of a.settings) (shown_program a.program) (Admit n r.facts.key time values) None m h.reached allowed_now tt;
      stands = record { wm = h.stands.wm; keys = keys_now; idle = idle_now; flight = flight_now; way = way_now; epochs = epochs_now };
      settled = h.settled;
    }

    pub makes : Makes a b (Admit n r.facts.key time values) m
    unfolding c q
    makes = record { allowed = allowed_now; stands = subst (λ (d : Controller). StandsFor d (happens_on (shown_program a.program) (Admit n r.facts.key time values) None m)) (sym t.same) stands_now }

  pub same_rules : SameRules a b
  same_rules = record { program = ap (λ (d : Controller). d.program) t.same; settings = ap (λ (d : Controller). d.settings) t.same }

-- all stays sound
pub sound_row : (a b : Controller) (r : Record) (id : Id) (t : TakesIn a b r id) (unbegun : r.machine ≡ None) (n : ℕ) (time : ℤ) (values : List ℤ) (row : r.handler ≡ handler.Row)
    (facts : facts_in r.facts ≡ row_facts a.wm time values) (numbered : Has b.contexts id (λ h. n ≡ h.number)) (may : may_admit a ≡ true) (accepted : AreAccepted (shown_program a.program)) (fits : Fits64 a.epochs)
    → IsSound a → IsSound b
unfolding c q
sound_row a b r id t unbegun n time values row facts numbered may accepted fits x = subst IsSound (sym t.same) (record {
  ranges = x.ranges;
  rooms = record { contexts = t.limit ∙ x.rooms.contexts; requests = x.rooms.requests; mails = t.room ∙ x.rooms.mails };
  flow = flow_on a b r id t unbegun x.flow x.control x.stands.stands;
  control = happens_on (shown_program a.program) (Admit n r.facts.key time values) None x.control;
  stands = stands_now a b r id t unbegun n time values row facts numbered x.rooms may accepted fits x.control x.stands;
})
