-- A timer that fires, as an event of the machine.
use Rattle.std.proofs.Common.{◌≡◌, ℕ, ◌+◌, ◌*◌, ◌<◌, ◌≤◌, ℤ, List, [], ◌∷◌, length, true, false, not, Option, Some, None, is_none, is_some, refl, sym, ap, ap₂, ◌∙◌, subst, arith, add-mul, mul-le-mul_right, length-append}
use Rattle.std.specs.Prelude.{All, IsSome}
use Rattle.std.specs.Str.{bytes_eq}
use Rattle.std.specs.List.{list_any}
use Rattle.std.proofs.lemmas.Bool.{lt-ltb}
use Rattle.std.proofs.lemmas.List.Elements.{All-head}
use Rattle.std.proofs.lemmas.Option.{same_Some}
use Rattle.ax_keys.specs.declared.TheConstants.{MOST_FIRINGS}
use Rattle.ax_text.specs.Programs.{program_width}
use Rattle.ax_text.specs.Times.{least_time}
use Rattle.ax_text.specs.Jobs.{firing_job}
use Rattle.ax_lang.specs.Shown.{shown_program}
use Rattle.ax_machine.specs.Entries.{Key}
use Rattle.ax_machine.specs.Firings.{most_firings}
use Rattle.ax_machine.proofs.FiringLemmas.{key_is, same_key}
use Rattle.ax_context.specs.declared.id.Id.{Id}
use Rattle.ax_context.specs.Slots.{live_count}
use Rattle.ax_account.specs.declared.part.Waiting.{Waiting as Item}
use Rattle.ax_account.specs.declared.part.Waiting.TheVariants as item
use Rattle.ax_account.specs.declared.part.Next.TheVariants as next
use Rattle.ax_account.specs.Parts.{next_of, is_mark, may_fire as mark_may_fire, may_idle}
use Rattle.ax_account.specs.Accounts.{part_of, owner_of, waiting_of, AreSound}
use Rattle.ax_account.specs.Queues.{has_key, first_of}
use Rattle.ax_buffer.specs.Buffer.{total}
use Rattle.ax_mailbox.specs.declared.mail.Mail.{Mail}
use Rattle.ax_mailbox.specs.declared.mail.Mail.TheVariants as mail
use Rattle.ax_time.specs.Timers.{times_of}
use Rattle.ax_execution.specs.Accepted.{AreAccepted}
use Rattle.ax_execution.specs.Contexts.{Context, new_context, Waiting, Mark, owners, rows_in, is_idle_with}
use Rattle.ax_execution.specs.Counts.{one_at, owner_of_epoch, waiting_of_epoch}
use Rattle.ax_execution.specs.KeyControls.{KeyControl}
use Rattle.ax_execution.specs.ControlTurns.{is_idle_on, contexts_on, fire_on}
use Rattle.ax_execution.specs.Machine.{Fire}
use Rattle.ax_execution.specs.Allowed.{MayFireNow}
use Rattle.ax_execution.specs.MachineControls.{MachineControl, control_at, control_goes_on, happens_on, in_flight_on, control_of_epoch, epoch_count_on}
use Rattle.ax_execution.specs.ControlsAllowed.{AllowedOn}
use Rattle.ax_execution.specs.Reached.{IsReached, IsOrderly, owed_to, owed_in}
use Rattle.ax_execution.proofs.Upto.{by_cases}
use Rattle.ax_execution.proofs.SingleKeys.{own_control, other_control, flight_goes_on, owed_goes_on, epoch_goes_on}
use Rattle.ax_execution.proofs.ReachedLemmas.{event_reached}
use Rattle.ax_execution.proofs.ReachedOrderly.{reached_orderly}
use Rattle.ax_core.specs.declared.effects.Fired.{Fired}
use Rattle.ax_core.specs.declared.controller.Controller.{Controller}
use Rattle.ax_core.specs.Contexts.{answer_in}
use Rattle.ax_core.specs.Keys.{KeyStands, PartStands}
use Rattle.ax_core.specs.Flow.{on_the_way}
use Rattle.ax_core.specs.Epochs.{EpochsStand}
use Rattle.ax_core.specs.Stands.{Stands}
use Rattle.ax_core.specs.Sound.{rules_of, HasRooms, StandsFor, IsSound}
use Rattle.ax_core.specs.May.{is_empty, has_room, may_fire}
use Rattle.ax_core.specs.Events.{Makes, MayFireOn, IsFront, IsLeast, Fires, SameRules}
use Rattle.ax_core.specs.Firings.{FiresAt}
use Rattle.ax_core.proofs.Frames.{fired_answers}
use Rattle.ax_core.proofs.Open.{and_parts, and_join, idle_stands, has_space, space_has}
use Rattle.ax_core.proofs.Deliveries.{owed_bound}
use Rattle.ax_core.proofs.Fires.{FiresLeast, fires_least, InFront, in_front, fired_control, keys_fire, is_new, others_listed}
use Rattle.ax_core.proofs.FiresFlow.{fired_one, flow_fires}

false_true : {A : Type 0} → false ≡ true → A
false_true e = absurd (cc e)

-- what stands behind a callback, where a key that must fire isn't among the idle ones yet
pub record StandsBut (a : Controller) (key : Key) (m : MachineControl) : Type 0 where
  pub wm : a.wm ≡ m.wm
  pub keys : (k : Key) → KeyStands a k (m.controls k)
  pub idle : (k : Key) → (k ≡ key → ⊥) → is_idle_on (m.controls k) ≡ true → has_key a.accounts.idle k ≡ true
  pub flight : live_count a.contexts ≡ in_flight_on m
  pub way : on_the_way a ≡ owed_in m
  pub epochs : EpochsStand a.epochs a.barrier m

pub stands_but : (a : Controller) (key : Key) (m : MachineControl) → Stands a m → StandsBut a key m
stands_but a key m x = record { wm = x.wm; keys = x.keys; idle = λ k differ. x.idle k; flight = x.flight; way = x.way; epochs = x.epochs }

module _ (a b : Controller) (key : Key) (f : Fired) (h : FiresAt a b key f) (none : owner_of a.accounts key ≡ None)
    (m : MachineControl) (x : StandsBut a key m) (orderly : IsOrderly (rules_of a.settings) m) where
  same_answers : (i : Id) (slot : ℕ) → answer_in b.mails.mails i slot ≡ answer_in a.mails.mails i slot
  same_answers i slot = ap (λ (ms : List Mail). answer_in ms i slot) h.mails ∙ fired_answers a.mails.mails h.id i slot

  front : InFront a.program a.mails.mails a.contexts key (part_of a.accounts key).waiting (m.controls key).owner (m.controls key).waiting h.epoch f.mark h.fired
  front = in_front a.program a.mails.mails a.contexts key (part_of a.accounts key).owner (m.controls key).owner (part_of a.accounts key).waiting (m.controls key).waiting
      (x.keys key).owner (x.keys key).items none h.epoch f.mark h.fired h.front

  least : FiresLeast front.w front.more (m.controls key).times
  least = fires_least front.w front.more (m.controls key).times (orderly.due key front.e front.w front.more front.rest front.owner front.waits)

  keys : (k : Key) → PartStands a.program b.mails.mails b.contexts k (part_of b.accounts k) (times_of b.timers k) (control_at m.controls key (fire_on f.context (m.controls key)) k)
  keys = keys_fire a.program a.mails.mails b.mails.mails a.contexts b.contexts h.id h.free h.others same_answers a.accounts b.accounts a.timers b.timers key
      f.context h.epoch f.mark h.fired f.time m.controls h.part h.times x.keys front least h.made h.least

  idle_on : is_idle_on (m.controls key) ≡ true
  idle_on = ap₂ (λ (o : Option Context) (ws : List Waiting). is_idle_with o ws) front.owner front.waits

  known : list_any (bytes_eq key) m.keys ≡ true
  known = by_cases (list_any (bytes_eq key) m.keys) (λ e. e) (λ e. absurd (cc (sym front.waits ∙ (orderly.absent key e).waiting)))

  becomes : fire_on f.context (m.controls key) ≡ record { owner = Some (new_context f.context front.e (firing_job front.w least.time)); waiting = Mark front.e front.w least.left ∷ front.rest; times = least.later }
  becomes = fired_control f.context front.e front.w least.left least.time least.later front.rest (m.controls key) front.owner
      (front.waits ∙ ap (λ (n : ℕ). Mark front.e front.w n ∷ front.rest) least.most) least.times least.is_due

  abbrev behind : MachineControl
  behind = control_goes_on key None (fire_on f.context (m.controls key)) m

  flight : live_count b.contexts ≡ in_flight_on behind
  flight =
      let go : in_flight_on behind + contexts_on (m.controls key) ≡ in_flight_on m + contexts_on (fire_on f.context (m.controls key)) = flight_goes_on m orderly.rise key known None (fire_on f.context (m.controls key)) in
      let was : contexts_on (m.controls key) ≡ 0 + rows_in front.rest = ap₂ (λ (o : Option Context) (ws : List Waiting). owners o + rows_in ws) front.owner front.waits in
      let now : contexts_on (fire_on f.context (m.controls key)) ≡ 1 + rows_in front.rest = ap contexts_on becomes in
      omega (arith, go, was, now, h.len, x.flight)

  way : total length a.buffer.queues + (total length a.outs.items + length b.mails.mails) ≡ owed_in behind
  way =
      let go : owed_in behind + owed_to (m.controls key).owner ≡ owed_in m + owed_to (fire_on f.context (m.controls key)).owner = owed_goes_on m orderly.rise key known None (fire_on f.context (m.controls key)) in
      let was : owed_to (m.controls key).owner ≡ 0 = ap owed_to front.owner in
      let now : owed_to (fire_on f.context (m.controls key)).owner ≡ 1 = ap (λ (q : KeyControl). owed_to q.owner) becomes in
      let more : length b.mails.mails ≡ length a.mails.mails + 1 = ap length h.mails ∙ length-append a.mails.mails (mail.Fire h.id ∷ []) in
      let before : total length a.buffer.queues + (total length a.outs.items + length a.mails.mails) ≡ owed_in m = x.way in
      omega (arith, go, was, now, more, before)

  count : (u : ℕ) → epoch_count_on u behind ≡ epoch_count_on u m
  count u =
      let go : epoch_count_on u behind + control_of_epoch u (m.controls key) ≡ epoch_count_on u m + control_of_epoch u (fire_on f.context (m.controls key)) = epoch_goes_on m orderly.rise key known None (fire_on f.context (m.controls key)) u in
      let was : control_of_epoch u (m.controls key) ≡ 0 + (one_at u front.e + waiting_of_epoch u front.rest) = ap₂ (λ (o : Option Context) (ws : List Waiting). owner_of_epoch u o + waiting_of_epoch u ws) front.owner front.waits in
      let now : control_of_epoch u (fire_on f.context (m.controls key)) ≡ 0 + (one_at u front.e + waiting_of_epoch u front.rest) = ap (control_of_epoch u) becomes in
      omega (arith, go, was, now)

  busy_now : is_idle_on (control_at m.controls key (fire_on f.context (m.controls key)) key) ≡ false
  busy_now = ap is_idle_on (own_control m.controls key (fire_on f.context (m.controls key))) ∙ ap is_idle_on becomes

  other_key : (k : Key) → bytes_eq key k ≡ false → k ≡ key → ⊥
  other_key k e d = false_true (sym e ∙ (ap (bytes_eq key) d ∙ same_key key))

  listed : (k : Key) → is_idle_on (control_at m.controls key (fire_on f.context (m.controls key)) k) ≡ true → has_key b.accounts.idle k ≡ true
  listed k is = by_cases (bytes_eq key k)
      (λ e. false_true (sym busy_now ∙ (ap (λ (j : Key). is_idle_on (control_at m.controls key (fire_on f.context (m.controls key)) j)) (key_is key k e) ∙ is)))
      (λ e. ap (λ (ks : List Key). has_key ks k) h.idle ∙ (others_listed key k (other_key k e) a.accounts.idle
      ∙ x.idle k (other_key k e) (ap is_idle_on (sym (other_control m.controls key (fire_on f.context (m.controls key)) k e)) ∙ is)))

  stands : Stands (fired_one a b key f h none) behind
  stands = record {
    wm = x.wm;
    keys = keys;
    idle = listed;
    flight = flight;
    way = way;
    epochs = record { current = x.epochs.current; markers = x.epochs.markers; counts = λ e begun unsent. x.epochs.counts e begun unsent ∙ sym (count e); barrier = x.epochs.barrier };
  }

  allowed : MayFireNow key m.must → in_flight_on m < a.settings.in_flight → AllowedOn (rules_of a.settings) (Fire f.context key) m
  allowed now room = (now, idle_on, room, is_new a.program a.mails.mails a.contexts f.context h.number.free (λ k. part_of a.accounts k) (λ k. times_of a.timers k) m x.keys)

  pub stands_fire : IsReached (rules_of a.settings) (shown_program a.program) m → MayFireNow key m.must → in_flight_on m < a.settings.in_flight
      → StandsFor (fired_one a b key f h none) (happens_on (shown_program a.program) (Fire f.context key) None m)
  stands_fire reached now room = record {
    reached = event_reached (rules_of a.settings) (shown_program a.program) (Fire f.context key) None m reached (allowed now room) tt;
    stands = stands;
    settled = refl;
  }

  pub makes_fire : IsReached (rules_of a.settings) (shown_program a.program) m → MayFireNow key m.must → in_flight_on m < a.settings.in_flight → Makes a b (Fire f.context key) m
  makes_fire reached now room = record {
    allowed = allowed now room;
    stands = subst (λ (c : Controller). StandsFor c (happens_on (shown_program a.program) (Fire f.context key) None m)) (sym h.same) (stands_fire reached now room);
  }

  is_front : IsFront f (m.controls key).waiting
  is_front = subst (λ (ws : List Waiting). IsFront f ws) (sym front.waits) (sym front.mark.time)

  is_least : IsLeast f (m.controls key).times
  is_least = subst (λ (ts : List ℤ). IsLeast f ts) (sym least.times) same_time
    where
      time_in : Option ℤ → ℤ
      time_in None = least.time
      time_in (Some t) = t

      same_time : least.time ≡ f.time
      same_time = ap time_in (sym (ap least_time ((x.keys key).times ∙ least.times)) ∙ h.least)

  abbrev told : Key → Type 0
  told k = IsFront f (m.controls k).waiting × IsLeast f (m.controls k).times × Makes a b (Fire f.context k) m

  pub fires_as_told : IsReached (rules_of a.settings) (shown_program a.program) m → MayFireNow key m.must → in_flight_on m < a.settings.in_flight → Fires a b f m
  fires_as_told reached now room =
      let all : told f.key = subst told (sym h.named) (is_front, is_least, makes_fire reached now room) in
      record { mark = all.0; time = all.1; made = all.2 }

-- the key that has been idle longest

most_is : most_firings ≡ MOST_FIRINGS
unfolding most_firings
most_is = refl

record FrontMark (is : List Item) : Type 0 where
  epoch : ℕ
  mark : ℤ
  fired : ℕ
  front : next_of is ≡ next.Mark epoch mark fired

front_mark : (is : List Item) → is_mark (next_of is) ≡ true → FrontMark is
front_mark [] e = false_true e
front_mark (item.Row i ∷ is) e = false_true e
front_mark (item.Mark u v n ∷ is) e = record { epoch = u; mark = v; fired = n; front = refl }

none_is : {A : Type 0} (o : Option A) → is_none o ≡ true → o ≡ None
none_is None e = refl
none_is (Some x) e = false_true e

module _ (a : Controller) (s : IsSound a) (accepted : AreAccepted (shown_program a.program)) (may : may_fire a ≡ true) where
  orderly_at : (m : MachineControl) → StandsFor a m → IsOrderly (rules_of a.settings) m
  orderly_at m x = reached_orderly (rules_of a.settings) (shown_program a.program) m accepted x.reached

  room_at : (m : MachineControl) → StandsFor a m → in_flight_on m < a.settings.in_flight
  room_at m x = has_space a m x s.rooms (and_parts (has_room a) (not (is_empty a.accounts.idle)) may).0

  -- there is room for its start mail
  pub mail_left : length a.mails.mails < a.mails.room
  mail_left =
      let owed : owed_in s.control ≤ in_flight_on s.control * (program_width (shown_program a.program) + 1) = owed_bound a s.control s.stands.stands in
      let few : in_flight_on s.control + 1 ≤ a.settings.in_flight = omega (arith, room_at s.control s.stands) in
      let most : (in_flight_on s.control + 1) * (program_width (shown_program a.program) + 1) ≤ a.settings.in_flight * (program_width (shown_program a.program) + 1) = mul-le-mul_right (program_width (shown_program a.program) + 1) few in
      let split : (in_flight_on s.control + 1) * (program_width (shown_program a.program) + 1) ≡ in_flight_on s.control * (program_width (shown_program a.program) + 1) + 1 * (program_width (shown_program a.program) + 1) =
      add-mul (in_flight_on s.control) 1 (program_width (shown_program a.program) + 1) in
      omega (arith, owed, most, split, s.stands.stands.way, s.rooms.mails)

  module _ (sound : AreSound a.accounts) (key : Key) (first : first_of a.accounts.idle ≡ Some key) where
    idle_key : may_idle (part_of a.accounts key) ≡ true
    idle_key = of a.accounts.idle sound.idle first
      where
        of : (ks : List Key) → All (λ k. may_idle (part_of a.accounts k) ≡ true) ks → first_of ks ≡ Some key → may_idle (part_of a.accounts key) ≡ true
        of [] all e = absurd (cc e)
        of (k ∷ ks) all e = subst (λ (j : Key). may_idle (part_of a.accounts j) ≡ true) (same_Some k key e) (All-head (λ k. may_idle (part_of a.accounts k) ≡ true) k ks all)

    both : (is_none (owner_of a.accounts key) ≡ true) × (is_mark (next_of (waiting_of a.accounts key)) ≡ true)
    both = and_parts (is_none (owner_of a.accounts key)) (is_mark (next_of (waiting_of a.accounts key))) idle_key

    pub not_owned : owner_of a.accounts key ≡ None
    not_owned = none_is (owner_of a.accounts key) both.0

    mark_there : FrontMark (waiting_of a.accounts key)
    mark_there = front_mark (waiting_of a.accounts key) both.1

    in_front_there : InFront a.program a.mails.mails a.contexts key (part_of a.accounts key).waiting (s.control.controls key).owner (s.control.controls key).waiting mark_there.epoch mark_there.mark mark_there.fired
    in_front_there = in_front a.program a.mails.mails a.contexts key (part_of a.accounts key).owner (s.control.controls key).owner (part_of a.accounts key).waiting (s.control.controls key).waiting
        (s.stands.stands.keys key).owner (s.stands.stands.keys key).items not_owned mark_there.epoch mark_there.mark mark_there.fired mark_there.front

    least_there : FiresLeast in_front_there.w in_front_there.more (s.control.controls key).times
    least_there = fires_least in_front_there.w in_front_there.more (s.control.controls key).times
        ((orderly_at s.control s.stands).due key in_front_there.e in_front_there.w in_front_there.more in_front_there.rest in_front_there.owner in_front_there.waits)

    pub mark_left : mark_may_fire (next_of (waiting_of a.accounts key)) ≡ true
    mark_left = ap mark_may_fire mark_there.front ∙ lt-ltb mark_there.fired MOST_FIRINGS (omega (arith, in_front_there.mark.firings, least_there.most, most_is))

    pub timer_there : IsSome (least_time (times_of a.timers key))
    timer_there = ap (λ (ts : List ℤ). is_some (least_time ts)) ((s.stands.stands.keys key).times ∙ least_there.times)

    module _ (b : Controller) (f : Fired) (h : FiresAt a b key f) where
      pub fires_next : (m : MachineControl) → StandsFor a m → Fires a b f m
      fires_next m x = fires_as_told a b key f h not_owned m (stands_but a key m x.stands) (orderly_at m x) x.reached (subst (MayFireNow key) (sym x.settled) tt) (room_at m x)

      pub sound_next : IsSound b
      sound_next = subst IsSound (sym h.same) (record {
        ranges = s.ranges;
        rooms = record { contexts = h.limit ∙ s.rooms.contexts; requests = s.rooms.requests; mails = h.room ∙ s.rooms.mails };
        flow = flow_fires a b key f h not_owned s.flow;
        control = happens_on (shown_program a.program) (Fire f.context key) None s.control;
        stands = stands_fire a b key f h not_owned s.control (stands_but a key s.control s.stands.stands) (orderly_at s.control s.stands) s.stands.reached
            (subst (MayFireNow key) (sym s.stands.settled) tt) (room_at s.control s.stands);
      })

      pub same_next : SameRules a b
      same_next = record { program = ap (λ (d : Controller). d.program) h.same; settings = ap (λ (d : Controller). d.settings) h.same }

-- whether a key may fire
module _ (a : Controller) (m : MachineControl) (x : StandsFor a m) (rooms : HasRooms a) where
  pub may_is : AreSound a.accounts → may_fire a ≡ true → MayFireOn a m
  may_is sound t =
      let both : (has_room a ≡ true) × (not (is_empty a.accounts.idle) ≡ true) = and_parts (has_room a) (not (is_empty a.accounts.idle)) t in
      of a.accounts.idle sound.idle both.1 (has_space a m x rooms both.0)
    where
      of : (ks : List Key) → All (λ k. may_idle (part_of a.accounts k) ≡ true) ks → not (is_empty ks) ≡ true → in_flight_on m < a.settings.in_flight → MayFireOn a m
      of [] all e room = false_true e
      of (k ∷ ks) all e room = record {
        key = k;
        idle = idle_stands a.program a.mails.mails a.contexts k (part_of a.accounts k) (times_of a.timers k) (m.controls k) (x.stands.keys k) (All-head (λ k. may_idle (part_of a.accounts k) ≡ true) k ks all);
        room = room;
      }

  pub is_may : MayFireOn a m → may_fire a ≡ true
  is_may it = and_join (space_has a m x rooms it.room) (of a.accounts.idle (x.stands.idle it.key it.idle))
    where
      of : (ks : List Key) → has_key ks it.key ≡ true → not (is_empty ks) ≡ true
      of [] e = false_true e
      of (k ∷ ks) e = refl
