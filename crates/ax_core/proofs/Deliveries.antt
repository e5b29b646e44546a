-- Replies that become mails, as events of the machine.
use Rattle.std.proofs.Common.{◌≡◌, ℕ, ◌+◌, ◌*◌, ◌≤◌, not, List, [], ◌∷◌, ◌++◌, length, refl, sym, ap, ◌∙◌, subst, Option, Some, None, add-mul, mul-le-mul_right, length-append, arith}
use Rattle.ax_text.specs.Programs.{Program as AnyProgram, program_width}
use Rattle.ax_text.specs.Widths.{ControlWide}
use Rattle.ax_text.proofs.Wide.{slots_wide}
use Rattle.ax_lang.specs.declared.program.Program.{Program}
use Rattle.ax_lang.specs.Shown.{shown_program}
use Rattle.ax_future.specs.declared.machine.Machine.{Machine as CodeMachine}
use Rattle.ax_machine.specs.Entries.{Key}
use Rattle.ax_buffer.specs.declared.items.Reply.{Reply}
use Rattle.ax_buffer.specs.Buffer.{total}
use Rattle.ax_context.specs.declared.id.Id.{Id}
use Rattle.ax_context.specs.declared.contexts.Context.{Context as Held}
use Rattle.ax_context.specs.Slots.{Slots, at, live_count}
use Rattle.ax_account.specs.Accounts.{part_of}
use Rattle.ax_mailbox.specs.declared.mail.Mail.{Mail}
use Rattle.ax_execution.specs.Sums.{total as key_total}
use Rattle.ax_execution.specs.Contexts.{Stage, Unbegun, Begun, Context, owners, rows_in}
use Rattle.ax_execution.specs.Counts.{references}
use Rattle.ax_execution.specs.ControlTurns.{contexts_on}
use Rattle.ax_execution.specs.Machine.{Rules, Closed}
use Rattle.ax_execution.specs.Tests.{no_barrier}
use Rattle.ax_execution.specs.MachineControls.{MachineControl, in_flight_on, at_origin}
use Rattle.ax_execution.specs.ControlsAllowed.{Answered, IsRunOn, after_all_on}
use Rattle.ax_execution.specs.Reached.{IsReached, owed_to, owed_in}
use Rattle.ax_time.specs.Epochs.{markers_of}
use Rattle.ax_core.specs.declared.record.Record.{Record}
use Rattle.ax_core.specs.declared.controller.Controller.{Controller}
use Rattle.ax_core.specs.Contexts.{StageStands, ContextStands, wrapped}
use Rattle.ax_core.specs.Keys.{OwnerStands}
use Rattle.ax_core.specs.Flow.{one_if, named_as, answered_as, started_as, in_queues, in_outs, waits_for, IsFlow}
use Rattle.ax_core.specs.Contexts.{waits_at}
use Rattle.ax_core.specs.Epochs.{MarkersStand, EpochsStand}
use Rattle.ax_core.specs.Stands.{Stands}
use Rattle.ax_core.specs.Sound.{rules_of, StandsFor, IsSound}
use Rattle.ax_core.specs.Batches.{mails_in, Forgets}
use Rattle.ax_core.specs.Events.{SameRules, names_of, serves, ServesAll}
use Rattle.ax_core.proofs.Counting.{answered_append, started_append, answered_mails, started_mails, length_mails}
use Rattle.ax_core.proofs.Serves.{Keys, Served, serve_all}

-- events after events
pub run_append : (r : Rules) (p : AnyProgram) (xs ys : List Answered) (m : MachineControl) → IsRunOn r p xs m → IsRunOn r p ys (after_all_on p xs m) → IsRunOn r p (xs ++ ys) m
run_append r p [] ys m x y = y
run_append r p (h ∷ hs) ys m x y = (x.0, x.1, run_append r p hs ys _ x.2 y)

pub after_append : (p : AnyProgram) (xs ys : List Answered) (m : MachineControl) → after_all_on p (xs ++ ys) m ≡ after_all_on p ys (after_all_on p xs m)
after_append p [] ys m = refl
after_append p (h ∷ hs) ys m = after_append p hs ys _

pub reached_after : (r : Rules) (p : AnyProgram) (hs : List Answered) (m : MachineControl) → IsReached r p m → IsRunOn r p hs m → IsReached r p (after_all_on p hs m)
reached_after r p hs m x run = record {
  from = x.from;
  events = x.events ++ hs;
  origin = x.origin;
  run = run_append r p x.events hs (at_origin x.from) x.run (subst (IsRunOn r p hs) x.there run);
  there = ap (after_all_on p hs) x.there ∙ sym (after_append p x.events hs (at_origin x.from));
}

-- a context has at most one request more than the program is wide
module _ (p : Program) (mails : List Mail) (s : Slots Record) where
  width : ℕ
  width = program_width (shown_program p)

  stage_owes : (id : Id) (o : Option CodeMachine) (stage : Stage) → StageStands p mails id o stage → references stage ≤ program_width (shown_program p) + 1
  stage_owes id None Unbegun x = omega arith
  stage_owes id None (Begun r) x = absurd x
  stage_owes id (Some m) Unbegun x = absurd x
  stage_owes id (Some m) (Begun r) x = omega (arith, slots_wide (program_width (shown_program p)) r.control (subst (ControlWide (program_width (shown_program p))) x.control x.sound.wide))

  context_owes : (k : Key) (id : Id) (o : Option (Held Record)) (c : Context) → ContextStands p mails k id o c → references c.stage ≤ program_width (shown_program p) + 1
  context_owes k id None c x = absurd x
  context_owes k id (Some h) c x = stage_owes id h.payload.machine c.stage x.stage

  owner_owes : (k : Key) (o : Option Id) (c : Option Context) → OwnerStands p mails s k o c → owed_to c ≤ owners c * (program_width (shown_program p) + 1)
  owner_owes k o None x = omega arith
  owner_owes k None (Some c) x = absurd x
  owner_owes k (Some id) (Some c) x = omega (arith, context_owes k id (at s id) c x)

sum_bound : (f g : Key → ℕ) (w : ℕ) (ks : List Key) → ((k : Key) → f k ≤ g k * w) → key_total ks f ≤ key_total ks g * w
sum_bound f g w [] h = omega arith
sum_bound f g w (k ∷ ks) h = rw (add-mul (g k) (key_total ks g) w) (omega (arith, h k, sum_bound f g w ks h))

pub owed_bound : (a : Controller) (m : MachineControl) → Stands a m → owed_in m ≤ in_flight_on m * (program_width (shown_program a.program) + 1)
owed_bound a m x = sum_bound (λ (k : Key). owed_to (m.controls k).owner) (λ (k : Key). contexts_on (m.controls k)) (program_width (shown_program a.program) + 1) m.keys
    (λ k. more (owners (m.controls k).owner) (rows_in (m.controls k).waiting) (program_width (shown_program a.program) + 1) (owed_to (m.controls k).owner) (owner_owes a.program a.mails.mails a.contexts k (part_of a.accounts k).owner (m.controls k).owner (x.keys k).owner))
  where
    more : (a b w n : ℕ) → n ≤ a * w → n ≤ (a + b) * w
    more a b w n h = rw (add-mul a b w) (omega arith)

-- there is room for one mail more for each request that is out
pub mails_fit : (a : Controller) → IsSound a → live_count a.contexts ≤ a.contexts.limit → (n : ℕ) → n ≤ total length a.outs.items → length a.mails.mails + n ≤ a.mails.room
mails_fit a x few n h =
    let w : ℕ = program_width (shown_program a.program) + 1 in
    let one : owed_in x.control ≤ in_flight_on x.control * (program_width (shown_program a.program) + 1) = owed_bound a x.control x.stands.stands in
    let live : in_flight_on x.control ≤ a.settings.in_flight = omega (arith, x.stands.stands.flight, x.rooms.contexts) in
    let two : in_flight_on x.control * (program_width (shown_program a.program) + 1) ≤ a.settings.in_flight * (program_width (shown_program a.program) + 1) = mul-le-mul_right (program_width (shown_program a.program) + 1) live in
    omega (arith, x.stands.stands.way, x.rooms.mails)

module _ (a mid b : Controller) (rs : List Reply) (gone : Forgets a mid rs) (same : b ≡ record mid { mails = b.mails }) (mails : b.mails.mails ≡ mid.mails.mails ++ mails_in rs) (room : b.mails.room ≡ mid.mails.room) where
  c : Controller
  c = record a { outs = mid.outs; mails = b.mails }

  is_c : b ≡ record a { outs = mid.outs; mails = b.mails }
  is_c = same ∙ ap (λ (d : Controller). record d { mails = b.mails }) gone.same

  posted : b.mails.mails ≡ a.mails.mails ++ mails_in rs
  posted = mails ∙ ap (λ (d : Controller). d.mails.mails ++ mails_in rs) gone.same

  room_kept : b.mails.room ≡ a.mails.room
  room_kept = room ∙ ap (λ (d : Controller). d.mails.room) gone.same

  flow_kept : IsFlow a → IsFlow c
  unfolding c
  flow_kept flow = record {
    once = λ id slot.
        let one : answered_as id slot b.mails.mails ≡ answered_as id slot a.mails.mails + answered_as id slot (mails_in rs) = ap (answered_as id slot) posted ∙ answered_append id slot a.mails.mails (mails_in rs) in
        let two : in_queues a id slot + (in_outs mid id slot + answered_as id slot b.mails.mails) ≡ in_queues a id slot + (in_outs a id slot + answered_as id slot a.mails.mails) = omega (arith, gone.counts id slot, answered_mails id slot rs) in
        two ∙ flow.once id slot;
    starts = λ id.
        let one : started_as id b.mails.mails ≡ started_as id a.mails.mails + started_as id (mails_in rs) = ap (started_as id) posted ∙ started_append id a.mails.mails (mails_in rs) in
        let two : started_as id b.mails.mails ≡ started_as id a.mails.mails = omega (arith, started_mails id rs) in
        two ∙ flow.starts id;
    begun = flow.begun;
    queued = flow.queued;
    out = λ t n h. flow.out t n (gone.out t n h);
    shards = (flow.shards.0, gone.shards ∙ flow.shards.1);
  }

  is_open : IsFlow a → (id : Id) (slot : ℕ) → named_as id slot (names_of rs) + answered_as id slot a.mails.mails ≤ one_if (waits_for (waits_at a.program (at a.contexts id)) slot)
  is_open flow id slot = omega (arith, flow.once id slot, gone.counts id slot)

  module _ (flow : IsFlow a) (m : MachineControl) (x : StandsFor a m) where
    served : Served a (rules_of a.settings) a.mails.mails rs m
    served = serve_all a flow (rules_of a.settings) a.mails.mails rs m x.stands.keys (is_open flow) x.settled

    epochs_kept : EpochsStand a.epochs a.barrier m → EpochsStand a.epochs a.barrier (after_all_on (shown_program a.program) (serves a rs) m)
    epochs_kept y = record {
      current = y.current ∙ ap wrapped (sym served.epoch);
      markers = subst (MarkersStand (markers_of a.epochs.closed)) (sym served.unsent) y.markers;
      counts = λ e old more. y.counts e (omega (arith, served.epoch)) (omega (arith, served.epoch, ap length served.unsent)) ∙ sym (served.counts e);
      barrier = y.barrier ∙ ap (λ (cs : List Closed). not (no_barrier cs)) (sym served.unsent);
    }

    stands_kept : StandsFor c (after_all_on (shown_program a.program) (serves a rs) m)
    unfolding c
    stands_kept = record {
      reached = reached_after (rules_of a.settings) (shown_program a.program) (serves a rs) m x.reached served.run;
      stands = record {
        wm = x.stands.wm ∙ sym served.wm;
        keys = subst (λ (ms : List Mail). Keys a ms (after_all_on (shown_program a.program) (serves a rs) m)) (sym posted) served.keys;
        idle = λ k h. x.stands.idle k (sym (served.idle k) ∙ h);
        flight = x.stands.flight ∙ sym served.flight;
        way =
            let one : length b.mails.mails ≡ length a.mails.mails + length (mails_in rs) = ap length posted ∙ length-append a.mails.mails (mails_in rs) in
            omega (arith, x.stands.way, served.owed, gone.fewer, length_mails rs);
        epochs = epochs_kept x.stands.epochs;
      };
      settled = served.must ∙ x.settled;
    }

    pub serves_all : ServesAll a b rs m
    unfolding c
    serves_all = record { allowed = served.run; stands = subst (λ (d : Controller). StandsFor d (after_all_on (shown_program a.program) (serves a rs) m)) (sym is_c) stands_kept }

  pub sound_served : IsSound a → IsSound b
  unfolding c
  sound_served x = subst IsSound (sym is_c) (record {
    ranges = x.ranges;
    rooms = record { contexts = x.rooms.contexts; requests = x.rooms.requests; mails = room_kept ∙ x.rooms.mails };
    flow = flow_kept x.flow;
    control = after_all_on (shown_program a.program) (serves a rs) x.control;
    stands = stands_kept x.flow x.control x.stands;
  })

  pub same_served : SameRules a b
  same_served = record { program = ap (λ (d : Controller). d.program) is_c; settings = ap (λ (d : Controller). d.settings) is_c }
