-- A mail that is run: its callback and its end are the events of the machine.
use Rattle.std.proofs.Common.{◌≡◌, ℕ, ◌+◌, ℤ, Bool, true, false, List, [], ◌∷◌, length, Option, Some, None, IsSomeAnd, is_none, refl, sym, ap, ap₂, ◌∙◌, subst, ◌&&◌, ◌-◌, arith}
use Rattle.std.specs.Str.{bytes_eq}
use Rattle.std.proofs.lemmas.Bool.{cond-true, cond-false}
use Rattle.std.proofs.lemmas.List.{length-map}
use Rattle.ax_text.specs.declared.vocabulary.Answer.{Answer}
use Rattle.ax_text.specs.Controls.{Turn, is_done}
use Rattle.ax_lang.specs.declared.program.Program.{Program}
use Rattle.ax_lang.specs.Shown.{shown_program}
use Rattle.ax_future.specs.declared.callback.Turn.{Turn as CodeTurn}
use Rattle.ax_future.specs.declared.machine.Machine.{Machine}
use Rattle.ax_machine.specs.Entries.{Key, says}
use Rattle.ax_machine.proofs.FiringLemmas.{key_is, same_key}
use Rattle.ax_buffer.specs.Buffer.{total}
use Rattle.ax_context.specs.declared.id.Id.{Id}
use Rattle.ax_context.specs.declared.contexts.Context.{Context as Held}
use Rattle.ax_context.specs.Slots.{Slots, at, Has, IsPaid, OthersStay, live_count}
use Rattle.ax_account.specs.declared.part.Waiting.{Waiting as Item}
use Rattle.ax_account.specs.declared.part.Waiting.TheVariants as item
use Rattle.ax_account.specs.declared.part.Next.{Next}
use Rattle.ax_account.specs.declared.part.Next.TheVariants as next
use Rattle.ax_account.specs.Parts.{Part, next_of, taken_up, is_mark, may_idle}
use Rattle.ax_account.specs.Queues.{has_key}
use Rattle.ax_account.specs.Accounts.{part_of, waiting_of, Changes}
use Rattle.ax_mailbox.specs.declared.mail.Mail.{Mail}
use Rattle.ax_mailbox.specs.declared.mail.Mail.TheVariants as mail
use Rattle.ax_time.specs.Epochs.{Book, Fits64}
use Rattle.ax_time.specs.Timers.{times_of}
use Rattle.ax_execution.specs.Accepted.{AreAccepted}
use Rattle.ax_execution.specs.Contexts.{owners}
use Rattle.ax_execution.specs.KeyControls.{KeyControl}
use Rattle.ax_execution.specs.Machine.{Happening, Start, Deliver}
use Rattle.ax_execution.specs.Allowed.{MayFireNow}
use Rattle.ax_execution.specs.ControlTurns.{is_idle_on, handed_on}
use Rattle.ax_execution.specs.MachineControls.{MachineControl, control_at, happens_on, outcome_on, in_flight_on}
use Rattle.ax_execution.specs.ControlsAllowed.{AllowedOn}
use Rattle.ax_execution.specs.Reached.{IsReached, IsOrderly, owed_in}
use Rattle.ax_execution.proofs.SingleKeys.{own_control, other_control}
use Rattle.ax_execution.proofs.Upto.{by_cases}
use Rattle.ax_execution.proofs.ReachedLemmas.{event_reached}
use Rattle.ax_execution.proofs.ReachedOrderly.{reached_orderly}
use Rattle.ax_core.specs.declared.record.Record.{Record}
use Rattle.ax_core.specs.declared.effects.Fired.{Fired}
use Rattle.ax_core.specs.declared.effects.Ran.{Ran}
use Rattle.ax_core.specs.declared.effects.Ran.TheVariants as ran
use Rattle.ax_core.specs.declared.effects.Effects.{Effects}
use Rattle.ax_core.specs.declared.controller.Controller.{Controller}
use Rattle.ax_core.specs.Keys.{PartStands, KeyStands}
use Rattle.ax_core.specs.Flow.{on_the_way}
use Rattle.ax_core.specs.Epochs.{EpochsStand}
use Rattle.ax_core.specs.Stands.{Stands}
use Rattle.ax_core.specs.Sound.{rules_of, StandsFor, IsSound}
use Rattle.ax_core.specs.Events.{Fires, FiresNext, Runs, event_of, number_of, IsOwnedBy}
use Rattle.ax_core.specs.Firings.{FiresAt}
use Rattle.ax_core.specs.Callbacks.{with_machine, HasBegun, HasResumed, behind_marks, ended, all_left, row_epochs, with_start, waits_next, HandsOver, GoesOn}
use Rattle.ax_core.specs.Calls.{WaitsOn, IsGivenUp, GivesUp, EndsBy, CallEnds, Started, Replied, MayEnd}
use Rattle.ax_core.proofs.Called.{Calls, CallsBy, calls_start, calls_reply}
use Rattle.ax_core.proofs.CalledLemmas.{starts_by, posted_length, started_owner, way_called}
use Rattle.ax_core.proofs.CalledStands.{times_behind, control_behind, call_behind, ends_where, waits_where, control_waits, flight_waits, owed_waits, epoch_waits, keys_wait, flight_ends, owed_ends, keys_end, epochs_end, may_end}
use Rattle.ax_core.proofs.EventLemmas.{posted}
use Rattle.ax_core.proofs.Fronts.{behind_mail, IsStartOf}
use Rattle.ax_core.proofs.FiresStand.{StandsBut, fires_as_told}
use Rattle.ax_core.proofs.Open.{idle_as, idle_stands}
use Rattle.ax_core.proofs.TimerLemmas.{puts_at}

true_false : {A : Type 0} → true ≡ false → A
true_false e = absurd (cc e)

false_true : {A : Type 0} → false ≡ true → A
false_true e = absurd (cc e)

-- a key that is handed over is idle where a mark is in front
taken_idle : (is : List Item) → may_idle (taken_up is) ≡ is_mark (next_of is)
taken_idle [] = refl
taken_idle (item.Row i ∷ is) = refl
taken_idle (item.Mark u v fired ∷ is) = refl

posted_next : (p : Program) (ms : List Mail) (s : Slots Record) (n : Next) (key : Key) (part : Part) (times : List ℤ) (c : KeyControl) → PartStands p ms s key part times c → PartStands p (with_start n ms) s key part times c
posted_next p ms s next.Free key part times c h = h
posted_next p ms s (next.Row id) key part times c h = posted p ms s id key part times c h
posted_next p ms s (next.Mark e w fired) key part times c h = h

-- where no key must fire, all of them are listed
all_stand : (a : Controller) (key : Key) (m : MachineControl) → StandsBut a key m → is_idle_on (m.controls key) ≡ false → Stands a m
all_stand a key m x busy = record {
  wm = x.wm;
  keys = x.keys;
  idle = λ k i. by_cases (bytes_eq key k)
      (λ e. true_false (sym i ∙ ap (λ (j : Key). is_idle_on (m.controls j)) (sym (key_is key k e)) ∙ busy))
      (λ e. x.idle k (λ same. true_false (sym (same_key key) ∙ ap (bytes_eq key) (sym same) ∙ e)) i);
  flight = x.flight;
  way = x.way;
  epochs = x.epochs;
}

module _ (a : Controller) (m : MachineControl) (first : Mail) (ns : List Mail) (id : Id) (h : Held Record) (after : Machine) (t : CodeTurn) (e : Happening) (c : Calls a m ns id h after t e)
    (x : StandsFor a m) (accepted : AreAccepted (shown_program a.program)) (fits : Fits64 a.epochs) (taken : a.mails.mails ≡ first ∷ ns) (s : Slots Record) (paid : IsPaid a.contexts s id (with_machine h.payload after))
    (new : Controller) (f : Effects) (call : CallEnds (record (behind_mail a ns) { contexts = s }) new id (record h { payload = with_machine h.payload after }) t f) where
  abbrev key : Key
  key = h.payload.facts.key

  orderly : IsOrderly (rules_of a.settings) m
  orderly = reached_orderly (rules_of a.settings) (shown_program a.program) m accepted x.reached

  abbrev times : List ℤ
  times = times_behind a m ns id h after t e c x orderly

  abbrev control : KeyControl
  control = control_behind a m ns id h after t e c x orderly

  abbrev behind : MachineControl
  behind = call_behind a m ns id h after t e c x orderly

  reached : IsReached (rules_of a.settings) (shown_program a.program) behind
  reached = subst (IsReached (rules_of a.settings) (shown_program a.program)) c.goes (event_reached (rules_of a.settings) (shown_program a.program) e None m x.reached c.allowed c.answered)

  -- where the timers are set and the requests asked
  abbrev asked : Controller
  asked = record a { contexts = call.mid.contexts; buffer = call.mid.buffer; timers = call.mid.timers; mails = record { mails = ns; room = a.mails.room } }

  abbrev held : Held Record
  held = record { payload = with_machine h.payload after; epoch = h.epoch; number = h.number; count = h.count + length t.asks }

  ends : EndsBy asked new id held f.gone f.fired
  ends = subst (λ (d : Controller). EndsBy d new id held f.gone f.fired) call.done.same call.ends

  others_asked : OthersStay a.contexts call.mid.contexts id
  others_asked i differ = call.done.held.others i differ ∙ paid.others i differ

  live_asked : live_count call.mid.contexts ≡ live_count a.contexts
  live_asked = call.done.held.len ∙ paid.len

  queues_asked : total length call.mid.buffer.queues ≡ total length a.buffer.queues + length t.asks
  queues_asked =
      call.done.queued.total ∙ ap (λ (n : ℕ). total length a.buffer.queues + n) (length-map t.asks (λ q. record { id = id; slot = q.slot; key = h.payload.facts.key; request = q.request }))

  mails_taken : length ns + 1 ≡ length a.mails.mails
  mails_taken = let all : length a.mails.mails ≡ length (first ∷ ns) = ap length taken in omega (arith, all)

  differ_key : (k : Key) → (k ≡ key → ⊥) → bytes_eq key k ≡ false
  differ_key k differ = by_cases (bytes_eq key k) (λ y. absurd (differ (sym (key_is key k y)))) (λ y. y)

  -- what the callback is, behind its end
  record Ended (gone : Bool) (fired : Option Fired) : Type 0 where
    ends : is_done c.turn.control ≡ gone
    next : FiresNext a new fired behind

  -- ---- its context waits on

  module _ (w : WaitsOn asked new id held) where
    abbrev on : Controller
    on = record a { contexts = new.contexts; buffer = call.mid.buffer; timers = call.mid.timers; mails = record { mails = ns; room = a.mails.room } }

    waits : is_done c.turn.control ≡ false
    waits = waits_where a m ns id h after t e c x orderly w.more

    others_on : OthersStay a.contexts new.contexts id
    others_on i differ = w.others i differ ∙ others_asked i differ

    busy : is_idle_on control ≡ false
    busy = ap is_idle_on (control_waits a m ns id h after t e c x orderly waits)

    less : h.count + length t.asks - 1 + 1 ≡ h.count + length t.asks
    less = omega (arith, w.more)

    keys_on : (q : Key) → KeyStands on q (control_at m.controls key control q)
    keys_on = keys_wait a m ns id h after t e c x orderly waits new.contexts call.mid.timers (record held { count = h.count + length t.asks - 1 }) others_on call.done.times w.left refl refl refl less

    stands_on : StandsBut on key behind
    stands_on = record {
      wm = x.stands.wm;
      keys = keys_on;
      idle = λ k differ i. x.stands.idle k (sym (ap is_idle_on (other_control m.controls key control k (differ_key k differ))) ∙ i);
      flight = w.len ∙ live_asked ∙ x.stands.flight ∙ sym (flight_waits a m ns id h after t e c x orderly waits);
      way =
          let go : on_the_way on + 1 ≡ on_the_way a + (length t.asks + 0) = way_called a on (length t.asks) 0 queues_asked refl (omega (arith, mails_taken)) in
          let owed : owed_in behind + 1 ≡ owed_in m + length t.asks = owed_waits a m ns id h after t e c x orderly waits in
          omega (arith, go, owed, x.stands.way);
      epochs = record {
        current = x.stands.epochs.current;
        markers = x.stands.epochs.markers;
        counts = λ u begun unsent. x.stands.epochs.counts u begun unsent ∙ sym (epoch_waits a m ns id h after t e c x orderly waits u);
        barrier = x.stands.epochs.barrier;
      };
    }

    is_on : new ≡ on
    is_on = w.same

    waits_on : Ended false None
    waits_on = record {
      ends = waits;
      next = subst (λ (d : Controller). StandsFor d behind) (sym is_on) (record {
        reached = reached;
        stands = all_stand on key behind stands_on (ap is_idle_on (own_control m.controls key control) ∙ busy);
        settled = cond-false (is_idle_on control) (Some key) None busy;
      });
    }

  -- ---- its context is given up

  module _ (mid : Controller) (given : IsGivenUp asked mid id held) where
    abbrev left : Controller
    left = record a { contexts = mid.contexts; buffer = call.mid.buffer; timers = call.mid.timers; epochs = mid.epochs; mails = record { mails = ns; room = a.mails.room } }

    done : is_done c.turn.control ≡ true
    done = ends_where a m ns id h after t e c x orderly given.last

    others_left : OthersStay a.contexts mid.contexts id
    others_left i differ = given.others i differ ∙ others_asked i differ

    times_there : times_of call.mid.timers key ≡ times
    times_there = puts_at a.timers call.mid.timers key times call.done.times

    -- what waits for the key behind the marks that fire nothing
    abbrev waits_there : List Item
    waits_there = behind_marks times (waiting_of a.accounts key)

    epochs_left : EpochsStand (all_left (ended times (waiting_of a.accounts key)) (all_left (row_epochs h.payload.handler h.epoch) a.epochs)) a.barrier behind
    epochs_left = (epochs_end a m ns id h after t e c x orderly done fits).0

    -- the key is handed over
    module _ (b : Controller) (hands : HandsOver left b key) where
      abbrev over : Controller
      over = record a { contexts = mid.contexts; buffer = call.mid.buffer; timers = call.mid.timers; accounts = b.accounts; epochs = b.epochs; mails = b.mails }

      mails_over : b.mails.mails ≡ with_start (next_of waits_there) ns
      mails_over = hands.mails ∙ ap (λ (ts : List ℤ). with_start (next_of (behind_marks ts (waiting_of a.accounts key))) ns) times_there

      changes : Changes a.accounts b.accounts key (taken_up waits_there)
      changes = subst (λ (ts : List ℤ). Changes a.accounts b.accounts key (taken_up (behind_marks ts (waiting_of a.accounts key)))) times_there hands.part

      epochs_over : b.epochs ≡ all_left (ended times (waiting_of a.accounts key)) (all_left (row_epochs h.payload.handler h.epoch) a.epochs)
      epochs_over = hands.epochs ∙ ap₂ (λ (ts : List ℤ) (book : Book). all_left (ended ts (waiting_of a.accounts key)) book) times_there given.epochs

      keys_over : (q : Key) → KeyStands over q (control_at m.controls key control q)
      keys_over q = subst (λ (ms : List Mail). PartStands a.program ms mid.contexts q (part_of b.accounts q) (times_of call.mid.timers q) (control_at m.controls key control q)) (sym mails_over)
          (posted_next a.program ns mid.contexts (next_of waits_there) q (part_of b.accounts q) (times_of call.mid.timers q) (control_at m.controls key control q)
          (keys_end a m ns id h after t e c x orderly done mid.contexts call.mid.timers b.accounts others_left call.done.times changes q))

      stands_over : StandsBut over key behind
      stands_over = record {
        wm = x.stands.wm;
        keys = keys_over;
        idle = λ k differ i. ap (λ (ks : List Key). has_key ks k) hands.idle ∙ x.stands.idle k (sym (ap is_idle_on (other_control m.controls key control k (differ_key k differ))) ∙ i);
        flight =
            let fewer : in_flight_on behind + 1 ≡ in_flight_on m = flight_ends a m ns id h after t e c x orderly done in
            omega (arith, fewer, given.len, live_asked, x.stands.flight);
        way =
            let more : length b.mails.mails ≡ length ns + starts_by (next_of waits_there) = ap length mails_over ∙ posted_length (next_of waits_there) ns in
            let go : on_the_way over + 1 ≡ on_the_way a + (length t.asks + starts_by (next_of waits_there)) =
            way_called a over (length t.asks) (starts_by (next_of waits_there)) queues_asked refl (omega (arith, mails_taken, more)) in
            let owed : owed_in behind + 1 ≡ owed_in m + (length t.asks + owners (handed_on (m.controls key).waiting times).owner) = owed_ends a m ns id h after t e c x orderly done given.last in
            let same : starts_by (next_of waits_there) ≡ owners (handed_on (m.controls key).waiting times).owner =
            started_owner a.program a.mails.mails a.contexts key times (waiting_of a.accounts key) (m.controls key).waiting (x.stands.keys key).items in
            omega (arith, go, owed, same, x.stands.way);
        epochs = subst (λ (book : Book). EpochsStand book a.barrier behind) (sym epochs_over) epochs_left;
      }

      -- the key is idle where a mark is in front of it now
      idle_over : is_idle_on control ≡ is_mark (next_of (waits_next left key))
      idle_over =
          sym (ap is_idle_on (own_control m.controls key control))
          ∙ idle_as a.program b.mails.mails mid.contexts key (part_of b.accounts key) (times_of call.mid.timers key) (control_at m.controls key control key) (keys_over key)
          ∙ ap may_idle changes.own
          ∙ taken_idle waits_there
          ∙ sym (ap (λ (ts : List ℤ). is_mark (next_of (behind_marks ts (waiting_of a.accounts key)))) times_there)

      none_fires : b ≡ new → is_mark (next_of (waits_next left key)) ≡ false → Ended true None
      none_fires same quiet =
          let busy : is_idle_on control ≡ false = idle_over ∙ quiet in
          record {
            ends = done;
            next = subst (λ (d : Controller). StandsFor d behind) (sym hands.same ∙ same) (record {
              reached = reached;
              stands = all_stand over key behind stands_over (ap is_idle_on (own_control m.controls key control) ∙ busy);
              settled = cond-false (is_idle_on control) (Some key) None busy;
            });
          }

      orderly_over : IsOrderly (rules_of a.settings) behind
      orderly_over = reached_orderly (rules_of a.settings) (shown_program a.program) behind accepted reached

      one_fires : (fired : Fired) → FiresAt over new key fired → Ended true (Some fired)
      one_fires fired fire =
          let idle : is_idle_on control ≡ true =
          sym (ap is_idle_on (own_control m.controls key control))
          ∙ idle_stands a.program b.mails.mails mid.contexts key (part_of b.accounts key) (times_of call.mid.timers key) (control_at m.controls key control key) (keys_over key)
          (ap₂ (λ (o : Option Id) (n : Next). is_none o && is_mark n) fire.none fire.front) in
          let must : behind.must ≡ Some key = cond-true (is_idle_on control) (Some key) None idle in
          let told : Fires over new fired behind = fires_as_told over new key fired fire fire.none behind stands_over orderly_over reached (subst (MayFireNow key) (sym must) refl) (orderly_over.room key must).1 in
          record {
            ends = done;
            next = (must ∙ ap (λ (k : Key). Some k) (sym fire.named), record { mark = told.mark; time = told.time; made = record { allowed = told.made.allowed; stands = told.made.stands } });
          }

  given_up : (fired : Option Fired) → GivesUp asked new id held fired → Ended true fired
  given_up fired g = of fired (subst (λ (d : Controller). GoesOn d new key fired) g.given.same g.goes)
    where
      of : (o : Option Fired) → GoesOn (left g.mid g.given) new key o → Ended true o
      of None y = none_fires g.mid g.given new y.1 refl y.0
      of (Some fd) y = one_fires g.mid g.given y.0 y.1.0 fd (subst (λ (d : Controller). FiresAt d new key fd) y.1.0.same y.1.1)

  ended_by : (gone : Bool) (fired : Option Fired) → EndsBy asked new id held gone fired → Ended gone fired
  ended_by false None y = waits_on y
  ended_by false (Some fd) y = absurd y
  ended_by true fired y = given_up fired y

  -- ---- the events

  -- what is told of a callback of a key
  record Told (k : Key) (happening : Happening) : Type 0 where
    owner : IsOwnedBy h.number (m.controls k).owner
    allowed : AllowedOn (rules_of a.settings) happening m
    lines : (outcome_on (shown_program a.program) happening m).lines ≡ says k f.outs
    gone : (outcome_on (shown_program a.program) happening m).gone ≡ f.gone
    next : FiresNext a new f.fired (happens_on (shown_program a.program) happening None m)

  told : Told key e
  told =
      let it : Ended f.gone f.fired = ended_by f.gone f.fired ends in
      record {
        owner = subst (IsOwnedBy h.number) (sym c.owner) (sym c.stands.number);
        allowed = c.allowed;
        lines = c.lines ∙ ap (λ (y : Turn). says key y.talk.lines) c.left ∙ ap (says key) (sym call.outs);
        gone = c.gone ∙ it.ends;
        next = subst (λ (n : MachineControl). FiresNext a new f.fired n) (sym c.goes) it.next;
      }

  -- as the call says which callback it was
  pub runs_as : (r : Ran) → f.ran ≡ r → number_of r ≡ h.number → event_of key r ≡ e → Runs a new f m
  runs_as r is number event =
      let at_key : Told f.key (event_of f.key f.ran) =
      subst (λ (k : Key). Told k (event_of k f.ran)) (sym call.key) (subst (Told key) (sym event ∙ ap (event_of key) (sym is)) told) in
      record {
        owner = subst (λ (n : ℕ). IsOwnedBy n (m.controls f.key).owner) (sym (ap number_of is ∙ number)) at_key.owner;
        allowed = at_key.allowed;
        lines = at_key.lines;
        gone = at_key.gone;
        next = at_key.next;
      }

-- ---- the mails

pub both_there : {X : Type 0} {P Q : X → Type 0} {R : Type 0} (o : Option X) → IsSomeAnd o P → IsSomeAnd o Q → ((y : X) → o ≡ Some y → P y → Q y → R) → R
both_there None p q go = absurd p
both_there (Some y) p q go = go y refl p q

module _ (a new : Controller) (first : Mail) (ns : List Mail) (id : Id) (f : Effects) (sound : IsSound a) (accepted : AreAccepted (shown_program a.program)) (fits : Fits64 a.epochs) (taken : a.mails.mails ≡ first ∷ ns) where
  -- a handler begins
  pub runs_start : IsStartOf id first → Has a.contexts id (λ h. f.ran ≡ ran.Start h.number) → Has a.contexts id (Started (behind_mail a ns) new id f)
      → (m : MachineControl) → StandsFor a m → Runs a new f m
  runs_start starts said started m x = both_there (at a.contexts id) said started of
    where
      of : (h : Held Record) → at a.contexts id ≡ Some h → f.ran ≡ ran.Start h.number → Started (behind_mail a ns) new id f h → Runs a new f m
      of h here is it =
          let b : HasBegun a.program a.contexts it.contexts id h it.turn = it.begun in
          let payload : it.begun.payload ≡ with_machine h.payload it.begun.begins.after = it.begun.begins.there in
          runs_as a m first ns id h it.begun.begins.after it.turn (Start h.payload.facts.key) (calls_start a m first ns id h it.contexts it.turn sound.flow x taken starts here b) x accepted fits taken it.contexts
          (subst (λ (r : Record). IsPaid a.contexts it.contexts id r) payload it.begun.paid) new f
          (subst (λ (r : Record). CallEnds (record (behind_mail a ns) { contexts = it.contexts }) new id (record h { payload = r }) it.turn f) payload it.ended)
          (ran.Start h.number) is refl refl

  -- it is given an answer
  pub runs_reply : (slot : ℕ) (answer : Answer) → first ≡ mail.Reply id slot answer → Has a.contexts id (λ h. f.ran ≡ ran.Reply h.number slot)
      → Has a.contexts id (Replied (behind_mail a ns) new id slot answer f) → (m : MachineControl) → StandsFor a m → Runs a new f m
  runs_reply slot answer replies said replied m x = both_there (at a.contexts id) said replied of
    where
      of : (h : Held Record) → at a.contexts id ≡ Some h → f.ran ≡ ran.Reply h.number slot → Replied (behind_mail a ns) new id slot answer f h → Runs a new f m
      of h here is it =
          let by : CallsBy a m ns id h it.resumed.payload it.turn (Deliver h.payload.facts.key slot) =
          calls_reply a m ns id slot answer h it.contexts it.turn sound.flow x (taken ∙ ap (λ (y : Mail). y ∷ ns) replies) here it.resumed in
          runs_as a m first ns id h by.after it.turn (Deliver h.payload.facts.key slot) by.calls x accepted fits taken it.contexts
          (subst (λ (r : Record). IsPaid a.contexts it.contexts id r) by.payload it.resumed.paid) new f
          (subst (λ (r : Record). CallEnds (record (behind_mail a ns) { contexts = it.contexts }) new id (record h { payload = r }) it.turn f) by.payload it.ended)
          (ran.Reply h.number slot) is refl refl

-- the end of such a callback may come, where its handler has begun or was given the answer
module _ (a : Controller) (first : Mail) (ns : List Mail) (id : Id) (sound : IsSound a) (accepted : AreAccepted (shown_program a.program)) (fits : Fits64 a.epochs) (taken : a.mails.mails ≡ first ∷ ns) where
  orderly_now : IsOrderly (rules_of a.settings) sound.control
  orderly_now = reached_orderly (rules_of a.settings) (shown_program a.program) sound.control accepted sound.stands.reached

  pub ends_start : IsStartOf id first → (s : Slots Record) (t : CodeTurn) (h : Held Record) → at a.contexts id ≡ Some h → (b : HasBegun a.program a.contexts s id h t)
      → MayEnd (record (behind_mail a ns) { contexts = s }) id t (record h { payload = b.payload })
  ends_start starts s t h here b =
      subst (λ (r : Record). MayEnd (record (behind_mail a ns) { contexts = s }) id t (record h { payload = r })) (sym b.begins.there)
      (may_end a sound.control ns id h b.begins.after t (Start h.payload.facts.key) (calls_start a sound.control first ns id h s t sound.flow sound.stands taken starts here b) sound.stands orderly_now s fits)

  pub ends_reply : (slot : ℕ) (answer : Answer) → first ≡ mail.Reply id slot answer → (s : Slots Record) (t : CodeTurn) (h : Held Record) → at a.contexts id ≡ Some h
      → (b : HasResumed a.program a.contexts s id h slot answer t) → MayEnd (record (behind_mail a ns) { contexts = s }) id t (record h { payload = b.payload })
  ends_reply slot answer replies s t h here b =
      let by : CallsBy a sound.control ns id h b.payload t (Deliver h.payload.facts.key slot) =
      calls_reply a sound.control ns id slot answer h s t sound.flow sound.stands (taken ∙ ap (λ (y : Mail). y ∷ ns) replies) here b in
      subst (λ (r : Record). MayEnd (record (behind_mail a ns) { contexts = s }) id t (record h { payload = r })) (sym by.payload)
      (may_end a sound.control ns id h by.after t (Deliver h.payload.facts.key slot) by.calls sound.stands orderly_now s fits)
