-- The controller behind a marker that is sent, and where none can be.
use Rattle.std.proofs.Common.{◌≡◌, ◌<◌, ℕ, suc, ◌+◌, ◌%◌, ◌^◌, List, [], ◌∷◌, length, drop, Bool, true, false, not, cond, ◌&&◌, ◌==◌, Option, Some, None, refl, sym, ap, ◌∙◌, subst, arith, eqb-true}
use Rattle.std.specs.Prelude.{unwrap_or}
use Rattle.std.proofs.lemmas.Bool.{cond-true, cond-false, eq-eqb}
use Rattle.ax_lang.specs.Shown.{shown_program}
use Rattle.ax_time.specs.declared.epoch.Marker.{Marker}
use Rattle.ax_time.specs.declared.epoch.Closed.{Closed as Ended}
use Rattle.ax_time.specs.Epochs.{Book, Fits64, current_of, count_of, markers_of, is_finished, next_action, taken}
use Rattle.ax_execution.specs.Machine.{Closing, ByWatermark, ByBarrier, Closed, Send}
use Rattle.ax_execution.specs.Allowed.{IsWatermark}
use Rattle.ax_execution.specs.Tests.{is_watermark, no_barrier}
use Rattle.ax_execution.specs.MachineControls.{MachineControl, send_first_on, happens_on}
use Rattle.ax_execution.specs.ControlsAllowed.{AllowedOn, FirstIsFinishedOn}
use Rattle.ax_execution.specs.Reached.{IsReached, IsOrderly}
use Rattle.ax_execution.proofs.ReachedLemmas.{event_reached}
use Rattle.ax_execution.proofs.ReachedOrderly.{reached_orderly}
use Rattle.ax_core.specs.declared.controller.Controller.{Controller}
use Rattle.ax_core.specs.Contexts.{wrapped}
use Rattle.ax_core.specs.Epochs.{marker_of, closing_of, MarkersStand, EpochsStand}
use Rattle.ax_core.specs.Closings.{barrier_left}
use Rattle.ax_core.specs.Sound.{rules_of, StandsFor, IsSound}
use Rattle.ax_core.specs.Events.{IsFirstClosed, Sends, StaysUnsent, SendsNext}
use Rattle.ax_core.proofs.Sends.{accepted, BarrierLast, barrier_last, finished_zero, zero_finished}

-- a controller with another book
abbrev pub with_epochs : Controller → Bool → Book → Controller
with_epochs a barrier book = record {
  alloc = a.alloc;
  program = a.program;
  settings = a.settings;
  wm = a.wm;
  barrier = barrier;
  contexts = a.contexts;
  accounts = a.accounts;
  buffer = a.buffer;
  outs = a.outs;
  mails = a.mails;
  timers = a.timers;
  epochs = book;
  spare = a.spare;
}

none_some : {A : Type 0} {x : A} → None ≡ Some x → ⊥
none_some h = cc h

-- the oldest closed epoch, where it can be sent
record First (cs : List Ended) (k : Marker) : Type 0 where
  epoch : Ended
  rest : List Ended
  closed : cs ≡ epoch ∷ rest
  zero_left : epoch.count ≡ 0
  marker_is : k ≡ epoch.marker
  finished : is_finished cs 0 ≡ true

first_of : (cs : List Ended) (k : Marker) → Some k ≡ next_action cs → First cs k
first_of [] k e = absurd (none_some (sym e))
first_of (c ∷ cs) k e = of (c.count == 0) refl e
  where
    of : (b : Bool) → (c.count == 0) ≡ b → Some k ≡ cond b (Some c.marker) None → First (c ∷ cs) k
    of true x y = record { epoch = c; rest = cs; closed = refl; zero_left = eqb-true c.count 0 x; marker_is = ap (λ (o : Option Marker). unwrap_or o k) y; finished = x }
    of false x y = absurd (none_some (sym y))

none_finished_yet : (cs : List Ended) → None ≡ next_action cs → is_finished cs 0 ≡ false
none_finished_yet [] e = refl
none_finished_yet (c ∷ cs) e = of (c.count == 0) e
  where
    of : (b : Bool) → None ≡ cond b (Some c.marker) None → b ≡ false
    of true y = absurd (none_some y)
    of false y = refl

back_again : (c : Closing) → closing_of (marker_of c) ≡ c
back_again (ByWatermark w) = refl
back_again (ByBarrier id) = refl

-- the markers and the book, where the first is gone
barrier_behind : (c : Closing) (ds : List Closed) (b : Bool) → b ≡ not (is_watermark c && no_barrier ds) → ((IsWatermark c → ⊥) → ds ≡ []) → barrier_left b (Some (marker_of c)) ≡ not (no_barrier ds)
barrier_behind (ByWatermark w) ds b e last = e
barrier_behind (ByBarrier id) ds b e last = sym (ap (λ (xs : List Closed). not (no_barrier xs)) (last (λ x. x)))

current_behind : (oldest n x : ℕ) → (oldest + suc n) % 2 ^ 64 ≡ x → ((oldest + 1) % 2 ^ 64 + n) % 2 ^ 64 ≡ x
current_behind oldest n x e = omega (arith, e)

small : (e : ℕ) → wrapped e < 2 ^ 64
small e = omega arith

-- the law of the book that no count changes where the oldest epoch is taken
abbrev pub CountsStay : Type 0
CountsStay = (book : Book) (epoch : ℕ) → Fits64 book → epoch < 2 ^ 64 → count_of (taken book) epoch ≡ count_of book epoch

module _ (law : CountsStay) (a : Controller) (k : Marker) (fits : Fits64 a.epochs) (action : Some k ≡ next_action a.epochs.closed) (m : MachineControl) (h : StandsFor a m) where
  o : IsOrderly (rules_of a.settings) m
  o = reached_orderly (rules_of a.settings) (shown_program a.program) m (accepted a.program) h.reached

  stand : EpochsStand a.epochs a.barrier m
  stand = h.stands.epochs

  one : First a.epochs.closed k
  one = first_of a.epochs.closed k action

  -- with the oldest closed epoch of the machine
  of_first : (d : Closed) (ds : List Closed) → m.unsent ≡ d ∷ ds → Sends a (with_epochs a (barrier_left a.barrier (Some k)) (taken a.epochs)) k m
  of_first d ds unsent = record {
    first = subst (IsFirstClosed k) (sym unsent) (ap closing_of marker_here ∙ back_again d.closing);
    made = record { allowed = may; stands = subst (λ (x : MachineControl). StandsFor next x) (ap (λ (xs : List Closed). send_first_on xs m) (sym unsent)) behind };
  }
    where
      next : Controller
      next = with_epochs a (barrier_left a.barrier (Some k)) (taken a.epochs)

      pair : MarkersStand (one.epoch.marker ∷ markers_of one.rest) (d ∷ ds)
      pair = subst (λ (xs : List Ended). MarkersStand (markers_of xs) (d ∷ ds)) one.closed (subst (MarkersStand (markers_of a.epochs.closed)) unsent stand.markers)

      marker_here : k ≡ marker_of d.closing
      marker_here = one.marker_is ∙ pair.0

      may : AllowedOn (rules_of a.settings) Send m
      may = (
        h.settled,
        subst (λ (xs : List Closed). FirstIsFinishedOn xs m) (sym unsent)
            (zero_finished a.epochs a.barrier (rules_of a.settings) m fits stand o one.epoch one.rest d ds one.closed unsent one.zero_left),
      )

      gone : taken a.epochs ≡ record { oldest = (a.epochs.oldest + 1) % 2 ^ 64; closed = one.rest; count = a.epochs.count }
      gone = cond-true (is_finished a.epochs.closed 0) (record { oldest = (a.epochs.oldest + 1) % 2 ^ 64; closed = drop 1 a.epochs.closed; count = a.epochs.count }) a.epochs one.finished
          ∙ ap (λ (xs : List Ended). record { oldest = (a.epochs.oldest + 1) % 2 ^ 64; closed = drop 1 xs; count = a.epochs.count }) one.closed

      before : (a.epochs.oldest + suc (length one.rest)) % 2 ^ 64 ≡ wrapped m.epoch
      before = ap (λ (xs : List Ended). (a.epochs.oldest + length xs) % 2 ^ 64) (sym one.closed) ∙ stand.current

      last : BarrierLast (d ∷ ds)
      last = subst BarrierLast unsent (barrier_last (rules_of a.settings) (shown_program a.program) m h.reached)

      epochs : EpochsStand (taken a.epochs) (barrier_left a.barrier (Some k)) (send_first_on (d ∷ ds) m)
      epochs = record {
        current = ap current_of gone ∙ current_behind a.epochs.oldest (length one.rest) (wrapped m.epoch) before;
        markers = subst (λ (b : Book). MarkersStand (markers_of b.closed) ds) (sym gone) pair.1;
        counts = λ e x y. law a.epochs (wrapped e) fits (small e)
            ∙ stand.counts e x (let z : length m.unsent ≡ suc (length ds) = ap length unsent in omega arith);
        barrier = ap (λ (j : Marker). barrier_left a.barrier (Some j)) marker_here
            ∙ barrier_behind d.closing ds a.barrier (stand.barrier ∙ ap (λ (xs : List Closed). not (no_barrier xs)) unsent) last.0;
      }

      behind : StandsFor next (send_first_on (d ∷ ds) m)
      behind = record {
        reached = subst (IsReached (rules_of a.settings) (shown_program a.program)) (ap (λ (xs : List Closed). send_first_on xs m) unsent)
            (event_reached (rules_of a.settings) (shown_program a.program) Send None m h.reached may tt);
        stands = record { wm = h.stands.wm; keys = h.stands.keys; idle = h.stands.idle; flight = h.stands.flight; way = h.stands.way; epochs = epochs };
        settled = h.settled;
      }

  sends : Sends a (with_epochs a (barrier_left a.barrier (Some k)) (taken a.epochs)) k m
  sends = of m.unsent refl
    where
      of : (ds : List Closed) → m.unsent ≡ ds → Sends a (with_epochs a (barrier_left a.barrier (Some k)) (taken a.epochs)) k m
      of [] e = absurd (subst (MarkersStand (one.epoch.marker ∷ markers_of one.rest)) e (subst (λ (xs : List Ended). MarkersStand (markers_of xs) m.unsent) one.closed stand.markers))
      of (d ∷ ds) e = of_first d ds e

-- the controller is sound behind it
sent_sound : CountsStay → (a : Controller) (k : Marker) → Fits64 a.epochs → Some k ≡ next_action a.epochs.closed → IsSound a → IsSound (with_epochs a (barrier_left a.barrier (Some k)) (taken a.epochs))
sent_sound law a k fits action h = record {
  ranges = h.ranges;
  rooms = record { contexts = h.rooms.contexts; requests = h.rooms.requests; mails = h.rooms.mails };
  flow = record { once = h.flow.once; starts = h.flow.starts; begun = h.flow.begun; queued = h.flow.queued; out = h.flow.out; shards = h.flow.shards };
  control = happens_on (shown_program a.program) Send None h.control;
  stands = (sends law a k fits action h.control h.stands).made.stands;
}

-- nothing is sent
stays_unsent : (a : Controller) → Fits64 a.epochs → None ≡ next_action a.epochs.closed → (m : MachineControl) → StandsFor a m → StaysUnsent a (with_epochs a a.barrier (taken a.epochs)) m
stays_unsent a fits action m h = record {
  unfinished = of a.epochs.closed m.unsent refl refl (none_finished_yet a.epochs.closed action);
  same = ap (with_epochs a a.barrier) (cond-false (is_finished a.epochs.closed 0) (record { oldest = (a.epochs.oldest + 1) % 2 ^ 64; closed = drop 1 a.epochs.closed; count = a.epochs.count }) a.epochs (none_finished_yet a.epochs.closed action));
}
  where
    o : IsOrderly (rules_of a.settings) m
    o = reached_orderly (rules_of a.settings) (shown_program a.program) m (accepted a.program) h.reached

    true_false : true ≡ false → ⊥
    true_false e = cc e

    of : (cs : List Ended) (ds : List Closed) → a.epochs.closed ≡ cs → m.unsent ≡ ds → is_finished cs 0 ≡ false → FirstIsFinishedOn m.unsent m → ⊥
    of cs [] x y z done = subst (λ (xs : List Closed). FirstIsFinishedOn xs m) y done
    of [] (d ∷ ds) x y z done = subst (MarkersStand []) y (subst (λ (xs : List Ended). MarkersStand (markers_of xs) m.unsent) x h.stands.epochs.markers)
    of (c ∷ cs) (d ∷ ds) x y z done =
        let none : c.count ≡ 0 = finished_zero a.epochs a.barrier (rules_of a.settings) m fits h.stands.epochs o c cs d ds x y (subst (λ (xs : List Closed). FirstIsFinishedOn xs m) y done) in
        true_false (sym (eq-eqb c.count 0 none) ∙ z)

-- what is taken from the book is sent
module _ (law : CountsStay) (a : Controller) (o : Option Marker) (b : Bool) (book : Book) (fits : Fits64 a.epochs)
    (action : o ≡ next_action a.epochs.closed) (gone : book ≡ taken a.epochs) (left : b ≡ barrier_left a.barrier o) where
  given : (P : Controller → Type 0) → P (with_epochs a (barrier_left a.barrier o) (taken a.epochs)) → P (with_epochs a b book)
  given P h = subst (λ (x : Bool). P (with_epochs a x book)) (sym left) (subst (λ (x : Book). P (with_epochs a (barrier_left a.barrier o) x)) (sym gone) h)

  pub next_sent : (m : MachineControl) → StandsFor a m → SendsNext a (with_epochs a b book) o m
  next_sent m h = given (λ (x : Controller). SendsNext a x o m) (of o action)
    where
      of : (x : Option Marker) → x ≡ next_action a.epochs.closed → SendsNext a (with_epochs a (barrier_left a.barrier x) (taken a.epochs)) x m
      of None e = stays_unsent a fits e m h
      of (Some k) e = sends law a k fits e m h

  pub next_sound : IsSound a → IsSound (with_epochs a b book)
  next_sound h = given IsSound (of o action)
    where
      of : (x : Option Marker) → x ≡ next_action a.epochs.closed → IsSound (with_epochs a (barrier_left a.barrier x) (taken a.epochs))
      of None e = subst IsSound (sym (stays_unsent a fits e h.control h.stands).same) h
      of (Some k) e = sent_sound law a k fits e h
