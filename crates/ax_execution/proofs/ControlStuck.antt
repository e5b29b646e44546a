-- A control that is reached is never stuck, and rests where nothing of it is left.
use Rattle.std.proofs.Common.{◌≡◌, ℕ, ◌+◌, ◌≤◌, ◌<◌, List, [], ◌∷◌, length, true, false, Option, Some, None, refl, sym, ap, ap₂, ◌∙◌, arith, subst}
use Rattle.std.specs.Str.{bytes_eq}
use Rattle.std.specs.List.{list_any}
use Rattle.ax_text.specs.Programs.{Program}
use Rattle.ax_machine.specs.Entries.{Key}
use Rattle.ax_execution.specs.Accepted.{AreAccepted}
use Rattle.ax_execution.specs.Contexts.{Context, Waiting, Row, Mark, owners, rows_in, is_idle_with}
use Rattle.ax_execution.specs.Counts.{references}
use Rattle.ax_execution.specs.ControlTurns.{is_idle_on, contexts_on}
use Rattle.ax_execution.specs.Machine.{Machine, Closed, Happening, Admit, Close, Fire, Start, Serve, Deliver, Send, Rules, IsAtRest, IsWork}
use Rattle.ax_execution.specs.Allowed.{OwnedLater, WaitLater, StageUnbegun, StageAsks, StageHas, OfOwner, Allowed}
use Rattle.ax_execution.specs.MachineControls.{MachineControl, control_of_machine, in_flight_on}
use Rattle.ax_execution.specs.ControlsAllowed.{NoneIsIdleOn, FirstIsFinishedOn, AllowedOn}
use Rattle.ax_execution.specs.ControlOrder.{IsInOrder, AreSound}
use Rattle.ax_execution.specs.ControlRest.{IsAtRestOn}
use Rattle.ax_execution.specs.Reached.{IsReached, IsOpenEpoch, WaitingOpen, MarksBelow, IsOrderly, owed_to, owed_in}
use Rattle.ax_execution.proofs.Handlers.{Good, handles}
use Rattle.ax_execution.proofs.KeySums.{in_total}
use Rattle.ax_execution.proofs.Upto.{by_cases}
use Rattle.ax_execution.proofs.Stuck.{zeros, at_rest}
use Rattle.ax_execution.proofs.Orderly.{fresh_number, is_new}
use Rattle.ax_execution.proofs.ControlsAllowed.{allowed_to}
use Rattle.ax_execution.proofs.ControlOrder.{bare_machine, order_to, same_control}
use Rattle.ax_execution.proofs.ControlReferences.{owner_has}
use Rattle.ax_execution.proofs.ControlSound.{owner_good}
use Rattle.ax_execution.proofs.ReachedOrderly.{reached_orderly, reached_in_order, reached_sound}

true_false : true ≡ false → ⊥
true_false e = cc e

none_owns : (o : Option Context) → owners o ≡ 0 → o ≡ None
none_owns None h = refl
none_owns (Some c) h = absurd (omega (arith, h))

-- where nothing is left, no event is allowed that takes nothing of the input

rest_idle : (m : MachineControl) → IsAtRestOn m → NoneIsIdleOn m
rest_idle m h k = ap₂ is_idle_with (h.owners k) (h.waiting k)

pub rest_blocks : (r : Rules) (m : MachineControl) (e : Happening) → IsAtRestOn m → IsWork e → AllowedOn r e m → ⊥
rest_blocks r m (Admit n k time values) h w a = w
rest_blocks r m (Close c) h w a = w
rest_blocks r m (Fire n k) h w a = true_false (sym a.1 ∙ rest_idle m h k)
rest_blocks r m (Start k) h w a = subst (OfOwner StageUnbegun) (h.owners k) a.1
rest_blocks r m (Serve k slot) h w a = subst (OfOwner (StageAsks slot)) (h.owners k) a.1
rest_blocks r m (Deliver k slot) h w a = subst (OfOwner (StageHas slot)) (h.owners k) a.1
rest_blocks r m Send h w a = subst (λ (cs : List Closed). FirstIsFinishedOn cs m) h.unsent a.1

pub rest_none_on : (m : MachineControl) → IsAtRestOn m → (in_flight_on m ≡ 0) × (m.unsent ≡ []) × NoneIsIdleOn m
rest_none_on m h = (
  zeros (λ k. contexts_on (m.controls k)) m.keys (λ k. ap₂ (λ (o : Option Context) (is : List Waiting). owners o + rows_in is) (h.owners k) (h.waiting k)),
  h.unsent,
  rest_idle m h,
)

module _ (r : Rules) (p : Program) (m : MachineControl) (accepted : AreAccepted p) (reached : IsReached r p m) where
  in_order : IsInOrder r m
  in_order = reached_in_order r p m accepted reached

  sound : AreSound m
  sound = reached_sound r p m accepted reached

  orderly : IsOrderly r m
  orderly = reached_orderly r p m accepted reached

  -- as for a machine with this control
  pub stuck_on : 0 < r.limit → ((e : Happening) → IsWork e → AllowedOn r e m → ⊥) → IsAtRestOn m
  unfolding bare_machine
  stuck_on some none = record { owners = rest.owners; waiting = rest.waiting; unsent = rest.unsent }
    where
      here : Machine
      here = bare_machine m

      rest : IsAtRest (bare_machine m)
      rest = at_rest r (bare_machine m) (order_to r m in_order).sound some (fresh_number (bare_machine m)) (is_new r (bare_machine m) (order_to r m in_order)) Good
          (λ k. owner_good (m.controls k).owner (sound k)) (handles p accepted).waits
          (λ e w h. none e w (subst (AllowedOn r e) (same_control r m in_order) (allowed_to r e (bare_machine m) h)))

  -- nothing is in flight

  owed_one : (k : Key) → owed_in m ≡ 0 → owed_to (m.controls k).owner ≡ 0
  owed_one k h = by_cases (list_any (bytes_eq k) m.keys)
      (λ y. let most : owed_to (m.controls k).owner ≤ owed_in m = in_total m.keys (λ j. owed_to (m.controls j).owner) k y in omega (arith, most, h))
      (λ y. ap owed_to (orderly.absent k y).owner)

  owes_none : (k : Key) → owed_in m ≡ 0 → (m.controls k).owner ≡ None
  owes_none k h = of (m.controls k).owner refl
    where
      of : (o : Option Context) → (m.controls k).owner ≡ o → (m.controls k).owner ≡ None
      of None e = e
      of (Some c) e = absurd (
          let some : 0 < references c.stage = owner_has r p accepted m in_order sound k c e in
          let none : references c.stage ≡ 0 = sym (ap owed_to e) ∙ owed_one k h in
          omega (arith, some, none)
          )

  pub owed_flight : m.must ≡ None → owed_in m ≡ 0 → in_flight_on m ≡ 0
  owed_flight settled h = zeros (λ k. contexts_on (m.controls k)) m.keys (λ k.
      let free : (m.controls k).owner ≡ None = owes_none k h in
      let one : owners (m.controls k).owner ≡ 0 = ap owners free in
      let two : rows_in (m.controls k).waiting ≡ 0 = orderly.rows k (λ e. cc (sym settled ∙ e)) free in
      omega (arith, one, two))

  empty : in_flight_on m ≡ 0 → (k : Key) → contexts_on (m.controls k) ≡ 0
  empty none k = by_cases (list_any (bytes_eq k) m.keys)
      (λ y. let most : contexts_on (m.controls k) ≤ in_flight_on m = in_total m.keys (λ j. contexts_on (m.controls j)) k y in omega (arith, most, none))
      (λ y. ap₂ (λ (o : Option Context) (is : List Waiting). owners o + rows_in is) (orderly.absent k y).owner (orderly.absent k y).waiting)

  free : in_flight_on m ≡ 0 → (k : Key) → (m.controls k).owner ≡ None
  free none k = none_owns (m.controls k).owner (let z : contexts_on (m.controls k) ≡ 0 = empty none k in omega (arith, z))

  no_rows : in_flight_on m ≡ 0 → (k : Key) → rows_in (m.controls k).waiting ≡ 0
  no_rows none k = let z : contexts_on (m.controls k) ≡ 0 = empty none k in omega (arith, z)

  pub flight_owed : in_flight_on m ≡ 0 → owed_in m ≡ 0
  flight_owed none = zeros (λ k. owed_to (m.controls k).owner) m.keys (λ k. ap owed_to (free none k))

  -- and no marker is to be sent

  no_marks : (is : List Waiting) → rows_in is ≡ 0 → m.unsent ≡ [] → WaitingOpen m is → MarksBelow m.epoch is → is ≡ []
  no_marks [] z sent begun below = refl
  no_marks (Row n e f ∷ is) z sent begun below = absurd (omega (arith, z))
  no_marks (Mark e w more ∷ is) z sent begun below = absurd (
      let last : m.epoch ≤ e + length m.unsent = begun.0.unsent in
      let none : length m.unsent ≡ 0 = ap length sent in
      let first : e < m.epoch = below.0 in
      omega (arith, last, none, first)
      )

  pub rests_sent : in_flight_on m ≡ 0 → m.unsent ≡ [] → IsAtRestOn m
  rests_sent none sent = record { owners = free none; waiting = λ k. no_marks (m.controls k).waiting (no_rows none k) sent (orderly.waiting k) (orderly.marks k); unsent = sent }

  none_waits : in_flight_on m ≡ 0 → NoneIsIdleOn m → (k : Key) → (m.controls k).waiting ≡ []
  none_waits none idle k = of (m.controls k).waiting refl
    where
      of : (is : List Waiting) → (m.controls k).waiting ≡ is → (m.controls k).waiting ≡ []
      of [] e = e
      of (Row n f facts ∷ is) e = absurd (let z : rows_in (m.controls k).waiting ≡ 0 = no_rows none k in let y : rows_in (m.controls k).waiting ≡ 1 + rows_in is = ap rows_in e in omega (arith, z, y))
      of (Mark f w more ∷ is) e = absurd (true_false (sym (ap₂ is_idle_with (free none k) e) ∙ idle k))

  pub rests_quiet : in_flight_on m ≡ 0 → NoneIsIdleOn m → (FirstIsFinishedOn m.unsent m → ⊥) → IsAtRestOn m
  rests_quiet none idle unfinished = record { owners = free none; waiting = none_waits none idle; unsent = of m.unsent refl }
    where
      of : (cs : List Closed) → m.unsent ≡ cs → m.unsent ≡ []
      of [] e = e
      of (d ∷ ds) e = absurd (unfinished (subst (λ (cs : List Closed). FirstIsFinishedOn cs m) (sym e)
          (λ k. (subst (OwnedLater d.epoch) (sym (free none k)) tt, subst (WaitLater d.epoch) (sym (none_waits none idle k)) tt))))
