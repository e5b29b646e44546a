-- A controller is never stuck: what is in flight is on its way, and where nothing is left to do a row may come.
use Rattle.std.proofs.Common.{◌≡◌, ◌<◌, ℕ, zero, suc, List, [], ◌∷◌, length, get_or, true, false, not, refl, sym, ap, ◌∙◌, subst, arith}
use Rattle.ax_lang.specs.Shown.{shown_program}
use Rattle.ax_buffer.specs.Buffer.{total}
use Rattle.ax_account.specs.Accounts.{AreSound}
use Rattle.ax_execution.specs.Machine.{Closed, Happening, IsWork}
use Rattle.ax_execution.specs.Allowed.{NoBarrier}
use Rattle.ax_execution.specs.ControlTurns.{is_idle_on}
use Rattle.ax_execution.specs.MachineControls.{MachineControl, in_flight_on}
use Rattle.ax_execution.specs.ControlsAllowed.{AllowedOn, NoneIsIdleOn, FirstIsFinishedOn}
use Rattle.ax_execution.specs.ControlRest.{IsAtRestOn}
use Rattle.ax_execution.proofs.Upto.{by_cases}
use Rattle.ax_execution.proofs.ControlStuck.{stuck_on, rest_blocks, rest_none_on, owed_flight, flight_owed, rests_quiet}
use Rattle.ax_core.specs.declared.controller.Controller.{Controller}
use Rattle.ax_core.specs.Flow.{on_the_way}
use Rattle.ax_core.specs.May.{is_empty, may_admit, may_fire}
use Rattle.ax_core.specs.Sound.{rules_of, StandsFor, IsSound}
use Rattle.ax_core.specs.Events.{MayFireOn}
use Rattle.ax_core.specs.Rest.{NothingIsOnTheWay, NothingIsLeft}
use Rattle.ax_core.proofs.Open.{is_may}
use Rattle.ax_core.proofs.FiresStand.{may_is as fires_on, is_may as on_fires}
use Rattle.ax_core.proofs.Sends.{accepted}

true_false : true ≡ false → ⊥
true_false e = cc e

-- lists that are empty

none_long : {X : Type 0} (xs : List X) → length xs ≡ 0 → xs ≡ []
none_long [] e = refl
none_long (x ∷ xs) e = absurd (omega (arith, e))

not_empty_long : {X : Type 0} (xs : List X) → not (is_empty xs) ≡ false → length xs ≡ 0
not_empty_long [] e = refl
not_empty_long (x ∷ xs) e = absurd (true_false e)

long_not_empty : {X : Type 0} (xs : List X) → length xs ≡ 0 → not (is_empty xs) ≡ false
long_not_empty [] e = refl
long_not_empty (x ∷ xs) e = absurd (omega (arith, e))

all_empty : {X : Type 0} (xss : List (List X)) → ((i : ℕ) → i < length xss → get_or xss i [] ≡ []) → total length xss ≡ 0
all_empty [] h = refl
all_empty (xs ∷ xss) h =
    let here : length xs ≡ 0 = ap length (h 0 (omega arith)) in
    let rest : total length xss ≡ 0 = all_empty xss (λ i l. h (suc i) (omega (arith, l))) in
    omega (arith, here, rest)

empty_all : {X : Type 0} (xss : List (List X)) → total length xss ≡ 0 → (i : ℕ) → get_or xss i [] ≡ []
empty_all [] h i = refl
empty_all (xs ∷ xss) h zero = none_long xs (omega (arith, h))
empty_all (xs ∷ xss) h (suc i) = empty_all xss (omega (arith, h)) i

module _ (a : Controller) (m : MachineControl) (x : IsSound a) (h : StandsFor a m) (accounts : AreSound a.accounts) where
  -- what is on its way is what the owners of keys wait for

  none_on_the_way : NothingIsOnTheWay a → on_the_way a ≡ 0
  none_on_the_way none =
      let queues : total length a.buffer.queues ≡ 0 = all_empty a.buffer.queues (λ i l. none.queues i (subst (λ (n : ℕ). i < n) x.flow.shards.0 l)) in
      let outs : total length a.outs.items ≡ 0 = all_empty a.outs.items (λ i l. none.outs i (subst (λ (n : ℕ). i < n) x.flow.shards.1 l)) in
      let mails : length a.mails.mails ≡ 0 = not_empty_long a.mails.mails none.mails in
      omega (arith, queues, outs, mails)

  on_the_way_none : on_the_way a ≡ 0 → NothingIsOnTheWay a
  on_the_way_none none = record {
    mails = long_not_empty a.mails.mails (omega (arith, none));
    queues = λ i l. empty_all a.buffer.queues (omega (arith, none)) i;
    outs = λ i l. empty_all a.outs.items (omega (arith, none)) i;
  }

  pub way_flight : NothingIsOnTheWay a → in_flight_on m ≡ 0
  way_flight none = owed_flight (rules_of a.settings) (shown_program a.program) m (accepted a.program) h.reached h.settled (sym h.stands.way ∙ none_on_the_way none)

  pub flight_way : in_flight_on m ≡ 0 → NothingIsOnTheWay a
  flight_way none = on_the_way_none (h.stands.way ∙ flight_owed (rules_of a.settings) (shown_program a.program) m (accepted a.program) h.reached none)

  -- nothing is left

  none_idle : 0 < a.settings.in_flight → in_flight_on m ≡ 0 → may_fire a ≡ false → NoneIsIdleOn m
  none_idle some none fires k = by_cases (is_idle_on (m.controls k))
      (λ y. absurd (true_false (sym (on_fires a m h x.rooms (record { key = k; idle = y; room = omega (arith, some, none) })) ∙ fires)))
      (λ y. y)

  pub left_rests : 0 < a.settings.in_flight → NothingIsLeft a m → IsAtRestOn m
  left_rests some left =
      let none : in_flight_on m ≡ 0 = way_flight left.way in
      rests_quiet (rules_of a.settings) (shown_program a.program) m (accepted a.program) h.reached none (none_idle some none left.fires) left.sends

  none_fires : NoneIsIdleOn m → may_fire a ≡ false
  none_fires idle = by_cases (may_fire a) (λ y. let it : MayFireOn a m = fires_on a m h x.rooms accounts y in absurd (true_false (sym it.idle ∙ idle it.key))) (λ y. y)

  pub rests_left : IsAtRestOn m → NothingIsLeft a m
  rests_left rest =
      let none : (in_flight_on m ≡ 0) × (m.unsent ≡ []) × NoneIsIdleOn m = rest_none_on m rest in
      record {
        way = flight_way none.0;
        fires = none_fires none.2;
        sends = λ done. subst (λ (cs : List Closed). FirstIsFinishedOn cs m) none.1 done;
      }

  -- and then a row may come

  pub rests_admits : 0 < a.settings.in_flight → IsAtRestOn m → may_admit a ≡ true
  rests_admits some rest =
      let none : (in_flight_on m ≡ 0) × (m.unsent ≡ []) × NoneIsIdleOn m = rest_none_on m rest in
      is_may a m h x.rooms accounts (record {
        is_open = (subst NoBarrier (sym none.1) tt, λ serial. none.1);
        room = omega (arith, some, none.0);
        busy = none.2;
      })

  -- it is so exactly where the machine can do nothing by itself

  pub left_blocks : 0 < a.settings.in_flight → NothingIsLeft a m → (e : Happening) → IsWork e → AllowedOn (rules_of a.settings) e m → ⊥
  left_blocks some left e w may = rest_blocks (rules_of a.settings) m e (left_rests some left) w may

  pub blocks_left : 0 < a.settings.in_flight → ((e : Happening) → IsWork e → AllowedOn (rules_of a.settings) e m → ⊥) → NothingIsLeft a m
  blocks_left some none = rests_left (stuck_on (rules_of a.settings) (shown_program a.program) m (accepted a.program) h.reached some none)
