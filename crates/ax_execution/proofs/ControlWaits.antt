-- What waits at each key of a control behind an event, and what is asked.
use Rattle.std.proofs.Common.{◌≡◌, ℕ, List, [], ◌∷◌, Some, None, Option, refl, sym, ap, ◌∙◌, subst}
use Rattle.std.proofs.lemmas.Bool.{cond-true, cond-false}
use Rattle.std.specs.Str.{bytes_eq}
use Rattle.ax_text.specs.declared.vocabulary.Answer.{Answer}
use Rattle.ax_text.specs.Controls.{Ask' as Asked}
use Rattle.ax_text.specs.Programs.{Program}
use Rattle.ax_text.specs.Underway.{SlotsRise}
use Rattle.ax_machine.specs.Entries.{Key}
use Rattle.ax_machine.proofs.FiringLemmas.{key_is}
use Rattle.ax_execution.specs.Contexts.{Stage, Unbegun, Begun, Context}
use Rattle.ax_execution.specs.Rest.{silent_stage, silent}
use Rattle.ax_execution.specs.KeyControls.{KeyControl, owner_keeps, stage_keeps, keeps_answer}
use Rattle.ax_execution.specs.Asks.{stage_waits, owner_waits, waits_behind, AreOutside, slots_beside}
use Rattle.ax_execution.specs.Machine.{ByWatermark, ByBarrier, Closed, Machine, Happening, Admit, Close, Fire, Start, Serve, Deliver, Send, Rules, happens, sends_first, outcome}
use Rattle.ax_execution.specs.Allowed.{Allowed}
use Rattle.ax_execution.specs.MachineControls.{MachineControl, control_of_machine, control_at, happens_on, answer_of_event, outcome_on}
use Rattle.ax_execution.specs.ControlsAllowed.{AllowedOn}
use Rattle.ax_execution.specs.ControlOrder.{IsInOrder, AreSound}
use Rattle.ax_execution.proofs.Upto.{by_cases, OwnerGood}
use Rattle.ax_execution.proofs.Handlers.{Good}
use Rattle.ax_execution.proofs.Orderly.{IsOrderly}
use Rattle.ax_execution.proofs.Waits.{event_waits, asks_rise, deliver_outside}
use Rattle.ax_execution.proofs.EventControls.{event_control, asks_on}
use Rattle.ax_execution.proofs.ControlsAllowed.{allowed_from}
use Rattle.ax_execution.proofs.ControlOrder.{bare_machine, order_to, same_control}
use Rattle.ax_execution.proofs.ControlSound.{owner_good}

stage_silent : (st : Stage) → stage_waits (silent_stage st) ≡ stage_waits st
stage_silent Unbegun = refl
stage_silent (Begun r) = refl

waits_silent : (o : Option Context) → owner_waits (silent o) ≡ owner_waits o
waits_silent None = refl
waits_silent (Some c) = stage_silent c.stage

stage_kept : (slot : ℕ) (a : Option Answer) (st : Stage) → stage_waits (stage_keeps slot a st) ≡ stage_waits st
stage_kept slot None st = refl
stage_kept slot (Some a) Unbegun = refl
stage_kept slot (Some a) (Begun r) = refl

waits_kept : (slot : ℕ) (a : Option Answer) (o : Option Context) → owner_waits (silent (owner_keeps slot a o)) ≡ owner_waits o
waits_kept slot a None = refl
waits_kept slot a (Some c) = stage_silent (stage_keeps slot a c.stage) ∙ stage_kept slot a c.stage

-- only a callback asks

sends_none : (g : ℕ) (p : Program) (cs : List Closed) (m : Machine) → (sends_first g p cs m).asks ≡ []
sends_none g p [] m = refl
sends_none g p (c ∷ cs) m = refl

pub none_asked : (g : ℕ) (p : Program) (e : Happening) (m : Machine) → ((k : Key) → e ≡ Start k → ⊥) → ((k : Key) (slot : ℕ) → e ≡ Deliver k slot → ⊥) → (outcome g p e m).asks ≡ []
none_asked g p (Admit n k time values) m a b = refl
none_asked g p (Close c) m a b = refl
none_asked g p (Fire n k) m a b = refl
none_asked g p (Start k) m a b = absurd (a k refl)
none_asked g p (Serve k slot) m a b = refl
none_asked g p (Deliver k slot) m a b = absurd (b k slot refl)
none_asked g p Send m a b = sends_none g p m.unsent m

pub none_asked_on : (p : Program) (e : Happening) (m : MachineControl) → ((k : Key) → e ≡ Start k → ⊥) → ((k : Key) (slot : ℕ) → e ≡ Deliver k slot → ⊥) → (outcome_on p e m).asks ≡ []
none_asked_on p (Admit n k time values) m a b = refl
none_asked_on p (Close c) m a b = refl
none_asked_on p (Fire n k) m a b = refl
none_asked_on p (Start k) m a b = absurd (a k refl)
none_asked_on p (Serve k slot) m a b = refl
none_asked_on p (Deliver k slot) m a b = absurd (b k slot refl)
none_asked_on p Send m a b = refl

module _ (r : Rules) (p : Program) (m : MachineControl) (o : IsInOrder r m) (sound : AreSound m) where
  here : Machine
  here = bare_machine m

  same : control_of_machine here ≡ m
  unfolding here
  same = same_control r m o

  orderly : IsOrderly r here
  unfolding here
  orderly = order_to r m o

  good : (k : Key) → OwnerGood Good (here.parts k).owner
  unfolding here bare_machine
  good k = owner_good (m.controls k).owner (sound k)

  owner_here : (k : Key) → (here.parts k).owner ≡ (m.controls k).owner
  unfolding here bare_machine
  owner_here k = refl

  allowed : (e : Happening) → AllowedOn r e m → Allowed r e here
  allowed e h = allowed_from r e here (subst (AllowedOn r e) (sym same) h)

  path : (e : Happening) → control_of_machine (happens 0 p e here) ≡ happens_on p e (answer_of_event e here) m
  path e = event_control 0 p e here ∙ ap (happens_on p e (answer_of_event e here)) same

  asked : (e : Happening) → (outcome 0 p e here).asks ≡ (outcome_on p e m).asks
  asked e = asks_on 0 p e here ∙ ap (λ (c : MachineControl). (outcome_on p e c).asks) same

  waits_by : (e : Happening) (k : Key) → AllowedOn r e m → owner_waits ((happens_on p e (answer_of_event e here) m).controls k).owner ≡ waits_behind k e (outcome_on p e m).asks (owner_waits (m.controls k).owner)
  waits_by e k h = ap (λ (c : MachineControl). owner_waits (c.controls k).owner) (sym (path e)) ∙ (waits_silent ((happens 0 p e here).parts k).owner
      ∙ (event_waits r here orderly good 0 p e k (allowed e h)
      ∙ (ap (λ (xs : List Asked). waits_behind k e xs (owner_waits (here.parts k).owner)) (asked e)
      ∙ ap (λ (x : Option Context). waits_behind k e (outcome_on p e m).asks (owner_waits x)) (owner_here k))))

  served : (j : Key) (slot : ℕ) (a : Option Answer) (k : Key) → owner_waits (control_at m.controls j (keeps_answer slot a (m.controls j)) k).owner ≡ owner_waits (m.controls k).owner
  served j slot a k = by_cases (bytes_eq j k)
      (λ x. ap (λ (q : KeyControl). owner_waits q.owner) (cond-true (bytes_eq j k) (keeps_answer slot a (m.controls j)) (m.controls k) x)
      ∙ (waits_kept slot a (m.controls j).owner ∙ ap (λ (i : Key). owner_waits (m.controls i).owner) (key_is j k x)))
      (λ x. ap (λ (q : KeyControl). owner_waits q.owner) (cond-false (bytes_eq j k) (keeps_answer slot a (m.controls j)) (m.controls k) x))

  pub waits_on : (e : Happening) (a : Option Answer) (k : Key) → AllowedOn r e m → owner_waits ((happens_on p e a m).controls k).owner ≡ waits_behind k e (outcome_on p e m).asks (owner_waits (m.controls k).owner)
  waits_on (Admit n j time values) a k h = waits_by (Admit n j time values) k h
  waits_on (Close (ByWatermark w)) a k h = waits_by (Close (ByWatermark w)) k h
  waits_on (Close (ByBarrier id)) a k h = waits_by (Close (ByBarrier id)) k h
  waits_on (Fire n j) a k h = waits_by (Fire n j) k h
  waits_on (Start j) a k h = waits_by (Start j) k h
  waits_on (Serve j slot) a k h = served j slot a k
  waits_on (Deliver j slot) a k h = waits_by (Deliver j slot) k h
  waits_on Send a k h = waits_by Send k h

  pub rise_on : (e : Happening) → AllowedOn r e m → SlotsRise (outcome_on p e m).asks
  rise_on e h = subst SlotsRise (asked e) (asks_rise r here orderly good 0 p e (allowed e h))

  pub outside_on : (k : Key) (slot : ℕ) → AllowedOn r (Deliver k slot) m → AreOutside (slots_beside slot (owner_waits (m.controls k).owner)) (outcome_on p (Deliver k slot) m).asks
  unfolding here bare_machine
  outside_on k slot h = deliver_outside r here orderly good 0 p k slot (allowed (Deliver k slot) h)
