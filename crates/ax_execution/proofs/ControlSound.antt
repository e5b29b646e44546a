-- Handlers stay sound, whatever answers come.
use Rattle.std.proofs.Common.{◌≡◌, ℕ, zero, suc, ℤ, int_le, List, [], ◌∷◌, Bool, true, false, cond, Option, Some, None, refl}
use Rattle.std.specs.Str.{bytes_eq}
use Rattle.ax_text.specs.declared.vocabulary.Answer.{Answer}
use Rattle.ax_text.specs.Functions.{upd}
use Rattle.ax_text.specs.Exprs.{Facts}
use Rattle.ax_text.specs.Run.{times_after}
use Rattle.ax_text.specs.Jobs.{Job, firing_job}
use Rattle.ax_text.specs.Programs.{Program}
use Rattle.ax_text.specs.Controls.{Turn, Answers, is_done}
use Rattle.ax_text.specs.Silent.{unanswered}
use Rattle.ax_machine.specs.Entries.{Key}
use Rattle.ax_machine.specs.Firings.{most_firings}
use Rattle.ax_execution.specs.Accepted.{AreAccepted}
use Rattle.ax_execution.specs.Groups.{row_facts}
use Rattle.ax_execution.specs.Contexts.{Running, Stage, Unbegun, Begun, Context, new_context, Waiting, Row, Mark, is_due, may_fire}
use Rattle.ax_execution.specs.Rest.{silent_stage, silent}
use Rattle.ax_execution.specs.Turns.{begins, gives, staged, left_by, answered}
use Rattle.ax_execution.specs.KeyControls.{KeyControl, keeps_answer}
use Rattle.ax_execution.specs.ControlTurns.{handed_on, paused, called_back_on, start_stage_on, start_owner_on, start_on, give_answer_on, deliver_stage_on, deliver_owner_on, deliver_on, fire_due_on, fire_front_on, fire_on, admit_at_on, admit_on, mark_at_on}
use Rattle.ax_execution.specs.Machine.{ByWatermark, ByBarrier, Closed, Machine, Happening, Admit, Close, Fire, Start, Serve, Deliver, Send, Rules}
use Rattle.ax_execution.specs.Allowed.{StageAsks, OfOwner}
use Rattle.ax_execution.specs.MachineControls.{MachineControl, control_of_machine, control_at, send_first_on, happens_on}
use Rattle.ax_execution.specs.ControlsAllowed.{AllowedOn}
use Rattle.ax_execution.specs.ControlOrder.{IsSoundRunning, StageIsSound, OwnerIsSound, AreSound}
use Rattle.ax_execution.proofs.Upto.{StageGood, OwnerGood}
use Rattle.ax_execution.proofs.Handles.{Handles}
use Rattle.ax_execution.proofs.Handlers.{Good, handles}

sound_of : (r : Running) → Good r → IsSoundRunning r
sound_of r g = record { fits = g.fits; split = g.split; wakeful = g.wakes; blank = g.blank }

good_of : (r : Running) → IsSoundRunning r → Good r
good_of r g = record { fits = g.fits; split = g.split; wakes = g.wakeful; blank = g.blank }

pub owner_good : (o : Option Context) → OwnerIsSound o → OwnerGood Good o
unfolding OwnerGood StageGood
owner_good None h = tt
owner_good (Some c) h = of c.stage h
  where
    of : (st : Stage) → StageIsSound st → StageGood Good st
    of Unbegun x = tt
    of (Begun r) x = good_of r x

owner_sound : (o : Option Context) → OwnerGood Good o → OwnerIsSound (silent o)
unfolding OwnerGood StageGood
owner_sound None h = tt
owner_sound (Some c) h = of c.stage h
  where
    of : (st : Stage) → StageGood Good st → StageIsSound (silent_stage st)
    of Unbegun x = tt
    of (Begun r) x = record { fits = x.fits; split = x.split; wakeful = x.wakes; blank = x.blank }

pub machine_sound : (m : Machine) → ((k : Key) → OwnerGood Good (m.parts k).owner) → AreSound (control_of_machine m)
machine_sound m good k = owner_sound (m.parts k).owner (good k)

either_sound : (b : Bool) (x y : KeyControl) → OwnerIsSound x.owner → OwnerIsSound y.owner → OwnerIsSound (cond b x y).owner
either_sound true x y p q = p
either_sound false x y p q = q

abbrev keyed : Option Context → List Waiting → List ℤ → KeyControl
keyed o is times = record { owner = o; waiting = is; times = times }

abbrev context : ℕ → ℕ → Job → Stage → Context
context n e j st = record { number = n; epoch = e; job = j; stage = st }

-- the events of a key

handed_sound : (is : List Waiting) (times : List ℤ) → OwnerIsSound (handed_on is times).owner
handed_sound [] times = tt
handed_sound (Row n e f ∷ is) times = tt
handed_sound (Mark e w more ∷ is) times = either_sound (may_fire w more times) (keyed None (Mark e w more ∷ is) times) (handed_on is times) tt (handed_sound is times)

back_sound : (c : Context) (t : Turn) (answers : Answers) (is : List Waiting) (times : List ℤ) → IsSoundRunning (paused t answers) → OwnerIsSound (called_back_on c t answers is times).owner
back_sound c t answers is times h = either_sound (is_done t.control) (handed_on is times) (keyed (Some (staged c (Begun (paused t answers)))) is times) (handed_sound is times) h

left_sound : (t : Turn) (answers : Answers) (lines : List (List ℤ)) (served : ℕ) → Good (left_by t answers lines served) → IsSoundRunning (paused t answers)
left_sound t answers lines served g = record { fits = g.fits; split = g.split; wakeful = g.wakes; blank = g.blank }

module _ (p : Program) (H : Handles p Good) where
  start_sound : (c : KeyControl) → OwnerIsSound c.owner → OwnerIsSound (start_on p c).owner
  start_sound c h = of c.owner
    where
      stage : (x : Context) (st : Stage) → OwnerIsSound (start_stage_on p x st c).owner
      stage x Unbegun = back_sound x (begins p x.job) unanswered c.waiting (times_after (begins p x.job).talk.ops c.times) (left_sound (begins p x.job) unanswered [] 0 (H.begin_good x.job))
      stage x (Begun r) = h

      of : (o : Option Context) → OwnerIsSound (start_owner_on p o c).owner
      of None = h
      of (Some x) = stage x x.stage

  deliver_sound : (slot : ℕ) (c : KeyControl) → OwnerIsSound c.owner → OwnerIsSound (deliver_on slot c).owner
  deliver_sound slot c h = of c.owner h
    where
      answer : (x : Context) (r : Running) (a : Option Answer) → r.answers slot ≡ a → IsSoundRunning r → OwnerIsSound (give_answer_on x r slot a c).owner
      answer x r None e g = h
      answer x r (Some a) e g = back_sound x (gives x.job r slot a) (upd r.answers slot None) c.waiting (times_after (gives x.job r slot a).talk.ops c.times)
          (left_sound (gives x.job r slot a) (upd r.answers slot None) r.lines r.served (H.give_good x.job r slot a (good_of r g) e))

      stage : (x : Context) (st : Stage) → StageIsSound st → OwnerIsSound (deliver_stage_on x slot st c).owner
      stage x Unbegun g = h
      stage x (Begun r) g = answer x r (r.answers slot) refl g

      of : (o : Option Context) → OwnerIsSound o → OwnerIsSound (deliver_owner_on slot o c).owner
      of None g = h
      of (Some x) g = stage x x.stage g

  kept_sound : (slot : ℕ) (a : Option Answer) (o : Option Context) (is : List Waiting) (times : List ℤ) → OwnerIsSound o → OfOwner (StageAsks slot) o → OwnerIsSound (keeps_answer slot a (keyed o is times)).owner
  kept_sound slot a None is times g h = absurd h
  kept_sound slot a (Some c) is times g h = of c.number c.epoch c.stage a g h
    where
      next : (r : Running) (d : Answer) → Good (answered r slot d) → IsSoundRunning (record { control = r.control; names = r.names; answers = upd r.answers slot (Some d); lines = []; served = 0 })
      next r d y = record { fits = y.fits; split = y.split; wakeful = y.wakes; blank = y.blank }

      of : (n e : ℕ) (st : Stage) (b : Option Answer) → StageIsSound st → StageAsks slot st → OwnerIsSound (keeps_answer slot b (keyed (Some (context n e c.job st)) is times)).owner
      of n e Unbegun b x y = absurd y
      of n e (Begun r) None x y = record { fits = x.fits; split = x.split; wakeful = x.wakeful; blank = x.blank }
      of n e (Begun r) (Some d) x y = next r d (H.serve_good r slot y.0.0 d (good_of r x) y.0.1 y.1)

fire_sound : (n : ℕ) (c : KeyControl) → OwnerIsSound c.owner → OwnerIsSound (fire_on n c).owner
fire_sound n c h = of c.owner c.waiting
  where
    due : (e : ℕ) (w : ℤ) (more : ℕ) (is : List Waiting) (times : List ℤ) → OwnerIsSound (fire_due_on n e w more is times c).owner
    due e w more is [] = h
    due e w more is (t ∷ ts) = either_sound (int_le t w) (keyed (Some (new_context n e (firing_job w t))) (Mark e w more ∷ is) ts) c tt h

    of : (o : Option Context) (is : List Waiting) → OwnerIsSound (fire_front_on n o is c).owner
    of None [] = h
    of None (Row i e f ∷ is) = h
    of None (Mark e w zero ∷ is) = h
    of None (Mark e w (suc more) ∷ is) = due e w more is c.times
    of (Some x) is = h

admit_sound : (n e : ℕ) (f : Facts) (o : Option Context) (is : List Waiting) (times : List ℤ) → OwnerIsSound o → OwnerIsSound (admit_at_on n e f o is times).owner
admit_sound n e f None [] times h = tt
admit_sound n e f None (i ∷ is) times h = tt
admit_sound n e f (Some c) is times h = h

mark_sound : (e : ℕ) (w : ℤ) (more : ℕ) (o : Option Context) (is : List Waiting) (times : List ℤ) → OwnerIsSound o → OwnerIsSound (mark_at_on e w more o is times).owner
mark_sound e w more None [] times h = either_sound (is_due w times) (keyed None (Mark e w more ∷ []) times) (keyed None [] times) tt tt
mark_sound e w more None (i ∷ is) times h = tt
mark_sound e w more (Some c) is times h = h

-- the machine

module _ (m : MachineControl) (sound : AreSound m) where
  at_key : (k : Key) (q : KeyControl) → OwnerIsSound q.owner → (j : Key) → OwnerIsSound (control_at m.controls k q j).owner
  at_key k q h j = either_sound (bytes_eq k j) q (m.controls j) h (sound j)

  sent_sound : (cs : List Closed) → AreSound (send_first_on cs m)
  sent_sound [] = sound
  sent_sound (c ∷ cs) = sound

  pub event_sound : (r : Rules) (p : Program) → AreAccepted p → (e : Happening) (a : Option Answer) → AllowedOn r e m → AreSound (happens_on p e a m)
  event_sound r p accepted (Admit n k time values) a h = at_key k (admit_on n m.epoch (row_facts m.wm time values) (m.controls k))
      (admit_sound n m.epoch (row_facts m.wm time values) (m.controls k).owner (m.controls k).waiting (m.controls k).times (sound k))
  event_sound r p accepted (Close (ByWatermark w)) a h = λ k. mark_sound m.epoch w most_firings (m.controls k).owner (m.controls k).waiting (m.controls k).times (sound k)
  event_sound r p accepted (Close (ByBarrier id)) a h = sound
  event_sound r p accepted (Fire n k) a h = at_key k (fire_on n (m.controls k)) (fire_sound n (m.controls k) (sound k))
  event_sound r p accepted (Start k) a h = at_key k (start_on p (m.controls k)) (start_sound p (handles p accepted) (m.controls k) (sound k))
  event_sound r p accepted (Serve k slot) a h = at_key k (keeps_answer slot a (m.controls k))
      (kept_sound p (handles p accepted) slot a (m.controls k).owner (m.controls k).waiting (m.controls k).times (sound k) h.1)
  event_sound r p accepted (Deliver k slot) a h = at_key k (deliver_on slot (m.controls k)) (deliver_sound p (handles p accepted) slot (m.controls k) (sound k))
  event_sound r p accepted Send a h = sent_sound m.unsent
