-- What holds wherever is reached, whatever the cells answered.
use Rattle.std.proofs.Common.{◌≡◌, ℕ, suc, ◌+◌, ◌≤◌, ◌<◌, nat_eq, ℤ, List, [], ◌∷◌, ◌++◌, length, Bool, true, false, cond, Option, Some, None, refl, sym, ap, ap₂, arith, subst, ◌⊎◌, inl, inr}
use Rattle.std.proofs.lemmas.Bool.{cond-true, cond-false, eqb-true}
use Rattle.std.specs.Str.{bytes_eq}
use Rattle.ax_text.specs.declared.vocabulary.Handler.{Handler}
use Rattle.ax_text.specs.declared.vocabulary.Handler.TheVariants as handler
use Rattle.ax_text.specs.declared.vocabulary.Answer.{Answer}
use Rattle.ax_text.specs.Programs.{Program}
use Rattle.ax_text.specs.Controls.{is_done}
use Rattle.ax_machine.specs.Entries.{Key}
use Rattle.ax_machine.specs.Firings.{most_firings}
use Rattle.ax_machine.proofs.FiringLemmas.{key_is}
use Rattle.ax_execution.specs.Accepted.{AreAccepted}
use Rattle.ax_execution.specs.Groups.{row_facts}
use Rattle.ax_execution.specs.Origins.{Origin, IsOrigin}
use Rattle.ax_execution.specs.Contexts.{Running, Begun, Context, Waiting, Row, Mark, rows_in, may_fire, is_idle_with}
use Rattle.ax_execution.specs.Counts.{one_at, owner_numbered, rows_numbered, made_as}
use Rattle.ax_execution.specs.KeyControls.{KeyControl, keeps_answer}
use Rattle.ax_execution.specs.ControlTurns.{is_idle_on, start_on, deliver_on, fire_on, admit_on}
use Rattle.ax_execution.specs.Machine.{Closing, ByWatermark, ByBarrier, Closed, Happening, Admit, Close, Fire, Start, Serve, Deliver, Send, Rules, machine_from}
use Rattle.ax_execution.specs.MachineControls.{MachineControl, at_origin, control_at, send_first_on, happens_on, control_numbered, number_count_on}
use Rattle.ax_execution.specs.Allowed.{NumbersOwner, NotIn}
use Rattle.ax_execution.specs.ControlsAllowed.{FirstIsFinishedOn, IsFinishedOn, IsNewOn, AllowedOn, HoldBusy, AreAllKeys}
use Rattle.ax_execution.specs.ControlOrder.{StageGoesOn, OwnerGoesOn, FrontMayFire, IsInOrder, IsSoundRunning, StageIsSound, OwnerIsSound, AreSound}
use Rattle.ax_execution.specs.Reached.{IsReached, OwnerOpen, WaitingOpen, MarksBelow, MarkInFront, Follow, IsOrderly}
use Rattle.ax_execution.proofs.Upto.{by_cases}
use Rattle.ax_execution.proofs.Stuck.{zeros}
use Rattle.ax_execution.proofs.Orderly.{start_orderly}
use Rattle.ax_execution.proofs.ControlOrder.{order_from, event_in_order}
use Rattle.ax_execution.proofs.ControlSound.{event_sound}
use Rattle.ax_execution.proofs.ControlCounts.{numbers_of_change}
use Rattle.ax_execution.proofs.ReachedLemmas.{everywhere}
use Rattle.ax_execution.proofs.KeysTimely.{OwnerBetween, WaitingBetween, HandlerInFront, OwnerInFront, KeyTimely, timely_on, timely_later, start_timely, deliver_timely, kept_timely, fire_timely, admit_timely, mark_timely}

true_false : false ≡ true → ⊥
true_false e = cc e

-- a new number

none_here : (n i : ℕ) → (i ≡ n → ⊥) → one_at n i ≡ 0
none_here n i h = ap (λ (b : Bool). cond b 1 0) (by_cases (nat_eq i n) (λ x. absurd (h (eqb-true i n x))) (λ x. x))

owner_new : (n : ℕ) (o : Option Context) → (NumbersOwner n o → ⊥) → owner_numbered n o ≡ 0
owner_new n None h = refl
owner_new n (Some c) h = none_here n c.number h

rows_new : (n : ℕ) (is : List Waiting) → NotIn n is → rows_numbered n is ≡ 0
rows_new n [] h = refl
rows_new n (Row i e f ∷ is) h = ap₂ (λ (x y : ℕ). x + y) (none_here n i h.0) (rows_new n is h.1)
rows_new n (Mark e w more ∷ is) h = rows_new n is h

pub new_count_on : (n : ℕ) (m : MachineControl) → IsNewOn n m → number_count_on n m ≡ 0
new_count_on n m h = zeros (λ k. control_numbered n (m.controls k)) m.keys (λ k. ap₂ (λ (x y : ℕ). x + y) (owner_new n (m.controls k).owner (h k).0) (rows_new n (m.controls k).waiting (h k).1))

-- where at most this number is new
with_new : (n i : ℕ) (m : MachineControl) (after : ℕ) → number_count_on n m ≤ 1 → IsNewOn i m → after ≤ one_at n i + number_count_on n m → after ≤ 1
with_new n i m after h new a = by_cases (nat_eq i n)
    (λ x.
    let z : number_count_on n m ≡ 0 = subst (λ (u : ℕ). number_count_on u m ≡ 0) (eqb-true i n x) (new_count_on i m new) in
    let y : one_at n i ≡ 1 = ap (λ (b : Bool). cond b 1 0) x in omega arith)
    (λ x. let y : one_at n i ≡ 0 = ap (λ (b : Bool). cond b 1 0) x in omega arith)

-- epochs that follow one another

follow_last : (e : ℕ) (cs : List Closed) (now : ℕ) (c : Closing) → Follow e cs now → Follow e (cs ++ record { epoch = now; closing = c } ∷ []) (suc now)
follow_last e [] now c h = (sym h, ap (λ (n : ℕ). suc n) h)
follow_last e (d ∷ cs) now c h = (h.0, follow_last (suc e) cs now c h.1)

pub follow_length : (e : ℕ) (cs : List Closed) (now : ℕ) → Follow e cs now → e + length cs ≡ now
follow_length e [] now h = let a : e ≡ now = h in omega arith
follow_length e (c ∷ cs) now h = let a : suc e + length cs ≡ now = follow_length (suc e) cs now h.1 in omega arith

-- one key goes on
at_control : (P : Key → KeyControl → Type 0) (controls : Key → KeyControl) (k : Key) (q : KeyControl) → P k q → ((j : Key) → bytes_eq k j ≡ false → P j (controls j)) → (j : Key) → P j (control_at controls k q j)
at_control P controls k q a b j = by_cases (bytes_eq k j)
    (λ x. subst (P j) (sym (cond-true (bytes_eq k j) q (controls j) x)) (subst (λ (i : Key). P i q) (key_is k j x) a))
    (λ x. subst (P j) (sym (cond-false (bytes_eq k j) q (controls j) x)) (b j x))

pub record Holds (r : Rules) (m : MachineControl) : Type 0 where
  pub order : IsInOrder r m
  pub sound : AreSound m
  -- the oldest epoch whose marker isn't sent
  pub oldest : ℕ
  pub follow : Follow oldest m.unsent m.epoch
  keys : (k : Key) → KeyTimely oldest m.epoch (m.controls k)
  numbers : (n : ℕ) → number_count_on n m ≤ 1

module _ (r : Rules) (p : Program) (accepted : AreAccepted p) (m : MachineControl) (h : Holds r m) where
  since : h.oldest ≤ m.epoch
  since = let a : h.oldest + length m.unsent ≡ m.epoch = follow_length h.oldest m.unsent m.epoch h.follow in omega arith

  numbers_on : (e : Happening) (a : Option Answer) → AllowedOn r e m → (n : ℕ) → number_count_on n (happens_on p e a m) ≤ 1
  numbers_on e a allowed n = of e allowed (omega (arith, numbers_of_change r p m h.order h.sound n e a allowed))
    where
      of : (e : Happening) → AllowedOn r e m → number_count_on n (happens_on p e a m) ≤ made_as n e + number_count_on n m → number_count_on n (happens_on p e a m) ≤ 1
      of (Admit i k time values) b x = with_new n i m (number_count_on n (happens_on p (Admit i k time values) a m)) (h.numbers n) b.4 x
      of (Close c) b x = omega (arith, h.numbers n, x)
      of (Fire i k) b x = with_new n i m (number_count_on n (happens_on p (Fire i k) a m)) (h.numbers n) b.3 x
      of (Start k) b x = omega (arith, h.numbers n, x)
      of (Serve k slot) b x = omega (arith, h.numbers n, x)
      of (Deliver k slot) b x = omega (arith, h.numbers n, x)
      of Send b x = omega (arith, h.numbers n, x)

  one_key : (k : Key) (q : KeyControl) → KeyTimely h.oldest m.epoch q → (j : Key) → KeyTimely h.oldest m.epoch (control_at m.controls k q j)
  one_key k q a = at_control (λ (j : Key) (x : KeyControl). KeyTimely h.oldest m.epoch x) m.controls k q a (λ j x. h.keys j)

  due : (k : Key) → is_idle_on (m.controls k) ≡ true → FrontMayFire (m.controls k).waiting (m.controls k).times
  due k i = h.order.front k (of (m.controls k).owner refl i)
    where
      of : (o : Option Context) → (m.controls k).owner ≡ o → is_idle_with o (m.controls k).waiting ≡ true → (m.controls k).owner ≡ None
      of None e x = e
      of (Some c) e x = absurd (true_false x)

  -- the epochs behind an event
  record Timely (next : MachineControl) : Type 0 where
    oldest : ℕ
    follow : Follow oldest next.unsent next.epoch
    keys : (k : Key) → KeyTimely oldest next.epoch (next.controls k)

  sent : (cs : List Closed) → m.unsent ≡ cs → FirstIsFinishedOn cs m → Timely (send_first_on cs m)
  sent [] e a = absurd a
  sent (c ∷ cs) e a =
      let f : Follow h.oldest (c ∷ cs) m.epoch = subst (λ (x : List Closed). Follow h.oldest x m.epoch) e h.follow in
      let done : IsFinishedOn h.oldest m = subst (λ (x : ℕ). IsFinishedOn x m) f.0 a in
      record { oldest = suc h.oldest; follow = f.1; keys = λ k. timely_later h.oldest m.epoch (m.controls k) (done k).0 (done k).1 (h.keys k) }

  event_timely : (e : Happening) (a : Option Answer) → AllowedOn r e m → Timely (happens_on p e a m)
  event_timely (Admit n k time values) a b = record {
    oldest = h.oldest;
    follow = h.follow;
    keys = one_key k (admit_on n m.epoch (row_facts m.wm time values) (m.controls k)) (admit_timely h.oldest m.epoch (m.controls k) (h.keys k) n (row_facts m.wm time values) since);
  }
  event_timely (Close (ByWatermark w)) a b = record {
    oldest = h.oldest;
    follow = follow_last h.oldest m.unsent m.epoch (ByWatermark w) h.follow;
    keys = λ k. mark_timely h.oldest m.epoch (m.controls k) (h.keys k) w most_firings since;
  }
  event_timely (Close (ByBarrier id)) a b = record {
    oldest = h.oldest;
    follow = follow_last h.oldest m.unsent m.epoch (ByBarrier id) h.follow;
    keys = λ k. timely_on h.oldest m.epoch (suc m.epoch) (m.controls k) (omega arith) (h.keys k);
  }
  event_timely (Fire n k) a b = record { oldest = h.oldest; follow = h.follow; keys = one_key k (fire_on n (m.controls k)) (fire_timely h.oldest m.epoch (m.controls k) (h.keys k) n b.1 (due k b.1)) }
  event_timely (Start k) a b = record { oldest = h.oldest; follow = h.follow; keys = one_key k (start_on p (m.controls k)) (start_timely h.oldest m.epoch (m.controls k) (h.keys k) p b.1) }
  event_timely (Serve k slot) a b = record { oldest = h.oldest; follow = h.follow; keys = one_key k (keeps_answer slot a (m.controls k)) (kept_timely h.oldest m.epoch (m.controls k) (h.keys k) slot a) }
  event_timely (Deliver k slot) a b = record { oldest = h.oldest; follow = h.follow; keys = one_key k (deliver_on slot (m.controls k)) (deliver_timely h.oldest m.epoch (m.controls k) (h.keys k) slot b.1) }
  event_timely Send a b = sent m.unsent refl b.1

  event_holds : (e : Happening) (a : Option Answer) → AllowedOn r e m → Holds r (happens_on p e a m)
  event_holds e a b = let t : Timely (happens_on p e a m) = event_timely e a b in record {
    order = event_in_order r p m h.order e a b;
    sound = event_sound m h.sound r p accepted e a b;
    oldest = t.oldest;
    follow = t.follow;
    keys = t.keys;
    numbers = numbers_on e a b;
  }

origin_holds : (r : Rules) (p : Program) (from : Origin) → IsOrigin p from → Holds r (at_origin from)
unfolding OwnerBetween WaitingBetween OwnerInFront
origin_holds r p from fits = record {
  order = order_from r (machine_from from) (start_orderly r p from fits) fits.keys;
  sound = λ k. tt;
  oldest = 0;
  follow = refl;
  keys = λ k. record { owned = tt; waits = tt; front = tt; times = fits.times k };
  numbers = λ n. (let z : number_count_on n (at_origin from) ≡ 0 = zeros (λ k. control_numbered n ((at_origin from).controls k)) from.keys (λ k. refl) in omega arith);
}

pub reached_holds : (r : Rules) (p : Program) → AreAccepted p → (m : MachineControl) → IsReached r p m → Holds r m
reached_holds r p accepted m reached = everywhere r p (λ (x : MachineControl). Holds r x) (λ e a x hold allowed answered. event_holds r p accepted x hold e a allowed) (origin_holds r p) m reached

-- each field

owner_opens : (m : MachineControl) (oldest : ℕ) (o : Option Context) → oldest + length m.unsent ≡ m.epoch → OwnerBetween oldest m.epoch o → OwnerOpen m o
unfolding OwnerBetween
owner_opens m oldest None e h = tt
owner_opens m oldest (Some c) e h = let a : oldest ≤ c.epoch = h.0 in record { begun = h.1; unsent = omega arith }

waiting_opens : (m : MachineControl) (oldest : ℕ) (is : List Waiting) → oldest + length m.unsent ≡ m.epoch → WaitingBetween oldest m.epoch is → WaitingOpen m is
unfolding WaitingBetween
waiting_opens m oldest [] e h = tt
waiting_opens m oldest (Row n f facts ∷ is) e h = let a : oldest ≤ f = h.0 in (record { begun = h.1; unsent = omega arith }, waiting_opens m oldest is e h.2)
waiting_opens m oldest (Mark f w more ∷ is) e h = let a : oldest ≤ f = h.0 in let b : f < m.epoch = h.1 in (record { begun = omega arith; unsent = omega arith }, waiting_opens m oldest is e h.2)

marks_below : (oldest now : ℕ) (is : List Waiting) → WaitingBetween oldest now is → MarksBelow now is
unfolding WaitingBetween
marks_below oldest now [] h = tt
marks_below oldest now (Row n f facts ∷ is) h = marks_below oldest now is h.2
marks_below oldest now (Mark f w more ∷ is) h = (h.1, marks_below oldest now is h.2)

handler_front : (x : Handler) (e : ℕ) (is : List Waiting) → x ≡ handler.Timer → HandlerInFront x e is → MarkInFront e is
unfolding HandlerInFront
handler_front handler.Row e is a h = absurd (cc a)
handler_front handler.Timer e is a h = h

module _ (r : Rules) (m : MachineControl) (h : Holds r m) where
  follows : h.oldest + length m.unsent ≡ m.epoch
  follows = follow_length h.oldest m.unsent m.epoch h.follow

  sound_of : (k : Key) (c : Context) (x : Running) → (m.controls k).owner ≡ Some c → c.stage ≡ Begun x → IsSoundRunning x
  sound_of k c x a b = let y : OwnerIsSound (Some c) = subst OwnerIsSound a (h.sound k) in subst StageIsSound b y

  wakes : (k : Key) (c : Context) (x : Running) → (m.controls k).owner ≡ Some c → c.stage ≡ Begun x → is_done x.control ≡ false
  wakes k c x a b = let y : OwnerGoesOn (Some c) = subst OwnerGoesOn a (h.order.owners k) in subst StageGoesOn b y

  no_rows : (k : Key) → (m.must ≡ Some k → ⊥) → (m.controls k).owner ≡ None → rows_in (m.controls k).waiting ≡ 0
  no_rows k none a = of (h.order.rows k a)
    where
      of : (rows_in (m.controls k).waiting ≡ 0) ⊎ (m.must ≡ Some k) → rows_in (m.controls k).waiting ≡ 0
      of (inl e) = e
      of (inr e) = absurd (none e)

  front_due : (k : Key) (e : ℕ) (w : ℤ) (more : ℕ) (rest : List Waiting) → (m.controls k).owner ≡ None → (m.controls k).waiting ≡ Mark e w more ∷ rest → may_fire w more (m.controls k).times ≡ true
  front_due k e w more rest a b = subst (λ (is : List Waiting). FrontMayFire is (m.controls k).times) b (h.order.front k a)

  firing_front : (k : Key) (c : Context) → (m.controls k).owner ≡ Some c → c.job.handler ≡ handler.Timer → MarkInFront c.epoch (m.controls k).waiting
  unfolding OwnerInFront
  firing_front k c a b = handler_front c.job.handler c.epoch (m.controls k).waiting b
      (let y : OwnerInFront (Some c) (m.controls k).waiting = subst (λ (o : Option Context). OwnerInFront o (m.controls k).waiting) a (h.keys k).front in y)

  pub orderly : IsOrderly r m
  orderly = record {
    limit = h.order.limit;
    rise = h.order.keys.rise;
    absent = λ k x. record { owner = (h.order.keys.others k x).owner; waiting = (h.order.keys.others k x).waiting; times = h.order.keys.times k x };
    times = λ k. (h.keys k).times;
    numbers = h.numbers;
    rows = no_rows;
    due = front_due;
    room = h.order.room;
    awake = wakes;
    answers = λ k c x slot a b free. (sound_of k c x a b).blank slot free;
    owners = λ k. owner_opens m h.oldest (m.controls k).owner follows (h.keys k).owned;
    waiting = λ k. waiting_opens m h.oldest (m.controls k).waiting follows (h.keys k).waits;
    marks = λ k. marks_below h.oldest m.epoch (m.controls k).waiting (h.keys k).waits;
    firings = firing_front;
    unsent = (let y : h.oldest + length m.unsent ≡ m.epoch = follows in omega arith);
    oldest = λ e x. subst (λ (n : ℕ). Follow n m.unsent m.epoch) (let y : h.oldest + length m.unsent ≡ m.epoch = follows in omega arith) h.follow;
  }

pub reached_orderly : (r : Rules) (p : Program) (m : MachineControl) → AreAccepted p → IsReached r p m → IsOrderly r m
reached_orderly r p m accepted reached = orderly r m (reached_holds r p accepted m reached)

pub reached_in_order : (r : Rules) (p : Program) (m : MachineControl) → AreAccepted p → IsReached r p m → IsInOrder r m
reached_in_order r p m accepted reached = (reached_holds r p accepted m reached).order

pub reached_sound : (r : Rules) (p : Program) (m : MachineControl) → AreAccepted p → IsReached r p m → AreSound m
reached_sound r p m accepted reached = (reached_holds r p accepted m reached).sound

pub reached_busy : (r : Rules) (p : Program) (m : MachineControl) → AreAccepted p → IsReached r p m → HoldBusy m.keys m
reached_busy r p m accepted reached =
    let all : AreAllKeys m = (reached_in_order r p m accepted reached).keys in
    record { rise = all.rise; others = all.others }
