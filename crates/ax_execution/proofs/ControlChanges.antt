-- How the rows and marks of an epoch change, and which key must fire behind an event.
use Rattle.std.proofs.Common.{◌≡◌, ℕ, zero, suc, ◌+◌, nat_eq, ℤ, int_le, List, [], ◌∷◌, ◌++◌, Bool, true, false, cond, Option, Some, None, refl, sym, ap, ap₂, ◌∙◌, arith, subst}
use Rattle.std.proofs.lemmas.Bool.{cond-true}
use Rattle.std.specs.Str.{bytes_eq}
use Rattle.std.specs.List.{list_any}
use Rattle.std.specs.List.Sorted.{IsStrictlySortedBy}
use Rattle.std.specs.BTreeSet.{insert_key}
use Rattle.ax_keys.specs.Keys.{key_cmp}
use Rattle.ax_text.specs.declared.vocabulary.Answer.{Answer}
use Rattle.ax_text.specs.Functions.{upd}
use Rattle.ax_text.specs.Exprs.{Facts}
use Rattle.ax_text.specs.Run.{times_after}
use Rattle.ax_text.specs.Jobs.{Job, firing_job}
use Rattle.ax_text.specs.Programs.{Program}
use Rattle.ax_text.specs.Controls.{Turn, Answers, is_done}
use Rattle.ax_text.specs.Silent.{unanswered}
use Rattle.ax_machine.specs.Entries.{Key}
use Rattle.ax_machine.specs.Firings.{most_firings}
use Rattle.ax_machine.proofs.FiringLemmas.{same_key}
use Rattle.ax_execution.specs.Groups.{row_facts}
use Rattle.ax_execution.specs.Sums.{total}
use Rattle.ax_execution.specs.Contexts.{Running, Stage, Unbegun, Begun, Context, new_context, Waiting, Row, Mark, Part, is_due, may_fire, is_idle_with}
use Rattle.ax_execution.specs.Turns.{begins, gives, staged, owner_starts, owner_gives, answer_gives}
use Rattle.ax_execution.specs.KeyControls.{KeyControl, keeps_answer}
use Rattle.ax_execution.specs.ControlTurns.{is_idle_on, handed_on, paused, called_back_on, start_owner_on, start_on, give_answer_on, deliver_owner_on, deliver_on, fire_due_on, fire_front_on, fire_on, admit_at_on, admit_on, mark_at_on, mark_on}
use Rattle.ax_execution.specs.Rest.{silent}
use Rattle.ax_execution.specs.Machine.{ByWatermark, ByBarrier, Closed, Machine, Happening, Admit, Close, Fire, Start, Serve, Deliver, Send, Rules, part_at, must_fire, happens, outcome}
use Rattle.ax_execution.specs.Allowed.{StageUnbegun, StageAsks, StageHas, OfOwner, Allowed}
use Rattle.ax_execution.specs.Counts.{one_at, owner_of_epoch, waiting_of_epoch, epoch_count, counted}
use Rattle.ax_execution.specs.MachineControls.{MachineControl, control_of_machine, control_at, must_fire_on, send_first_on, happens_on, answer_of_event, outcome_on, control_of_epoch, epoch_count_on}
use Rattle.ax_execution.specs.ControlsAllowed.{AllowedOn, IsFreeOn, HoldBusy}
use Rattle.ax_execution.specs.ControlChanges.{mark_stays_at, mark_stays, marks_off, enters, leaves}
use Rattle.ax_execution.proofs.Upto.{by_cases}
use Rattle.ax_execution.proofs.ControlSums.{shifted, entered}
use Rattle.ax_execution.proofs.Orderly.{IsOrderly}
use Rattle.ax_execution.proofs.EventControls.{event_control, gone_on, fires_on}
use Rattle.ax_execution.proofs.ControlsAllowed.{epochs_on, allowed_to}

none_some : {A : Type 0} {x : A} → None ≡ Some x → ⊥
none_some h = cc h

true_false : true ≡ false → ⊥
true_false e = cc e

abbrev keyed : Option Context → List Waiting → List ℤ → KeyControl
keyed o is times = record { owner = o; waiting = is; times = times }

abbrev context : ℕ → ℕ → Job → Stage → Context
context n e j st = record { number = n; epoch = e; job = j; stage = st }

-- a callback

handed_times : (is : List Waiting) (times : List ℤ) → (handed_on is times).times ≡ times
handed_times [] times = refl
handed_times (Row n e f ∷ is) times = refl
handed_times (Mark e w more ∷ is) times = of (may_fire w more times) (handed_times is times)
  where
    of : (b : Bool) → (handed_on is times).times ≡ times → (cond b (keyed None (Mark e w more ∷ is) times) (handed_on is times)).times ≡ times
    of true h = refl
    of false h = h

handed_epoch : (u : ℕ) (is : List Waiting) (times : List ℤ) → control_of_epoch u (handed_on is times) + marks_off u is times ≡ waiting_of_epoch u is
handed_epoch u [] times = refl
handed_epoch u (Row n e f ∷ is) times = omega arith
handed_epoch u (Mark e w more ∷ is) times = of (may_fire w more times) (handed_epoch u is times)
  where
    of : (b : Bool) → control_of_epoch u (handed_on is times) + marks_off u is times ≡ waiting_of_epoch u is
        → control_of_epoch u (cond b (keyed None (Mark e w more ∷ is) times) (handed_on is times)) + cond b 0 (one_at u e + marks_off u is times) ≡ one_at u e + waiting_of_epoch u is
    of true h = omega arith
    of false h = omega arith

back_epoch : (u : ℕ) (c : Context) (t : Turn) (answers : Answers) (is : List Waiting) (times : List ℤ)
    → control_of_epoch u (called_back_on c t answers is times) + counted (is_done t.control) (owner_of_epoch u (Some c) + marks_off u is (called_back_on c t answers is times).times)
    ≡ owner_of_epoch u (Some c) + waiting_of_epoch u is
back_epoch u c t answers is times = of (is_done t.control)
  where
    waits : KeyControl
    waits = keyed (Some (staged c (Begun (paused t answers)))) is times

    of : (b : Bool) → control_of_epoch u (cond b (handed_on is times) waits) + counted b (owner_of_epoch u (Some c) + marks_off u is (cond b (handed_on is times) waits).times) ≡ owner_of_epoch u (Some c) + waiting_of_epoch u is
    of true =
        let a : control_of_epoch u (handed_on is times) + marks_off u is times ≡ waiting_of_epoch u is = handed_epoch u is times in
        let b : marks_off u is (handed_on is times).times ≡ marks_off u is times = ap (marks_off u is) (handed_times is times) in
        omega arith
    of false = omega arith

start_epoch : (u : ℕ) (p : Program) (o : Option Context) (is : List Waiting) (times : List ℤ) → OfOwner StageUnbegun o
    → control_of_epoch u (start_owner_on p o (keyed o is times)) + counted (owner_starts p o).gone (owner_of_epoch u o + marks_off u is (start_owner_on p o (keyed o is times)).times)
    ≡ owner_of_epoch u o + waiting_of_epoch u is
start_epoch u p None is times h = absurd h
start_epoch u p (Some c) is times h = of c.number c.epoch c.stage h
  where
    of : (n e : ℕ) (st : Stage) → StageUnbegun st
        → control_of_epoch u (start_owner_on p (Some (context n e c.job st)) (keyed (Some (context n e c.job st)) is times))
        + counted (owner_starts p (Some (context n e c.job st))).gone (owner_of_epoch u (Some (context n e c.job st)) + marks_off u is (start_owner_on p (Some (context n e c.job st)) (keyed (Some (context n e c.job st)) is times)).times)
        ≡ owner_of_epoch u (Some (context n e c.job st)) + waiting_of_epoch u is
    of n e Unbegun x = back_epoch u (context n e c.job Unbegun) (begins p c.job) unanswered is (times_after (begins p c.job).talk.ops times)
    of n e (Begun r) x = absurd x

answer_epoch : (u n e : ℕ) (j : Job) (r : Running) (slot : ℕ) (is : List Waiting) (times : List ℤ) (a : Option Answer) → (x : Answer) × (a ≡ Some x)
    → control_of_epoch u (give_answer_on (context n e j (Begun r)) r slot a (keyed (Some (context n e j (Begun r))) is times))
    + counted (answer_gives j r slot a).gone (owner_of_epoch u (Some (context n e j (Begun r))) + marks_off u is (give_answer_on (context n e j (Begun r)) r slot a (keyed (Some (context n e j (Begun r))) is times)).times)
    ≡ owner_of_epoch u (Some (context n e j (Begun r))) + waiting_of_epoch u is
answer_epoch u n e j r slot is times None h = absurd (none_some h.1)
answer_epoch u n e j r slot is times (Some a) h =
    back_epoch u (context n e j (Begun r)) (gives j r slot a) (upd r.answers slot None) is (times_after (gives j r slot a).talk.ops times)

deliver_epoch : (u slot : ℕ) (o : Option Context) (is : List Waiting) (times : List ℤ) → OfOwner (StageHas slot) o
    → control_of_epoch u (deliver_owner_on slot o (keyed o is times)) + counted (owner_gives slot o).gone (owner_of_epoch u o + marks_off u is (deliver_owner_on slot o (keyed o is times)).times)
    ≡ owner_of_epoch u o + waiting_of_epoch u is
deliver_epoch u slot None is times h = absurd h
deliver_epoch u slot (Some c) is times h = of c.number c.epoch c.stage h
  where
    of : (n e : ℕ) (st : Stage) → StageHas slot st
        → control_of_epoch u (deliver_owner_on slot (Some (context n e c.job st)) (keyed (Some (context n e c.job st)) is times))
        + counted (owner_gives slot (Some (context n e c.job st))).gone (owner_of_epoch u (Some (context n e c.job st)) + marks_off u is (deliver_owner_on slot (Some (context n e c.job st)) (keyed (Some (context n e c.job st)) is times)).times)
        ≡ owner_of_epoch u (Some (context n e c.job st)) + waiting_of_epoch u is
    of n e Unbegun x = absurd x
    of n e (Begun r) x = answer_epoch u n e c.job r slot is times (r.answers slot) x

-- the others

kept_epoch : (u slot : ℕ) (a : Option Answer) (c : KeyControl) → control_of_epoch u (keeps_answer slot a c) ≡ control_of_epoch u c
kept_epoch u slot a c = of c.owner
  where
    of : (o : Option Context) → control_of_epoch u (keeps_answer slot a (keyed o c.waiting c.times)) ≡ control_of_epoch u (keyed o c.waiting c.times)
    of None = refl
    of (Some x) = refl

due_epoch : (u n e : ℕ) (w : ℤ) (more : ℕ) (is : List Waiting) (times : List ℤ) (c : KeyControl) → c.owner ≡ None → c.waiting ≡ Mark e w (suc more) ∷ is
    → control_of_epoch u (fire_due_on n e w more is times c) ≡ control_of_epoch u c
due_epoch u n e w more is [] c a b = refl
due_epoch u n e w more is (t ∷ ts) c a b = of (int_le t w)
  where
    of : (x : Bool) → control_of_epoch u (cond x (keyed (Some (new_context n e (firing_job w t))) (Mark e w more ∷ is) ts) c) ≡ control_of_epoch u c
    of true = sym (ap₂ (λ (o : Option Context) (js : List Waiting). owner_of_epoch u o + waiting_of_epoch u js) a b)
    of false = refl

fire_epoch : (u n : ℕ) (c : KeyControl) → control_of_epoch u (fire_on n c) ≡ control_of_epoch u c
fire_epoch u n c = of c.owner c.waiting refl refl
  where
    of : (o : Option Context) (is : List Waiting) → c.owner ≡ o → c.waiting ≡ is → control_of_epoch u (fire_front_on n o is c) ≡ control_of_epoch u c
    of None [] a b = refl
    of None (Row i e f ∷ is) a b = refl
    of None (Mark e w zero ∷ is) a b = refl
    of None (Mark e w (suc more) ∷ is) a b = due_epoch u n e w more is c.times c a b
    of (Some x) is a b = refl

row_last : (u : ℕ) (is : List Waiting) (n e : ℕ) (f : Facts) → waiting_of_epoch u (is ++ Row n e f ∷ []) ≡ one_at u e + waiting_of_epoch u is
row_last u [] n e f = refl
row_last u (Row i g h ∷ is) n e f = omega (arith, row_last u is n e f)
row_last u (Mark g v more ∷ is) n e f = omega (arith, row_last u is n e f)

mark_last : (u : ℕ) (is : List Waiting) (e : ℕ) (w : ℤ) (more : ℕ) → waiting_of_epoch u (is ++ Mark e w more ∷ []) ≡ one_at u e + waiting_of_epoch u is
mark_last u [] e w more = refl
mark_last u (Row i g h ∷ is) e w more = omega (arith, mark_last u is e w more)
mark_last u (Mark g v m ∷ is) e w more = omega (arith, mark_last u is e w more)

admit_epoch : (u n e : ℕ) (f : Facts) (c : KeyControl) → control_of_epoch u (admit_on n e f c) ≡ one_at u e + control_of_epoch u c
admit_epoch u n e f c = of c.owner c.waiting
  where
    of : (o : Option Context) (is : List Waiting) → control_of_epoch u (admit_at_on n e f o is c.times) ≡ one_at u e + (owner_of_epoch u o + waiting_of_epoch u is)
    of None [] = omega arith
    of None (i ∷ is) = omega (arith, row_last u (i ∷ is) n e f)
    of (Some x) is = omega (arith, row_last u is n e f)

-- one for each key at which a mark of this epoch stays
mark_epoch : (u e : ℕ) (w : ℤ) (more : ℕ) (c : KeyControl) → control_of_epoch u (mark_on e w more c) ≡ counted (nat_eq e u) (mark_stays w c) + control_of_epoch u c
mark_epoch u e w more c = of c.owner c.waiting
  where
    once : one_at u e ≡ counted (nat_eq e u) 1
    once = refl

    stays : (o : Option Context) (is : List Waiting) → mark_stays_at w o is c.times ≡ 1 → owner_of_epoch u o + waiting_of_epoch u (is ++ Mark e w more ∷ []) ≡ counted (nat_eq e u) (mark_stays_at w o is c.times) + (owner_of_epoch u o + waiting_of_epoch u is)
    stays o is h = let x : counted (nat_eq e u) (mark_stays_at w o is c.times) ≡ one_at u e = ap (counted (nat_eq e u)) h in omega (arith, mark_last u is e w more, x)

    free : (b : Bool) → control_of_epoch u (cond b (keyed None (Mark e w more ∷ []) c.times) (keyed None [] c.times)) ≡ counted (nat_eq e u) (cond b 1 0) + 0
    free true = omega arith
    free false = of_none (nat_eq e u)
      where
        of_none : (x : Bool) → 0 ≡ counted x 0 + 0
        of_none true = refl
        of_none false = refl

    of : (o : Option Context) (is : List Waiting) → control_of_epoch u (mark_at_on e w more o is c.times) ≡ counted (nat_eq e u) (mark_stays_at w o is c.times) + (owner_of_epoch u o + waiting_of_epoch u is)
    of None [] = free (is_due w c.times)
    of None (i ∷ is) = stays None (i ∷ is) refl
    of (Some x) is = stays (Some x) is refl

total_adds : (x : Bool) (f g h : Key → ℕ) (ks : List Key) → ((k : Key) → g k ≡ counted x (h k) + f k) → total ks g ≡ total ks f + counted x (total ks h)
total_adds true f g h [] e = refl
total_adds false f g h [] e = refl
total_adds true f g h (k ∷ ks) e = let a : g k ≡ h k + f k = e k in let b : total ks g ≡ total ks f + total ks h = total_adds true f g h ks e in omega arith
total_adds false f g h (k ∷ ks) e = let a : g k ≡ 0 + f k = e k in let b : total ks g ≡ total ks f + 0 = total_adds false f g h ks e in omega arith

-- the machine

pub free_epoch : (u : ℕ) (c : KeyControl) → IsFreeOn c → control_of_epoch u c ≡ 0
free_epoch u c h = ap₂ (λ (o : Option Context) (is : List Waiting). owner_of_epoch u o + waiting_of_epoch u is) h.owner h.waiting

module _ (m : MachineControl) (busy : HoldBusy m.keys m) where
  pub owned_known : (P : Stage → Type 0) (k : Key) → OfOwner P (m.controls k).owner → list_any (bytes_eq k) m.keys ≡ true
  owned_known P k h = by_cases (list_any (bytes_eq k) m.keys) (λ x. x) (λ x. absurd (subst (OfOwner P) (busy.others k x).owner h))

  pub idle_known : (k : Key) → is_idle_on (m.controls k) ≡ true → list_any (bytes_eq k) m.keys ≡ true
  idle_known k h = by_cases (list_any (bytes_eq k) m.keys) (λ x. x)
      (λ x. absurd (true_false (sym h ∙ ap₂ is_idle_with (busy.others k x).owner (busy.others k x).waiting)))

  own_control : (k : Key) (q : KeyControl) → control_at m.controls k q k ≡ q
  own_control k q = cond-true (bytes_eq k k) q (m.controls k) (same_key k)

  -- where a callback of a key ends
  called : (u : ℕ) (k : Key) (q : KeyControl) (gone : Bool) → list_any (bytes_eq k) m.keys ≡ true
      → control_of_epoch u q + counted gone (owner_of_epoch u (m.controls k).owner + marks_off u (m.controls k).waiting q.times) ≡ control_of_epoch u (m.controls k)
      → total m.keys (λ j. control_of_epoch u (control_at m.controls k q j)) + counted gone (owner_of_epoch u (m.controls k).owner + marks_off u (m.controls k).waiting (control_at m.controls k q k).times)
      ≡ epoch_count_on u m + 0
  called u k q gone known h =
      let a : counted gone (owner_of_epoch u (m.controls k).owner + marks_off u (m.controls k).waiting (control_at m.controls k q k).times)
      ≡ counted gone (owner_of_epoch u (m.controls k).owner + marks_off u (m.controls k).waiting q.times) =
      ap (λ (c : KeyControl). counted gone (owner_of_epoch u (m.controls k).owner + marks_off u (m.controls k).waiting c.times)) (own_control k q) in
      let b : total m.keys (λ j. control_of_epoch u (control_at m.controls k q j)) + counted gone (owner_of_epoch u (m.controls k).owner + marks_off u (m.controls k).waiting q.times) ≡ epoch_count_on u m + 0 =
      shifted (control_of_epoch u) (free_epoch u) m k q (counted gone (owner_of_epoch u (m.controls k).owner + marks_off u (m.controls k).waiting q.times)) 0 busy known (omega arith) in
      omega arith

  same_epoch : (u : ℕ) (k : Key) (q : KeyControl) → list_any (bytes_eq k) m.keys ≡ true → control_of_epoch u q ≡ control_of_epoch u (m.controls k)
      → total m.keys (λ j. control_of_epoch u (control_at m.controls k q j)) + 0 ≡ epoch_count_on u m + 0
  same_epoch u k q known h = shifted (control_of_epoch u) (free_epoch u) m k q 0 0 busy known (omega arith)

  sent_epoch : (u : ℕ) (cs : List Closed) → epoch_count_on u (send_first_on cs m) + 0 ≡ epoch_count_on u m + 0
  sent_epoch u [] = refl
  sent_epoch u (c ∷ cs) = refl

  pub epoch_changes : (r : Rules) (p : Program) (u : ℕ) (e : Happening) (a : Option Answer) → AllowedOn r e m
      → epoch_count_on u (happens_on p e a m) + leaves u e (outcome_on p e m).gone m (happens_on p e a m) ≡ epoch_count_on u m + enters u e m
  epoch_changes r p u (Admit n k time values) a h =
      let q : KeyControl = admit_on n m.epoch (row_facts m.wm time values) (m.controls k) in
      let x : total (insert_key key_cmp m.keys k) (λ j. control_of_epoch u (control_at m.controls k q j)) ≡ epoch_count_on u m + one_at u m.epoch =
      entered (control_of_epoch u) (free_epoch u) m k q (one_at u m.epoch) busy (admit_epoch u n m.epoch (row_facts m.wm time values) (m.controls k)) in
      omega arith
  epoch_changes r p u (Close (ByWatermark w)) a h =
      let x : total m.keys (λ k. control_of_epoch u (mark_on m.epoch w most_firings (m.controls k))) ≡ epoch_count_on u m + counted (nat_eq m.epoch u) (total m.keys (λ k. mark_stays w (m.controls k))) =
      total_adds (nat_eq m.epoch u) (λ k. control_of_epoch u (m.controls k)) (λ k. control_of_epoch u (mark_on m.epoch w most_firings (m.controls k))) (λ k. mark_stays w (m.controls k)) m.keys
      (λ k. mark_epoch u m.epoch w most_firings (m.controls k)) in
      omega arith
  epoch_changes r p u (Close (ByBarrier id)) a h = refl
  epoch_changes r p u (Fire n k) a h = same_epoch u k (fire_on n (m.controls k)) (idle_known k h.1) (fire_epoch u n (m.controls k))
  epoch_changes r p u (Start k) a h = called u k (start_on p (m.controls k)) (owner_starts p (m.controls k).owner).gone (owned_known StageUnbegun k h.1)
      (start_epoch u p (m.controls k).owner (m.controls k).waiting (m.controls k).times h.1)
  epoch_changes r p u (Serve k slot) a h = same_epoch u k (keeps_answer slot a (m.controls k)) (owned_known (StageAsks slot) k h.1) (kept_epoch u slot a (m.controls k))
  epoch_changes r p u (Deliver k slot) a h = called u k (deliver_on slot (m.controls k)) (owner_gives slot (m.controls k).owner).gone (owned_known (StageHas slot) k h.1)
      (deliver_epoch u slot (m.controls k).owner (m.controls k).waiting (m.controls k).times h.1)
  epoch_changes r p u Send a h = sent_epoch u m.unsent

-- the key that must fire

pub own_must : (controls : Key → KeyControl) (k : Key) (q : KeyControl) → must_fire_on k q ≡ must_fire_on k (control_at controls k q k)
own_must controls k q = ap (must_fire_on k) (sym (cond-true (bytes_eq k k) q (controls k) (same_key k)))

pub own_fire : (parts : Key → Part) (k : Key) (q : Part) → must_fire k q ≡ must_fire k (part_at parts k q k)
own_fire parts k q = ap (must_fire k) (sym (cond-true (bytes_eq k k) q (parts k) (same_key k)))

sent_must : (cs : List Closed) (m : MachineControl) → (send_first_on cs m).must ≡ m.must
sent_must [] m = refl
sent_must (c ∷ cs) m = refl

pub none_must : (r : Rules) (p : Program) (e : Happening) (a : Option Answer) (m : MachineControl) → AllowedOn r e m
    → ((k : Key) → e ≡ Start k → ⊥) → ((k : Key) (slot : ℕ) → e ≡ Deliver k slot → ⊥) → (happens_on p e a m).must ≡ None
none_must r p (Admit n k time values) a m h s d = h.0
none_must r p (Close (ByWatermark w)) a m h s d = h.0
none_must r p (Close (ByBarrier id)) a m h s d = h.0
none_must r p (Fire n k) a m h s d = refl
none_must r p (Start k) a m h s d = absurd (s k refl)
none_must r p (Serve k slot) a m h s d = h.0
none_must r p (Deliver k slot) a m h s d = absurd (d k slot refl)
none_must r p Send a m h s d = sent_must m.unsent m ∙ h.0

pub says_must : (r : Rules) (p : Program) (e : Happening) (a : Option Answer) (m : MachineControl) → AllowedOn r e m → (outcome_on p e m).fires ≡ (happens_on p e a m).must
says_must r p (Admit n k time values) a m h = sym h.0
says_must r p (Close (ByWatermark w)) a m h = sym h.0
says_must r p (Close (ByBarrier id)) a m h = sym h.0
says_must r p (Fire n k) a m h = refl
says_must r p (Start k) a m h = refl
says_must r p (Serve k slot) a m h = sym h.0
says_must r p (Deliver k slot) a m h = refl
says_must r p Send a m h = sym (sent_must m.unsent m ∙ h.0)

pub says_none : (p : Program) (e : Happening) (m : MachineControl) → ((k : Key) → e ≡ Start k → ⊥) → ((k : Key) (slot : ℕ) → e ≡ Deliver k slot → ⊥) → (outcome_on p e m).fires ≡ None
says_none p (Admit n k time values) m s d = refl
says_none p (Close c) m s d = refl
says_none p (Fire n k) m s d = refl
says_none p (Start k) m s d = absurd (s k refl)
says_none p (Serve k slot) m s d = refl
says_none p (Deliver k slot) m s d = absurd (d k slot refl)
says_none p Send m s d = refl

-- and of the machine itself

pub keys_hold : (r : Rules) (m : Machine) → IsOrderly r m → IsStrictlySortedBy key_cmp m.keys → HoldBusy m.keys (control_of_machine m)
keys_hold r m o rises = record { rise = rises; others = λ k x. record { owner = ap silent (o.absent k x).owner; waiting = (o.absent k x).waiting } }

pub machine_epochs : (r : Rules) (m : Machine) → IsOrderly r m → IsStrictlySortedBy key_cmp m.keys → (g : ℕ) (p : Program) (u : ℕ) (e : Happening) → Allowed r e m
    → epoch_count u (happens g p e m) + leaves u e (outcome g p e m).gone (control_of_machine m) (control_of_machine (happens g p e m)) ≡ epoch_count u m + enters u e (control_of_machine m)
machine_epochs r m o rises g p u e h =
    let c : MachineControl = control_of_machine m in
    let d : MachineControl = happens_on p e (answer_of_event e m) c in
    let same : control_of_machine (happens g p e m) ≡ d = event_control g p e m in
    let law : epoch_count_on u d + leaves u e (outcome_on p e c).gone c d ≡ epoch_count_on u c + enters u e c = epoch_changes c (keys_hold r m o rises) r p u e (answer_of_event e m) (allowed_to r e m h) in
    let behind : epoch_count_on u (control_of_machine (happens g p e m)) ≡ epoch_count_on u d = ap (epoch_count_on u) same in
    let counts : epoch_count_on u (control_of_machine (happens g p e m)) ≡ epoch_count u (happens g p e m) = epochs_on u (happens g p e m) in
    let before : epoch_count_on u c ≡ epoch_count u m = epochs_on u m in
    let left : leaves u e (outcome g p e m).gone c (control_of_machine (happens g p e m)) ≡ leaves u e (outcome_on p e c).gone c d =
    ap₂ (λ (x : Bool) (y : MachineControl). leaves u e x c y) (gone_on g p e m) same in
    omega arith

pub machine_must : (r : Rules) (g : ℕ) (p : Program) (e : Happening) (m : Machine) → Allowed r e m
    → ((k : Key) → e ≡ Start k → ⊥) → ((k : Key) (slot : ℕ) → e ≡ Deliver k slot → ⊥) → (happens g p e m).must ≡ None
machine_must r g p e m h s d = ap (λ (c : MachineControl). c.must) (event_control g p e m) ∙ none_must r p e (answer_of_event e m) (control_of_machine m) (allowed_to r e m h) s d

pub machine_says : (r : Rules) (g : ℕ) (p : Program) (e : Happening) (m : Machine) → Allowed r e m → (outcome g p e m).fires ≡ (happens g p e m).must
machine_says r g p e m h = fires_on g p e m ∙ says_must r p e (answer_of_event e m) (control_of_machine m) (allowed_to r e m h) ∙ sym (ap (λ (c : MachineControl). c.must) (event_control g p e m))
